use Rattle.std.proofs.Common.{◌≡◌, ◌<◌, ◌≤◌, ◌+◌, ◌-◌, ◌*◌, ◌/◌, ◌∙◌, ℕ, suc, Bool, ap, sym, arith}
use Rattle.sim_base.specs.Signal.{reads}
use Rattle.wave_decode.specs.Bits.{bit_of, taken}
use Rattle.wave_decode.specs.Wires.{read_later}
use Rattle.wave_decode.proofs.BitLemmas.{eight_taken, taken_more, taken_none}
use Rattle.wave_decode.proofs.RisingLemmas.{rising_from}
use Rattle.wave_decode.proofs.hear.byte_from.Goals as goal

pub loop-preserved : goal.loop-preserved
loop-preserved c =
    let l = c.loop in
    let line : ℕ → Bool = read_later c.args.wire.level c.args.wire.rows.now in
    let bit : ℕ = c.args.bit in
    let less : l.counter < 8 = c.loop-test.true in
    let wire = c.wire_at-wire in
    let early = l.invariant.early in
    let bits = c.requires.bit in
    record {
      later = λ u least. (let here : l.at ≤ u = omega (arith, least) in wire.ensures.later u here ∙ l.invariant.later u here);
      rising = rising_from _ (suc l.at) 0 (omega arith) wire.ensures.rising;
      taken_so_far =
          ap (λ (v : ℕ). taken line bit (l.at + bit) (8 - (l.counter + 1)) v)
          (c.pushed-value.ensures ∙ ap (λ (b : Bool). l.value / 2 + 128 * bit_of b)
          (c.reads_one.ensures ∙ ap reads (sym wire.ensures.level ∙ l.invariant.later l.at (omega arith))))
          ∙ sym (taken_more line bit l.at l.counter l.value less) ∙ l.invariant.taken_so_far;
      early = omega (arith, early, bits);
    }

pub returns : goal.returns
returns c =
    let l = c.loop in
    let line : ℕ → Bool = read_later c.args.wire.level c.args.wire.rows.now in
    let past = c.loop-test.false in
    let none : 8 - l.counter ≡ 0 = omega (arith, past) in
    sym (taken_none line c.args.bit l.at l.value) ∙ ap (λ (k : ℕ). taken line c.args.bit l.at k l.value) (sym none) ∙ l.invariant.taken_so_far ∙ eight_taken line c.args.bit c.args.t
