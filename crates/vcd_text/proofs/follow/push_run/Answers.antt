use Rattle.std.proofs.Common.{◌≡◌, ℕ, ◌+◌, min, subst, arith}
use Rattle.std.specs.Prelude.{slice_index}
use Rattle.vcd_text.specs.Chains.{IsNext, OnChain}
use Rattle.vcd_text.specs.Written.{IsWritten}
use Rattle.vcd_text.proofs.ChainLemmas.{chain_on, next_from}
use Rattle.vcd_text.proofs.WrittenLemmas.{written_far}
use Rattle.vcd_text.proofs.follow.push_run.Goals as goal

pub loop-at-preserved : goal.loop-at-preserved
loop-at-preserved c =
    let l = c.loop-at in
    let inv = l.invariant in
    let inside = c.requires.inside in
    let less = c.loop-at-test.true in
    let j : ℕ = slice_index c.args.next.now l.at in
    let on : (k : OnChain c.args.next.now (min c.args.at c.args.bound) c.args.at) → IsNext k.shows k.net (l.at + 1) j = λ k. chain_on c.args.next.now (min c.args.at c.args.bound) c.args.at l.at c.args.bound k less (omega (arith, inside, c.requires.long)) (inv.next k) in
    let first = on c.requires.chain in
    let more = first.order in
    let short = c.put_value.ensures.short in
    let same_room = c.put_value.ensures.room in
    record {
      order = let o = inv.order in omega (arith, more, o);
      room = let room = inv.room in omega (arith, more, less, short, same_room, room);
      counts = let counts = inv.counts in let few = c.put_value.ensures.few in omega (arith, more, less, counts, few);
      next = λ k. let n = on k in next_from k.shows k.net (l.at + 1) (min j c.args.bound) j (omega (arith, more, less)) (omega arith) n;
      written = λ k last new from run w.
          let n = on k in
          let here : min l.at c.args.bound ≡ l.at = omega (arith, less) in
          let was : IsWritten last new from l.at l.count l.values l.out = subst (λ (i : ℕ). IsWritten last new from i l.count l.values l.out) here (inv.written k last new from run w) in
          written_far last new from (l.at + 1) (min j c.args.bound) (l.count + c.put_value.result) c.put_value.new.values c.put_value.new.out (omega (arith, more, less)) run.long
          (λ i least under. let o = inv.order in run.others i (omega (arith, least, o)) (omega (arith, under)) (n.none i least (omega (arith, under))))
          (c.put_value.ensures.written last new from l.count run.long (run.own l.at ((inv.next k).here (omega (arith, less, inside, c.requires.long, k.chains.long)))) was);
    }

pub returns-clause-written : goal.returns-clause-written
returns-clause-written c = λ k last new from run w.
    let l = c.loop-at in
    let end : min l.at c.args.bound ≡ c.args.bound = omega (arith, c.loop-at-test.false) in
    subst (λ (i : ℕ). IsWritten last new from i l.count l.values l.out) end (l.invariant.written k last new from run w)
