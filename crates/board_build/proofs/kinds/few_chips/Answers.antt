use Rattle.std.proofs.Common.{◌<◌, ◌+◌, ◌-◌, ◌∙◌, ap, sym, drop, None, List, ℕ, arith, slice_get}
use Rattle.board_build.specs.Parts.{is_chip, numbers_from, no_ninth}
use Rattle.board_build.proofs.CountLemmas.{numbers_yes, numbers_no, numbers_end, ninth_later}
use Rattle.board_build.proofs.kinds.few_chips.Goals as goal
use Rattle.board_build.proofs.kinds.few_chips.Goals.{then-is_chip+else-chips-eq8, else-is_chip}

pub returns-then-chips-eq8 : goal.returns-then-chips-eq8
returns-then-chips-eq8 c =
    let l = c.loop-i in
    let numbers = numbers_yes is_chip c.args.kinds.now l.i None c.loop-i-test.true (sym c.is_chip.ensures ∙ c.if-is_chip.true) in
    rw c.refused.ensures (
    sym l.invariant.rest
    ∙ ap (λ (n : ℕ). no_ninth (slice_get (numbers_from is_chip (l.i + 1) (drop l.i c.args.kinds.now)) (8 - n))) c.if-chips-eq8.true
    ∙ ap (λ (ns : List ℕ). no_ninth (slice_get ns 0)) numbers)

pub loop-i-preserved : goal.loop-i-preserved
loop-i-preserved c =
    let l = c.loop-i in
    let kinds = c.args.kinds.now in
    let before : List ℕ = numbers_from is_chip (l.i + 1) (drop l.i kinds) in
    let after : List ℕ = numbers_from is_chip (l.i + 1 + 1) (drop (l.i + 1) kinds) in
    elim c.if-is_chip.branch [
      | then-is_chip+else-chips-eq8 w ↦
          let below : l.chips < 8 = omega (arith, l.invariant.few, w.if-chips-eq8.false) in
          let numbers = numbers_yes is_chip kinds l.i None c.loop-i-test.true (sym c.is_chip.ensures ∙ w.if-is_chip.true) in
          record {
            few = omega (arith, w.chips-is);
            rest = ap (λ (n : ℕ). no_ninth (slice_get after (8 - n))) w.chips-is ∙ ap no_ninth (sym (ninth_later l.chips (l.i + 1) before after below numbers)) ∙ l.invariant.rest;
          }
      | else-is_chip w ↦
          let numbers = numbers_no is_chip kinds l.i None c.loop-i-test.true (sym c.is_chip.ensures ∙ w.if-is_chip.false) in
          record {
            few = omega (arith, w.chips-is, l.invariant.few);
            rest = ap (λ (n : ℕ). no_ninth (slice_get after (8 - n))) w.chips-is ∙ ap (λ (ns : List ℕ). no_ninth (slice_get ns (8 - l.chips))) (sym numbers) ∙ l.invariant.rest;
          }
    ]

pub returns : goal.returns
returns c =
    let l = c.loop-i in
    sym l.invariant.rest ∙ ap (λ (ns : List ℕ). no_ninth (slice_get ns (8 - l.chips))) (numbers_end is_chip c.args.kinds.now l.i (l.i + 1) c.loop-i-test.false)
