use Rattle.board_run.proofs.Common.{◌∙◌, sym, ap, arith, inl, inr, None, length-set, slice_get, slice_set, slice_get_within, some_same, lt_or_eq, get_set_same}
use Rattle.board_run.proofs.Common.{get_set_other}
use Rattle.board_run.proofs.hand.forget.Goals as goal

pub loop-i-preserved : goal.loop-i-preserved
loop-i-preserved c =
    let l = c.loop-i in
    let inside = c.loop-i-test.true in
    record {
      none = λ k a less ea. elim (lt_or_eq k l.i less) [
        | inl before ↦ l.invariant.none k a before (sym (get_set_other l.answers l.i k None (omega (arith, before))) ∙ ea)
        | inr same ↦ some_same (sym ea ∙ ap (slice_get (slice_set l.answers l.i None)) same ∙ get_set_same l.answers l.i None (omega (arith, l.invariant.long, inside)))
      ];
      long = length-set l.answers l.i None ∙ l.invariant.long;
    }

pub returns-clause-none : goal.returns-clause-none
returns-clause-none c = λ k a ea. c.loop-i.invariant.none k a (omega (arith, slice_get_within c.loop-i.answers k a ea, c.loop-i.invariant.long, c.loop-i-test.false)) ea
