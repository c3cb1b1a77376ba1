use Rattle.board_run.proofs.Common.{◌≡◌, ◌∙◌, arith, sym, ap, subst, inl, inr, ℕ, Some, eqb, slice_get, list_any, slice_get_within, lt_or_eq, PartSet}
use Rattle.board_run.proofs.Common.{has_part, part_nets}
use Rattle.board_run.proofs.TurnLemmas.{some_there}
use Rattle.board_run.proofs.PartLemmas.{put_here, put_elsewhere, part_nets_from}
use Rattle.board_run.proofs.start.put_parts.Goals as goal

pub loop-i-preserved : goal.loop-i-preserved
loop-i-preserved c =
    let inv = c.loop-i.invariant in
    let i = c.loop-i.i in
    let w = c.args.wiring.now in
    let firsts = c.as_slice-firsts.result.now in
    let pins = c.as_slice-pins.result.now in
    let nets = part_nets_from w firsts pins i c.end_pin-end.result c.as_slice-firsts.ensures c.as_slice-pins.ensures c.end_pin-end.ensures in
    let was = λ (n : ℕ) (set : PartSet) (es : slice_get c.put_part.new.on n ≡ Some set). some_there c.loop-i.on n (omega (arith, slice_get_within c.put_part.new.on n set es, c.put_part.auto.on)) in
    record {
      long = c.put_part.auto.on ∙ inv.long;
      done = λ n k set l es. let a = was n set es in elim (lt_or_eq k i l) [
        | inl less ↦ c.put_part.ensures.on n k a.0 set a.1 es ∙ put_elsewhere (has_part a.0 k) k i _ (omega (arith, less)) ∙ inv.done n k a.0 less a.1
        | inr same ↦
            subst (λ (j : ℕ). has_part set j ≡ list_any (eqb n) (part_nets w j)) (sym same)
            (c.put_part.ensures.on n i a.0 set a.1 es ∙ put_here (has_part a.0 i) i _ (inv.rest n i a.0 (omega arith) a.1) ∙ ap (list_any (eqb n)) nets)
      ];
      rest = λ n k set l es. let a = was n set es in c.put_part.ensures.on n k a.0 set a.1 es ∙ put_elsewhere (has_part a.0 k) k i _ (omega (arith, l)) ∙ inv.rest n k a.0 (omega (arith, l)) a.1;
    }
