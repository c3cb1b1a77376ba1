use Rattle.std.proofs.Common.{◌+◌, ap, ◌∙◌, drop, get_or, List, None}
use Rattle.std.proofs.lemmas.Result.{err_from_is_err_and}
use Rattle.std.proofs.lemmas.List.{get_or_default}
use Rattle.document_model.specs.Reading.{each_from}
use Rattle.board_build.specs.declared.plan.PlanKind.{PlanKind}
use Rattle.board_build.specs.Parts.{found_chip}
use Rattle.board_build.proofs.EachLemmas.{with_front, each_more, each_refused, each_done}
use Rattle.board_build.proofs.kinds.found_chips.Goals as goal

pub returns-in_err-found_chip : goal.returns-in_err-found_chip
returns-in_err-found_chip c =
    let l = c.loop-i in
    let kinds = c.args.kinds.now in
    let q = err_from_is_err_and c.from_residual.result c.from_residual.ensures.1 in
    rw (q.1, q.2) (each_refused (λ (found : List PlanKind). found) l.found found_chip l.i kinds (get_or kinds l.i None) c.in_err-found_chip.field-0.0 _
    c.loop-i-test.true (get_or_default kinds l.i None _ c.loop-i-test.true) c.in_err-found_chip.ensures l.invariant)

pub loop-i-preserved : goal.loop-i-preserved
loop-i-preserved c =
    let l = c.loop-i in
    let kinds = c.args.kinds.now in
    ap (λ (found : List PlanKind). with_front found (each_from found_chip (l.i + 1 + 1) (drop (l.i + 1) kinds))) c.in_ok-push.ensures.ok
    ∙ each_more l.found found_chip l.i kinds (get_or kinds l.i None) c.in_ok-found_chip.field-0 _ c.loop-i-test.true (get_or_default kinds l.i None _ c.loop-i-test.true) c.in_ok-found_chip.ensures l.invariant

pub returns : goal.returns
returns c = each_done c.loop-i.found found_chip c.loop-i.i c.args.kinds.now _ c.loop-i-test.false c.loop-i.invariant
