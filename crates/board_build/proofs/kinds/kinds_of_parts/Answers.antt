use Rattle.std.proofs.Common.{◌+◌, ap, ◌∙◌, drop, List, Option}
use Rattle.std.proofs.lemmas.Result.{err_from_is_err_and}
use Rattle.document_model.specs.Reading.{each_from}
use Rattle.board_build.specs.declared.plan.PlanKind.{PlanKind}
use Rattle.board_build.specs.Parts.{kind_of_part}
use Rattle.board_build.proofs.EachLemmas.{with_front, front_none, each_more, each_refused, each_done}
use Rattle.board_build.proofs.kinds.kinds_of_parts.Goals as goal

pub loop-i-init : goal.loop-i-init
loop-i-init c = rw c.new-kinds.ensures (front_none (each_from (kind_of_part c.args.chips.now) 1 c.args.parts.now))

pub returns-in_err-kind_of_part : goal.returns-in_err-kind_of_part
returns-in_err-kind_of_part c =
    let l = c.loop-i in
    let q = err_from_is_err_and c.from_residual.result c.from_residual.ensures.1 in
    rw (q.1, q.2) (each_refused (λ (kinds : List (Option PlanKind)). kinds) l.kinds (kind_of_part c.args.chips.now) l.i c.args.parts.now c.index-parts-i.result c.in_err-kind_of_part.field-0.0 _
    c.loop-i-test.true c.index-parts-i.is c.in_err-kind_of_part.ensures l.invariant)

pub loop-i-preserved : goal.loop-i-preserved
loop-i-preserved c =
    let l = c.loop-i in
    let f = kind_of_part c.args.chips.now in
    ap (λ (kinds : List (Option PlanKind)). with_front kinds (each_from f (l.i + 1 + 1) (drop (l.i + 1) c.args.parts.now))) c.in_ok-push.ensures.ok
    ∙ each_more l.kinds f l.i c.args.parts.now c.index-parts-i.result c.in_ok-kind_of_part.field-0 _ c.loop-i-test.true c.index-parts-i.is c.in_ok-kind_of_part.ensures l.invariant

pub returns : goal.returns
returns c = each_done c.loop-i.kinds (kind_of_part c.args.chips.now) c.loop-i.i c.args.parts.now _ c.loop-i-test.false c.loop-i.invariant
