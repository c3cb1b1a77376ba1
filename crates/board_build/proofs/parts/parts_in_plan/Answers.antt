use Rattle.std.proofs.Common.{◌<◌, ◌≤◌, ◌+◌, ap, ◌∙◌, drop, get_or, length, List, arith}
use Rattle.std.proofs.lemmas.Result.{err_from_is_err_and}
use Rattle.std.specs.List.{zip}
use Rattle.document_model.specs.Reading.{each_from}
use Rattle.board_build.specs.declared.plan.PlanPart.{PlanPart}
use Rattle.board_build.specs.Parts.{part_in_plan}
use Rattle.board_build.proofs.EachLemmas.{with_front, each_more, each_refused, each_done, zip_long, zip_at}
use Rattle.board_build.proofs.parts.parts_in_plan.Goals as goal

pub returns-in_err-part_in_plan : goal.returns-in_err-part_in_plan
returns-in_err-part_in_plan c =
    let l = c.loop-i in
    let kinds = c.args.kinds.now in
    let parts = c.args.parts.now in
    let inside : l.i < length kinds = omega (arith, c.requires.same, c.loop-i-test.true) in
    let q = err_from_is_err_and c.from_residual.result c.from_residual.ensures.1 in
    rw (q.1, q.2) (each_refused (λ (planned : List PlanPart). planned) l.planned part_in_plan l.i (zip kinds parts) (get_or kinds l.i _, c.index-parts-i.result) c.in_err-part_in_plan.field-0.0 _
    (rw (zip_long kinds parts c.requires.same) c.loop-i-test.true)
    (zip_at kinds parts l.i _ c.index-parts-i.result inside c.loop-i-test.true c.index-parts-i.is) c.in_err-part_in_plan.ensures l.invariant)

pub loop-i-preserved : goal.loop-i-preserved
loop-i-preserved c =
    let l = c.loop-i in
    let kinds = c.args.kinds.now in
    let parts = c.args.parts.now in
    let inside : l.i < length kinds = omega (arith, c.requires.same, c.loop-i-test.true) in
    ap (λ (planned : List PlanPart). with_front planned (each_from part_in_plan (l.i + 1 + 1) (drop (l.i + 1) (zip kinds parts)))) c.in_ok-push.ensures.ok
    ∙ each_more l.planned part_in_plan l.i (zip kinds parts) (get_or kinds l.i _, c.index-parts-i.result) c.in_ok-part_in_plan.field-0 _
    (rw (zip_long kinds parts c.requires.same) c.loop-i-test.true)
    (zip_at kinds parts l.i _ c.index-parts-i.result inside c.loop-i-test.true c.index-parts-i.is) c.in_ok-part_in_plan.ensures l.invariant

pub returns : goal.returns
returns c =
    let l = c.loop-i in
    let past : length (zip c.args.kinds.now c.args.parts.now) ≤ l.i = rw (zip_long c.args.kinds.now c.args.parts.now c.requires.same) c.loop-i-test.false in
    each_done l.planned part_in_plan l.i (zip c.args.kinds.now c.args.parts.now) _ past l.invariant
