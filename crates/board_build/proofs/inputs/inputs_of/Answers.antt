use Rattle.std.proofs.Common.{◌+◌, ap, ◌∙◌, drop, List, ℕ}
use Rattle.std.proofs.lemmas.Result.{err_from_is_err_and}
use Rattle.sim_base.specs.declared.wiring.Input.{Input}
use Rattle.document_model.specs.Reading.{each_from}
use Rattle.board_build.specs.Ids.{ids_in}
use Rattle.board_build.specs.Parts.{input_of}
use Rattle.board_build.proofs.EachLemmas.{with_front, each_more, each_refused, each_done}
use Rattle.board_build.proofs.inputs.inputs_of.Goals as goal

pub returns-in_err-input_of : goal.returns-in_err-input_of
returns-in_err-input_of c =
    let l = c.loop-row in
    let q = err_from_is_err_and c.from_residual.result c.from_residual.ensures.1 in
    rw (q.1, q.2) (each_refused (λ (inputs : List Input). inputs) l.inputs (λ k. input_of (ids_in c.args.ids.now) c.args.kinds.now) l.row-index c.args.rows.now c.row-item.result c.in_err-input_of.field-0.0 _
    c.loop-row-test.true c.row-item.is c.in_err-input_of.ensures l.invariant)

pub loop-row-preserved : goal.loop-row-preserved
loop-row-preserved c =
    let l = c.loop-row in
    let f = λ (k : ℕ). input_of (ids_in c.args.ids.now) c.args.kinds.now in
    ap (λ (inputs : List Input). with_front inputs (each_from f (l.row-index + 1 + 1) (drop (l.row-index + 1) c.args.rows.now))) c.in_ok-push.ensures.ok
    ∙ each_more l.inputs f l.row-index c.args.rows.now c.row-item.result c.in_ok-input_of.field-0 _ c.loop-row-test.true c.row-item.is c.in_ok-input_of.ensures l.invariant

pub returns : goal.returns
returns c = each_done c.loop-row.inputs (λ k. input_of (ids_in c.args.ids.now) c.args.kinds.now) c.loop-row.row-index c.args.rows.now _ c.loop-row-test.false c.loop-row.invariant
