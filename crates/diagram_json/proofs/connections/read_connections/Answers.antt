use Rattle.std.proofs.Common.{◌≤◌, ◌+◌, sym, ap, ◌∙◌, map, drop, length, List}
use Rattle.std.proofs.lemmas.Result.{err_from_is_err_and}
use Rattle.std.specs.Option.{option_to_list}
use Rattle.serde_json.specs.Data.{Data}
use Rattle.serde_json.specs.View.{view}
use Rattle.document_model.specs.Reading.{each_from}
use Rattle.document_model.specs.Diagram.{wire_of}
use Rattle.document_model.specs.declared.diagram.Wire.{Wire}
use Rattle.diagram_json.proofs.DocumentLemmas.{behind, behind_all, item_read, item_refused, items_more}
use Rattle.std.proofs.lemmas.List.{drop_all, length-map}
use Rattle.diagram_json.proofs.connections.read_connections.Goals as goal

pub returns-in_err-read_connection : goal.returns-in_err-read_connection
returns-in_err-read_connection c =
    let l = c.loop-i in
    let q = err_from_is_err_and c.from_residual.result c.from_residual.ensures.1 in
    rw (q.1, q.2) (item_refused (λ (ws : List Wire). ws) option_to_list l.wires wire_of (l.i + 1) _ _ _ _ c.in_err-read_connection.field-0.0 l.invariant
    (items_more c.args.values.now l.i c.index-values-i.result c.loop-i-test.true c.index-values-i.is) c.in_err-read_connection.ensures)

pub loop-i-preserved : goal.loop-i-preserved
loop-i-preserved c =
    let l = c.loop-i in
    ap (λ (ws : List Wire). behind option_to_list ws (each_from wire_of (l.i + 1 + 1) (drop (l.i + 1) (map view c.args.values.now)))) c.in_ok-keep.ensures
    ∙ item_read option_to_list l.wires wire_of (l.i + 1) _ _ _ _ c.in_ok-read_connection.field-0 l.invariant
    (items_more c.args.values.now l.i c.index-values-i.result c.loop-i-test.true c.index-values-i.is) c.in_ok-read_connection.ensures

pub returns : goal.returns
returns c =
    let l = c.loop-i in
    let n : length (map view c.args.values.now) ≤ l.i = rw (length-map c.args.values.now view) c.loop-i-test.false in
    sym l.invariant
    ∙ ap (λ (ds : List Data). behind option_to_list l.wires (each_from wire_of (l.i + 1) ds)) (drop_all l.i (map view c.args.values.now) n)
    ∙ behind_all option_to_list l.wires wire_of (l.i + 1)
