use Rattle.std.proofs.Common.{◌≤◌, ◌+◌, sym, ap, ◌∙◌, map, drop, length, List}
use Rattle.std.proofs.lemmas.Result.{err_from_is_err_and}
use Rattle.serde_json.specs.Data.{Data}
use Rattle.serde_json.specs.View.{view}
use Rattle.document_model.specs.Reading.{each_from}
use Rattle.document_model.specs.Diagram.{part_of}
use Rattle.document_model.specs.declared.diagram.PartText.{PartText}
use Rattle.diagram_json.proofs.DocumentLemmas.{alone, behind, behind_all, item_read, item_refused, items_more, none_behind}
use Rattle.std.proofs.lemmas.List.{drop_all, length-map}
use Rattle.diagram_json.proofs.parts.read_parts.Goals as goal

pub loop-i-init : goal.loop-i-init
loop-i-init c = rw c.new-parts.ensures (none_behind (each_from part_of 1 (map view c.args.values.now)))

pub returns-in_err-read_part : goal.returns-in_err-read_part
returns-in_err-read_part c =
    let l = c.loop-i in
    let q = err_from_is_err_and c.from_residual.result c.from_residual.ensures.1 in
    rw (q.1, q.2) (item_refused (λ (ps : List PartText). ps) alone l.parts part_of (l.i + 1) _ _ _ _ c.in_err-read_part.field-0.0 l.invariant
    (items_more c.args.values.now l.i c.index-values-i.result c.loop-i-test.true c.index-values-i.is) c.in_err-read_part.ensures)

pub loop-i-preserved : goal.loop-i-preserved
loop-i-preserved c =
    let l = c.loop-i in
    ap (λ (ps : List PartText). behind alone ps (each_from part_of (l.i + 1 + 1) (drop (l.i + 1) (map view c.args.values.now)))) c.in_ok-push.ensures.ok
    ∙ item_read alone l.parts part_of (l.i + 1) _ _ _ _ c.in_ok-read_part.field-0 l.invariant
    (items_more c.args.values.now l.i c.index-values-i.result c.loop-i-test.true c.index-values-i.is) c.in_ok-read_part.ensures

pub returns : goal.returns
returns c =
    let l = c.loop-i in
    let n : length (map view c.args.values.now) ≤ l.i = rw (length-map c.args.values.now view) c.loop-i-test.false in
    sym l.invariant
    ∙ ap (λ (ds : List Data). behind alone l.parts (each_from part_of (l.i + 1) ds)) (drop_all l.i (map view c.args.values.now) n)
    ∙ behind_all alone l.parts part_of (l.i + 1)
