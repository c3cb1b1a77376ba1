use Rattle.std.proofs.Common.{◌≤◌, ◌+◌, ◌∷◌, [], sym, ap, ◌∙◌, map, drop, length, List, length-append}
use Rattle.std.proofs.lemmas.Result.{err_from_is_err_and}
use Rattle.toml.specs.Data.{Data}
use Rattle.toml.specs.View.{view}
use Rattle.document_model.specs.Project.{chips_after}
use Rattle.document_model.specs.declared.project.ChipFile.{ChipFile}
use Rattle.project_files.proofs.DocumentLemmas.{chip_read, chip_refused, chips_all, items_more}
use Rattle.std.proofs.lemmas.List.{drop_all, length-map}
use Rattle.project_files.proofs.chips.read_items.Goals as goal

pub returns-in_err-read_chip : goal.returns-in_err-read_chip
returns-in_err-read_chip c =
    let l = c.loop-i in
    let q = err_from_is_err_and c.from_residual.result c.from_residual.ensures.1 in
    rw (q.1, q.2) (chip_refused (λ (xs : List ChipFile). xs) l.chips c.as_slice.result.now l.i _ _ _ _ c.in_err-read_chip.field-0.0 l.invariant.so_far
    (items_more c.args.values.now l.i c.index-values-i.result c.loop-i-test.true c.index-values-i.is) l.invariant.count c.as_slice.ensures c.in_err-read_chip.ensures)

pub loop-i-preserved : goal.loop-i-preserved
loop-i-preserved c =
    let l = c.loop-i in
    let pushed = c.in_ok-push.ensures.ok in
    record {
      so_far =
          ap (λ (xs : List ChipFile). chips_after xs (drop (l.i + 1) (map view c.args.values.now))) pushed
          ∙ chip_read l.chips c.as_slice.result.now l.i _ _ _ _ c.in_ok-read_chip.field-0 l.invariant.so_far
          (items_more c.args.values.now l.i c.index-values-i.result c.loop-i-test.true c.index-values-i.is) l.invariant.count c.as_slice.ensures c.in_ok-read_chip.ensures;
      count = ap length pushed ∙ length-append l.chips (c.in_ok-read_chip.field-0 ∷ []) ∙ ap (λ n. n + 1) l.invariant.count;
    }

pub returns : goal.returns
returns c =
    let l = c.loop-i in
    let n : length (map view c.args.values.now) ≤ l.i = rw (length-map c.args.values.now view) c.loop-i-test.false in
    sym l.invariant.so_far
    ∙ ap (λ (ds : List Data). chips_after l.chips ds) (drop_all l.i (map view c.args.values.now) n)
    ∙ chips_all l.chips
