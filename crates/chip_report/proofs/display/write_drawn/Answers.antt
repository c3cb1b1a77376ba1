use Rattle.std.proofs.Common.{ℕ, List, [], ◌∷◌, ◌++◌, ◌∙◌, sym, ap}
use Rattle.std.specs.List.{flat_map}
use Rattle.sim_base.specs.declared.bench.Port.TheVariants as ports
use Rattle.sim_outcome_model.proofs.WriteLemmas.{others_more}
use Rattle.sim_report.specs.Lines.{hex_byte}
use Rattle.chip_report.specs.Lines.{row_opening}
use Rattle.chip_report.proofs.WriteLemmas.{goes_from, digits_more, row_written}
use Rattle.chip_report.proofs.display.write_drawn.Goals as goal

pub loop-b-init : goal.loop-b-init
loop-b-init g c =
    let begun = c.begin_row-end in
    let last = flat_map hex_byte c.args.row.now ++ 10 ∷ [] in
    let whole = row_opening c.args.id.now c.args.y ++ last in
    let none = c.new-piece.result.items in
    record {
      goes = goes_from c.args.end begun.result whole (none ++ whole) (begun.new.piece.items ++ last) (g.B.Bench.outside c.args.bench.now) (g.B.Bench.outside begun.new.bench)
          (ap (λ (l : List ℕ). l ++ whole) (sym c.new-piece.ensures)) (begun.ensures.goes last);
      named = begun.ensures.named;
      opened = begun.ensures.opened;
      others = begun.ensures.others;
    }

pub loop-b-preserved : goal.loop-b-preserved
loop-b-preserved g c =
    let l = c.loop-b in
    let put = c.put-end in
    let row = c.args.row.now in
    record {
      goes = digits_more c.args.end l.end put.result (row_opening c.args.id.now c.args.y ++ (flat_map hex_byte row ++ 10 ∷ [])) row l.piece.items put.new.piece.items c.byte_digits-digits.result l.b-index
          (g.B.Bench.outside c.args.bench.now) (g.B.Bench.outside l.bench) (g.B.Bench.outside put.new.bench) c.loop-b-test.true l.invariant.goes c.byte_digits-digits.ensures put.ensures.goes;
      named = put.ensures.named ∙ l.invariant.named;
      opened = put.ensures.opened;
      others = others_more ports.Report _ _ _ l.invariant.others put.ensures.others;
    }

pub returns-clause-next : goal.returns-clause-next
returns-clause-next g c =
    let l = c.loop-b in
    let put = c.put-end-2 in
    row_written c.args.end l.end put.result c.write_next.result c.args.id.now c.args.row.now l.piece.items put.new.piece.items c.as_slice.result.now c.args.y l.b-index
    (g.B.Bench.outside c.args.bench.now) (g.B.Bench.outside l.bench) (g.B.Bench.outside put.new.bench) (g.B.Bench.outside c.write_next.new.bench)
    c.requires.drawn c.loop-b-test.false l.invariant.goes put.ensures.goes c.as_slice.ensures.value c.write_next.ensures.next
