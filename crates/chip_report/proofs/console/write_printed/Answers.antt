use Rattle.std.proofs.Common.{ℕ, List, ◌++◌, ◌∙◌, false, refl, sym, ap}
use Rattle.sim_base.specs.declared.bench.Port.TheVariants as ports
use Rattle.sim_outcome_model.proofs.WriteLemmas.{others_more}
use Rattle.chip_report.specs.Lines.{console_opening}
use Rattle.chip_report.specs.Writing.{rest_text}
use Rattle.chip_report.proofs.WriteLemmas.{goes_none, byte_more, console_written}
use Rattle.chip_report.proofs.console.write_printed.Goals as goal

pub loop-b-init : goal.loop-b-init
loop-b-init g c =
    let whole = rest_text (console_opening c.args.id.now) false c.args.text.now in
    record {
      goes = goes_none c.args.end whole (c.new-piece.result.items ++ whole) (g.B.Bench.outside c.args.bench.now) (ap (λ (l : List ℕ). l ++ whole) (sym c.new-piece.ensures));
      named = refl;
      opened = c.requires;
      others = record { files = refl; requests = refl; reads = refl; written = λ q ne. refl; name = λ q ne. refl; opened = λ q ne. refl; faults = λ q ne. refl };
    }

pub loop-b-preserved : goal.loop-b-preserved
loop-b-preserved g c =
    let l = c.loop-b in
    let put = c.put_byte-end in
    let word = console_opening c.args.id.now in
    let text = c.args.text.now in
    record {
      goes = byte_more c.args.end l.end put.result (rest_text word false text) word text l.piece.items put.new.piece.items l.begun l.b-index
          (g.B.Bench.outside c.args.bench.now) (g.B.Bench.outside l.bench) (g.B.Bench.outside put.new.bench) c.loop-b-test.true l.invariant.goes put.ensures.goes;
      named = put.ensures.named ∙ l.invariant.named;
      opened = put.ensures.opened;
      others = others_more ports.Report _ _ _ l.invariant.others put.ensures.others;
    }

pub returns-clause-next : goal.returns-clause-next
returns-clause-next g c =
    let l = c.loop-b in
    let last = c.end_line-end in
    console_written c.args.end l.end last.result c.write_next.result c.args.id.now c.args.text.now l.piece.items last.new.piece.items c.as_slice.result.now l.begun l.b-index
    (g.B.Bench.outside c.args.bench.now) (g.B.Bench.outside l.bench) (g.B.Bench.outside last.new.bench) (g.B.Bench.outside c.write_next.new.bench)
    c.loop-b-test.false l.invariant.goes last.ensures.goes c.as_slice.ensures.value c.write_next.ensures.next
