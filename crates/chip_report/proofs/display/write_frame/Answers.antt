use Rattle.std.proofs.Common.{◌*◌, ◌∙◌, refl}
use Rattle.sim_base.specs.declared.bench.Port.TheVariants as ports
use Rattle.sim_outcome_model.proofs.WriteLemmas.{others_more}
use Rattle.chip_report.specs.Lines.{rows_text}
use Rattle.chip_report.proofs.WriteLemmas.{size_begin, row_fits, size_left, rows_begin, rows_more, rows_end}
use Rattle.chip_report.proofs.display.write_frame.Goals as goal

pub loop-y-init : goal.loop-y-init
loop-y-init g c = record {
  goes = rows_begin c.args.end c.args.id.now c.args.pixels.now (4 * c.args.width) c.args.height (g.B.Bench.outside c.args.bench.now);
  size = size_begin c.args.width c.args.height _ c.requires.size;
  named = refl;
  opened = c.requires.opened;
  others = record { files = refl; requests = refl; reads = refl; written = λ q ne. refl; name = λ q ne. refl; opened = λ q ne. refl; faults = λ q ne. refl };
}

pub split_at-requires : goal.split_at-requires
split_at-requires g c = row_fits c.loop-y.y c.args.height (4 * c.args.width) c.loop-y-test.true _ c.loop-y.invariant.size

pub loop-y-preserved : goal.loop-y-preserved
loop-y-preserved g c =
    let l = c.loop-y in
    let count = 4 * c.args.width in
    let row = c.split_at.result.0.now in
    let others = c.split_at.result.1.now in
    let wrote = c.write_row-end in
    record {
      goes = rows_more l.y c.args.height count c.loop-y-test.true c.args.end l.end wrote.result (rows_text c.args.id.now count 0 c.args.height c.args.pixels.now) c.args.id.now l.rest.now row others
          (g.B.Bench.outside c.args.bench.now) (g.B.Bench.outside l.bench) (g.B.Bench.outside wrote.new.bench) c.split_at.ensures.front c.split_at.ensures.back l.invariant.goes wrote.ensures.next;
      size = size_left l.y c.args.height count c.loop-y-test.true l.rest.now others l.invariant.size c.split_at.ensures.back;
      named = wrote.ensures.named ∙ l.invariant.named;
      opened = wrote.ensures.opened;
      others = others_more ports.Report _ _ _ l.invariant.others wrote.ensures.others;
    }

pub returns-clause-next : goal.returns-clause-next
returns-clause-next g c =
    let l = c.loop-y in
    let count = 4 * c.args.width in
    rows_end c.args.end l.end (rows_text c.args.id.now count 0 c.args.height c.args.pixels.now) c.args.id.now l.rest.now count l.y c.args.height
    (g.B.Bench.outside c.args.bench.now) (g.B.Bench.outside l.bench) c.loop-y-test.false l.invariant.goes
