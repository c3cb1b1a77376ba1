use Rattle.chip_report.proofs.WriteLemmas.{goes_out_by}
use Rattle.chip_report.proofs.piece.write_whole.Goals as goal

pub returns-clause-goes : goal.returns-clause-goes
returns-clause-goes g c = λ rest.
    let out = c.write_out-end in
    goes_out_by c.args.end out.result c.write_next.result c.args.piece.now.items out.new.piece.items c.args.bytes.now rest
    (g.B.Bench.outside c.args.bench.now) (g.B.Bench.outside out.new.bench) (g.B.Bench.outside c.write_next.new.bench) out.ensures.empty out.ensures.next c.write_next.ensures.next
