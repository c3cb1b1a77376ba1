use Rattle.chip_report.proofs.WriteLemmas.{goes_out}
use Rattle.chip_report.proofs.piece.make_room.Goals as goal

pub returns-else-len-lt200-clause-goes : goal.returns-else-len-lt200-clause-goes
returns-else-len-lt200-clause-goes g c = λ rest.
    goes_out c.args.end c.write_out.result c.args.piece.now.items c.write_out.new.piece.items rest (g.B.Bench.outside c.args.bench.now) (g.B.Bench.outside c.write_out.new.bench)
    c.write_out.ensures.empty c.write_out.ensures.next
