use Rattle.chip_report.proofs.WriteLemmas.{end_begun, end_none}
use Rattle.chip_report.proofs.console.end_line.Goals as goal

pub returns-then-begun-clause-goes : goal.returns-then-begun-clause-goes
returns-then-begun-clause-goes g c = λ rest.
    end_begun c.args.end c.put.result c.args.piece.now.items c.put.new.piece.items rest c.args.begun (g.B.Bench.outside c.args.bench.now) (g.B.Bench.outside c.put.new.bench) c.if-begun.true (c.put.ensures.goes rest)

pub returns-else-begun-clause-goes : goal.returns-else-begun-clause-goes
returns-else-begun-clause-goes g c = λ rest. end_none c.args.end c.args.piece.now.items rest c.args.begun (g.B.Bench.outside c.args.bench.now) c.if-begun.false
