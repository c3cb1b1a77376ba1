use Rattle.std.proofs.Common.{[], ◌∷◌, ◌++◌}
use Rattle.chip_report.specs.Lines.{console_opening}
use Rattle.chip_report.specs.Writing.{written}
use Rattle.chip_report.proofs.WriteLemmas.{byte_begun, byte_first}
use Rattle.chip_report.proofs.console.put_byte.Goals as goal

pub returns-then-begun-clause-goes : goal.returns-then-begun-clause-goes
returns-then-begun-clause-goes g c = λ rest.
    byte_begun c.args.end c.put.result c.args.piece.now.items c.put.new.piece.items (console_opening c.args.id.now) rest c.args.begun c.args.b (g.B.Bench.outside c.args.bench.now) (g.B.Bench.outside c.put.new.bench)
    c.if-begun.true (rw (← c.written.ensures) (c.put.ensures.goes rest))

pub returns-else-begun-clause-goes : goal.returns-else-begun-clause-goes
returns-else-begun-clause-goes g c = λ rest.
    let begin = c.begin-end in
    let put = c.put-else-begun in
    byte_first c.args.end begin.result put.result c.args.piece.now.items begin.new.piece.items put.new.piece.items (console_opening c.args.id.now) rest c.args.begun c.args.b
    (g.B.Bench.outside c.args.bench.now) (g.B.Bench.outside begin.new.bench) (g.B.Bench.outside put.new.bench)
    c.if-begun.false (begin.ensures.goes ((written c.args.b ∷ []) ++ rest)) (rw (← c.written.ensures) (put.ensures.goes rest))
