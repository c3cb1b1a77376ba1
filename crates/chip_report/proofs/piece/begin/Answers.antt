use Rattle.std.proofs.Common.{◌++◌}
use Rattle.std.specs.Prelude.{codes}
use Rattle.chip_report.proofs.WriteLemmas.{goes_three}
use Rattle.chip_report.proofs.piece.begin.Goals as goal

pub returns-clause-goes : goal.returns-clause-goes
returns-clause-goes g c = λ rest.
    let chip = c.put-end in
    let id = c.put_all-end in
    let last = c.put in
    let word = c.args.word.now in
    goes_three c.args.end chip.result id.result last.result c.args.piece.now.items chip.new.piece.items id.new.piece.items last.new.piece.items (codes "chip ") c.args.id.now word rest
    (g.B.Bench.outside c.args.bench.now) (g.B.Bench.outside chip.new.bench) (g.B.Bench.outside id.new.bench) (g.B.Bench.outside last.new.bench)
    (chip.ensures.goes (c.args.id.now ++ (word ++ rest)))
    (rw (← c.bytes.ensures) (id.ensures.goes (word ++ rest)))
    (last.ensures.goes rest)
