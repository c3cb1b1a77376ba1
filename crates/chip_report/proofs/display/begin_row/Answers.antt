use Rattle.std.proofs.Common.{◌≡◌, [], ◌∷◌, ◌++◌, ◌∙◌}
use Rattle.std.specs.Prelude.{codes}
use Rattle.std.specs.Fmt.{decimal}
use Rattle.chip_report.specs.Lines.{opening}
use Rattle.chip_report.proofs.WriteLemmas.{goes_three}
use Rattle.chip_report.proofs.display.begin_row.Goals as goal

pub returns-clause-goes : goal.returns-clause-goes
returns-clause-goes g c = λ rest.
    let begin = c.begin-end in
    let number = c.put-end in
    let last = c.put in
    let digits : c.as_bytes.result.now ≡ decimal c.args.y = c.as_bytes.ensures.value ∙ c.format.ensures.text in
    goes_three c.args.end begin.result number.result last.result c.args.piece.now.items begin.new.piece.items number.new.piece.items last.new.piece.items
    (opening c.args.id.now (codes " row ")) (decimal c.args.y) (32 ∷ []) rest
    (g.B.Bench.outside c.args.bench.now) (g.B.Bench.outside begin.new.bench) (g.B.Bench.outside number.new.bench) (g.B.Bench.outside last.new.bench)
    (begin.ensures.goes (decimal c.args.y ++ ((32 ∷ []) ++ rest)))
    (rw (← digits) (number.ensures.goes ((32 ∷ []) ++ rest)))
    (last.ensures.goes rest)
