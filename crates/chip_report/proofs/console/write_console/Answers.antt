use Rattle.std.proofs.Common.{◌≡◌, length, arith}
use Rattle.std.proofs.lemmas.Bool.Decides.{nat_tests}
use Rattle.chip_report.proofs.WriteLemmas.{console_none}
use Rattle.chip_report.proofs.console.write_console.Goals as goal

pub returns-then-is_empty-clause-next : goal.returns-then-is_empty-clause-next
returns-then-is_empty-clause-next g c =
    let none : length c.args.text.now ≡ 0 = grind (arith, nat_tests, c.if-is_empty.true, c.if-is_empty.ensures, c.is_empty.ensures) in
    console_none c.args.end c.args.id.now c.args.text.now (g.B.Bench.outside c.args.bench.now) none
