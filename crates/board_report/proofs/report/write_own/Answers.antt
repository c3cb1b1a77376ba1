use Rattle.std.proofs.Common.{◌≡◌, ◌∙◌, ◌++◌, ap, sym}
use Rattle.sim_base.specs.declared.bench.Port.TheVariants as ports
use Rattle.part_either.specs.declared.either.Either.TheVariants as eithers
use Rattle.any_part.specs.AnyBehaviour.{AnyBehaviour, own_of}
use Rattle.board_report.specs.Report.{own_rows, text_of}
use Rattle.board_report.proofs.ReportLemmas.{wrote_same}
use Rattle.board_report.proofs.report.write_own.Goals as goal

pub returns-in-Right-Right-Right-Right-Right-Left-clause-next : goal.returns-in-Right-Right-Right-Right-Right-Left-clause-next
returns-in-Right-Right-Right-Right-Right-Left-clause-next g c = λ a text w.
    let here = c.in-Right-Right-Right-Right-Right-Left in
    let two : c.args.own.now ≡ eithers.Right (eithers.Right here.field-0-0) = here.is ∙ ap (λ x. eithers.Right x) (rw here.is at here.field-0-is) in
    let three : c.args.own.now ≡ eithers.Right (eithers.Right (eithers.Right here.field-0-0-0)) = two ∙ ap (λ x. eithers.Right (eithers.Right x)) (rw two at here.field-0-0-is) in
    let four : c.args.own.now ≡ eithers.Right (eithers.Right (eithers.Right (eithers.Right here.field-0-0-0-0))) =
    three ∙ ap (λ x. eithers.Right (eithers.Right (eithers.Right x))) (rw three at here.field-0-0-0-is) in
    let five : c.args.own.now ≡ eithers.Right (eithers.Right (eithers.Right (eithers.Right (eithers.Right here.field-0-0-0-0-0)))) =
    four ∙ ap (λ x. eithers.Right (eithers.Right (eithers.Right (eithers.Right x)))) (rw four at here.field-0-0-0-0-is) in
    let is : c.args.own.now ≡ eithers.Right (eithers.Right (eithers.Right (eithers.Right (eithers.Right (eithers.Left here.lcd))))) =
    five ∙ ap (λ x. eithers.Right (eithers.Right (eithers.Right (eithers.Right (eithers.Right x))))) (rw five at here.field-0-0-0-0-0-is) in
    wrote_same c.write_lcd.result ports.Report _ _ a (g.B.Bench.outside c.write_lcd.new.bench)
    (ap (λ (own : AnyBehaviour). text ++ text_of (own_rows c.args.part.now c.args.held.now (own_of own))) (sym is))
    (c.write_lcd.ensures.next a text w)
