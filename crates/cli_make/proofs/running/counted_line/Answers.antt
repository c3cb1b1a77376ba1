use Rattle.std.proofs.Common.{◌∙◌, ◌+◌, ℕ, List, length, ap}
use Rattle.chip_module.specs.declared.source.ChipSource.{ChipSource}
use Rattle.any_part.specs.Start.{Contents}
use Rattle.project_model.specs.Work.{Work}
use Rattle.vcd_text.specs.Writers.{capped}
use Rattle.project_run.specs.Counted.{run_changes}
use Rattle.project_run.specs.Run.{run_bytes, run_wakes}
use Rattle.cli_project.specs.Works.{work_of}
use Rattle.cli_make.proofs.MakeLemmas.{line_is}
use Rattle.cli_make.proofs.running.counted_line.Goals as goal

pub returns-clause-line : goal.returns-clause-line
returns-clause-line g c =
    let n : ℕ = c.args.n in
    let work : Work = work_of c.args.work in
    let has : List ChipSource → Contents = λ (chips : List ChipSource). record { flash = work.flash; chips = chips; budget = 1000000 } in
    c.in_ok-line.ensures ∙ line_is c.args.seed n _ _ work
    (c.in_ok-changes.ensures.counted.changes_are ∙ ap (λ (chips : List ChipSource). capped (run_changes (has chips) work.plan n)) c.as_slice.ensures)
    (c.in_ok-changes.ensures.counted.sent_is ∙ ap (λ (chips : List ChipSource). capped (length (run_bytes (has chips) work.plan n))) c.as_slice.ensures)

pub returns-clause-steps : goal.returns-clause-steps
returns-clause-steps g c =
    let n : ℕ = c.args.n in
    let work : Work = work_of c.args.work in
    let has : List ChipSource → Contents = λ (chips : List ChipSource). record { flash = work.flash; chips = chips; budget = 1000000 } in
    c.in_ok-changes.ensures.counted.wakes_are
    ∙ ap (λ (chips : List ChipSource). c.args.steps.now + run_wakes (has chips) work.plan n) c.as_slice.ensures
