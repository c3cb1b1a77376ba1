use Rattle.std.proofs.Common.{◌≡◌, ◌∙◌, List, ℕ, false, map, ap}
use Rattle.board_build.specs.declared.plan.PlanPart.{PlanPart}
use Rattle.any_part.specs.AnyPart.{AnyPart, AnyState, state_of}
use Rattle.board_report.specs.Report.{report_text}
use Rattle.live_request.specs.Request as asks
use Rattle.live_model.specs.Board.{report_at}
use Rattle.live_model.specs.Talk.{answer, report}
use Rattle.live_talk.specs.Answers.{standing_of}
use Rattle.live_project.specs.Goes.{setup_by}
use Rattle.live_project.proofs.GoesLemmas.{answers_as}
use Rattle.live_project.proofs.live.Live.report.Goals as goal

pub returns-in-Ok-clause-answers : goal.returns-in-Ok-clause-answers
returns-in-Ok-clause-answers g c =
    let outside = g.B.Bench.outside in
    let old = c.args.self.now in
    let s = standing_of old.talk.live in
    let cycle = old.talk.live.cycle in
    let stood = map state_of c.as_slice-parts.result.now in
    let text : c.text.result.now ≡ report_at (setup_by old) old.talk.live.inputs cycle =
    c.text.ensures ∙ c.in-Ok.ensures ∙ ap (λ (n : ℕ). report_text n c.as_slice.result.now stood) c.cycle-cycle.ensures.value ∙ ap (λ (ps : List PlanPart). report_text cycle ps stood) c.as_slice.ensures
    ∙ ap (λ (l : List AnyPart). report_text cycle old.parts (map state_of l)) c.as_slice-parts.ensures ∙ ap (λ (ss : List AnyState). report_text cycle old.parts ss) c.parts.ensures in (
      false,
      λ steps. answers_as old (outside c.args.start.now.value) (outside c.args.bench.now) c.requires.may (report c.text.result.now s) c.page.new.talk c.page.result (outside c.page.new.bench)
          (answer (setup_by old) s asks.Report) steps steps (ap (λ (t : List ℕ). report t s) text) (c.page.ensures.answers steps),
    )
