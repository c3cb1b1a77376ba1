use Rattle.std.proofs.Common.{◌≡◌, ◌∙◌, ◌∷◌, ◌++◌, [], List, ℕ, Ok, Err, ap, subst, length}
use Rattle.text_model.specs.Wave.{Variable, shown_value}
use Rattle.sim_base.specs.declared.signal.Drive.{Drive}
use Rattle.sim_base.specs.declared.signal.Level.{Level}
use Rattle.vcd_text.specs.Variables.{source_of}
use Rattle.board_live.specs.LiveView.{bytes_by}
use Rattle.live_text.specs.Answer.{ok_text, block_text}
use Rattle.live_probe.specs.Levels.{levels_in, value_in}
use Rattle.live_model.specs.Leg.{source_or}
use Rattle.live_model.specs.Talk.{level, worded}
use Rattle.live_talk.specs.Says.{Says}
use Rattle.live_talk.specs.Answers.{standing_of}
use Rattle.live_talk.proofs.AnswerLemmas.{refused, told, level_refused, level_told}
use Rattle.live_talk.proofs.requests.level.Goals as goal

pub returns-in-Ok-clause-answers : goal.returns-in-Ok-clause-answers
returns-in-Ok-clause-answers g c = λ steps.
    let outside = g.B.Bench.outside in
    let old = c.args.talk.now in
    let s = old.live in
    let value = value_in g.P.Part s in
    let sent = bytes_by g.P.Part s in
    let a = outside c.args.start.now.value in
    let b = outside c.args.bench.now in
    let d = outside c.say_answer.new.bench in
    let shows = source_of c.in-Ok.shows in
    let found : Ok shows ≡ source_or old.head.variables c.args.name.now = c.in-Ok.ensures ∙ ap (λ (vs : List Variable). source_or vs c.args.name.now) c.variables.ensures in
    let shown : c.value.result ≡ value s.cycle shows =
    c.value.ensures ∙ ap (λ (l : List Level). shown_value l c.look.new.self.drives shows) c.look.ensures.levels ∙ ap (λ (d : List Drive). shown_value (levels_in g.P.Part s s.cycle) d shows) c.look.ensures.drives in
    told g.P.Part (level value sent old.head.variables (standing_of s) c.args.name.now) old c.say_answer.new.talk a b d steps (worded (value s.cycle shows ∷ [])) c.say_answer.result
    (level_told value sent old.head.variables (standing_of s) c.args.name.now shows found)
    (subst (λ (n : ℕ). Says g.P.Part (ok_text s.cycle 0 (n ∷ []) ++ block_text []) c.say_answer.result old c.say_answer.new.talk a b d) shown c.say_answer.ensures.says)

pub returns-in-Err-clause-answers : goal.returns-in-Err-clause-answers
returns-in-Err-clause-answers g c = λ steps.
    let outside = g.B.Bench.outside in
    let old = c.args.talk.now in
    let s = old.live in
    let found : Err c.in-Err.number ≡ source_or old.head.variables c.args.name.now = c.in-Err.ensures ∙ ap (λ (vs : List Variable). source_or vs c.args.name.now) c.variables.ensures in
    refused g.P.Part (level (value_in g.P.Part s) (bytes_by g.P.Part s) old.head.variables (standing_of s) c.args.name.now) old c.say_no.new.talk (outside c.args.start.now.value) (outside c.args.bench.now)
    (outside c.say_no.new.bench) steps c.in-Err.number c.say_no.result (level_refused (value_in g.P.Part s) (bytes_by g.P.Part s) old.head.variables (standing_of s) c.args.name.now c.in-Err.number found)
    c.say_no.ensures.says
