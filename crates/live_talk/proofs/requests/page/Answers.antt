use Rattle.std.proofs.Common.{[], refl}
use Rattle.live_model.specs.Talk.{report}
use Rattle.live_talk.specs.Answers.{standing_of}
use Rattle.live_talk.proofs.AnswerLemmas.{told}
use Rattle.live_talk.proofs.requests.page.Goals as goal

pub returns-clause-answers : goal.returns-clause-answers
returns-clause-answers g c = λ steps.
    let outside = g.B.Bench.outside in
    told g.P.Part (report c.args.text.now (standing_of c.args.talk.now.live)) c.args.talk.now c.say_answer.new.talk (outside c.args.start.now.value) (outside c.args.bench.now) (outside c.say_answer.new.bench)
    steps (record { words = []; block = c.args.text.now }) c.say_answer.result refl c.say_answer.ensures.says
