use Rattle.std.proofs.Common.{refl}
use Rattle.std.specs.Prelude.{Err}
use Rattle.live_talk.proofs.AnswerLemmas.{refused}
use Rattle.live_talk.proofs.requests.refuse.Goals as goal

pub returns-clause-answers : goal.returns-clause-answers
returns-clause-answers g c = λ steps.
    let outside = g.B.Bench.outside in
    refused g.P.Part (Err c.args.number) c.args.talk.now c.say_no.new.talk (outside c.args.start.now.value) (outside c.args.bench.now) (outside c.say_no.new.bench) steps c.args.number c.say_no.result refl
    c.say_no.ensures.says
