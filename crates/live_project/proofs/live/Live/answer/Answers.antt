use Rattle.std.proofs.Common.{false, Ok, Err, refl}
use Rattle.live_request.specs.Views.{request_of}
use Rattle.live_project.proofs.GoesLemmas.{asked_is, line_replies}
use Rattle.live_project.proofs.live.Live.answer.Goals as goal

pub returns-in-Ok-clause-replies : goal.returns-in-Ok-clause-replies
returns-in-Ok-clause-replies g c = λ b s said here.
    let outside = g.B.Bench.outside in
    let old = c.args.self.now in
    let line = c.args.line.now in
    let asks = asked_is line (Ok (request_of c.in-Ok.request)) c.requires.long c.in-Ok.ensures in
    let answers = c.reply.ensures.answers in
    let x = line_replies old c.reply.new.self (outside c.args.start.now.value) (outside c.args.bench.now) c.requires.may (λ l n. refl) (λ l n. refl)
    c.reply.ensures.parts c.reply.ensures.wave c.reply.ensures.wiring (outside c.reply.new.bench) c.args.steps.now c.reply.new.steps answers.0 line (Ok (request_of c.in-Ok.request))
    c.reply.result c.is_quit-quits.result c.next_of.result asks c.is_quit-quits.ensures c.next_of.ensures answers.1 b s said here in
    (answers.0, x.0, x.1)

pub returns-in-Err-clause-replies : goal.returns-in-Err-clause-replies
returns-in-Err-clause-replies g c = λ b s said here.
    let outside = g.B.Bench.outside in
    let old = c.args.self.now in
    let line = c.args.line.now in
    let asks = asked_is line (Err c.in-Err.number) c.requires.long c.in-Err.ensures in
    let x = line_replies old (record old { talk = c.refuse.new.talk }) (outside c.args.start.now.value) (outside c.args.bench.now) c.requires.may (λ l n. refl) (λ l n. refl)
    refl refl refl (outside c.refuse.new.bench) c.args.steps.now c.args.steps.now false line (Err c.in-Err.number)
    c.refuse.result false c.next_of-in-Err.result asks refl c.next_of-in-Err.ensures (c.refuse.ensures.answers c.args.steps.now) b s said here in
    (false, x.0, x.1)
