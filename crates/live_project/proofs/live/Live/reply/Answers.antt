use Rattle.std.proofs.Common.{List, false, map, ap}
use Rattle.live_request.specs.declared.condition.Condition.{Condition}
use Rattle.live_request.specs.Request as asks
use Rattle.live_request.specs.Views.{request_of, act_of, condition_of}
use Rattle.live_model.specs.Talk.{acts, answer}
use Rattle.live_talk.specs.Answers.{standing_of}
use Rattle.live_project.specs.Goes.{setup_by}
use Rattle.live_project.proofs.GoesLemmas.{does_as, without, with_memory, answers_as, act_as, unknown, unknown_does}
use Rattle.live_project.proofs.live.Live.reply.Goals as goal

pub returns-in-Run-clause-answers : goal.returns-in-Run-clause-answers
returns-in-Run-clause-answers g c =
    let outside = g.B.Bench.outside in
    let old = c.args.self.now in
    let a = outside c.args.start.now.value in
    let b = outside c.args.bench.now in
    let d = outside c.run.new.bench in
    let asked : List Condition → asks.Request = λ cs. asks.Run c.in-Run.until (map condition_of cs) in
    let answers : List Condition → _ = λ cs. answer (setup_by old) (standing_of old.talk.live) (asked cs) in
    does_as old a b c.requires.may (request_of c.args.request) (asked c.in-Run.conditions.items) c.run.new.talk c.run.result d c.args.steps.now c.run.new.steps (ap request_of c.in-Run.is)
    (without old a b c.requires.may (answers c.in-Run.conditions.items) c.run.new.talk c.run.result d c.args.steps.now c.run.new.steps false
    (answers_as old a b c.requires.may (answers c.as_slice.result.now) c.run.new.talk c.run.result d (answers c.in-Run.conditions.items) c.args.steps.now c.run.new.steps
    (ap answers c.as_slice.ensures.value) c.run.ensures.answers))

pub returns-in-Act-clause-answers : goal.returns-in-Act-clause-answers
returns-in-Act-clause-answers g c =
    let outside = g.B.Bench.outside in
    let old = c.args.self.now in
    let a = outside c.args.start.now.value in
    let b = outside c.args.bench.now in
    let d = outside c.act.new.bench in
    let q = asks.Acts (act_of c.in-Act.line) in
    does_as old a b c.requires.may (request_of c.args.request) q c.act.new.talk c.act.result d c.args.steps.now c.args.steps.now (ap request_of c.in-Act.is)
    (with_memory old a b c.requires.may (acts old.parts (standing_of old.talk.live) (act_of c.in-Act.line)) c.act.new.talk c.act.result d c.args.steps.now
    (act_as old a b c.requires.may c.as_slice-in-Act.result.now c.act.new.talk c.act.result d (act_of c.in-Act.line) c.as_slice-in-Act.ensures c.act.ensures.answers))

pub returns-in-Level-clause-answers : goal.returns-in-Level-clause-answers
returns-in-Level-clause-answers g c =
    let outside = g.B.Bench.outside in
    let old = c.args.self.now in
    let a = outside c.args.start.now.value in
    let b = outside c.args.bench.now in
    let d = outside c.level.new.bench in
    let q = asks.Level c.in-Level.name.now in
    does_as old a b c.requires.may (request_of c.args.request) q c.level.new.talk c.level.result d c.args.steps.now c.args.steps.now (ap request_of c.in-Level.is)
    (without old a b c.requires.may (answer (setup_by old) (standing_of old.talk.live) q) c.level.new.talk c.level.result d c.args.steps.now c.args.steps.now false (c.level.ensures.answers c.args.steps.now))

pub returns-in-Report-clause-answers : goal.returns-in-Report-clause-answers
returns-in-Report-clause-answers g c =
    let outside = g.B.Bench.outside in
    let old = c.args.self.now in
    let a = outside c.args.start.now.value in
    let b = outside c.args.bench.now in
    let d = outside c.report.new.bench in
    let q = asks.Report in
    does_as old a b c.requires.may (request_of c.args.request) q c.report.new.self.talk c.report.result d c.args.steps.now c.args.steps.now (ap request_of c.in-Report.is)
    (with_memory old a b c.requires.may (answer (setup_by old) (standing_of old.talk.live) asks.Report) c.report.new.self.talk c.report.result d c.args.steps.now c.report.ensures.answers)

pub returns-in-Wave-clause-answers : goal.returns-in-Wave-clause-answers
returns-in-Wave-clause-answers g c =
    let outside = g.B.Bench.outside in
    let old = c.args.self.now in
    let a = outside c.args.start.now.value in
    let b = outside c.args.bench.now in
    let d = outside c.wave.new.bench in
    let q = asks.Wave in
    does_as old a b c.requires.may (request_of c.args.request) q c.wave.new.talk c.wave.result d c.args.steps.now c.args.steps.now (ap request_of c.in-Wave.is)
    (without old a b c.requires.may (answer (setup_by old) (standing_of old.talk.live) asks.Wave) c.wave.new.talk c.wave.result d c.args.steps.now c.args.steps.now false (c.wave.ensures.answers c.args.steps.now))

pub returns-in-Quit-clause-answers : goal.returns-in-Quit-clause-answers
returns-in-Quit-clause-answers g c =
    let outside = g.B.Bench.outside in
    let old = c.args.self.now in
    let a = outside c.args.start.now.value in
    let b = outside c.args.bench.now in
    let d = outside c.page.new.bench in
    let q = asks.Quit in
    does_as old a b c.requires.may (request_of c.args.request) q c.page.new.talk c.page.result d c.args.steps.now c.args.steps.now (ap request_of c.in-Quit.is)
    (without old a b c.requires.may (answer (setup_by old) (standing_of old.talk.live) asks.Quit) c.page.new.talk c.page.result d c.args.steps.now c.args.steps.now false (c.page.ensures.answers c.args.steps.now))

pub returns-in_default-clause-answers : goal.returns-in_default-clause-answers
returns-in_default-clause-answers g c =
    let outside = g.B.Bench.outside in
    let old = c.args.self.now in
    let not = c.in_default in
    unknown_does old (outside c.args.start.now.value) (outside c.args.bench.now) c.requires.may (request_of c.args.request) c.refuse.new.talk c.refuse.result (outside c.refuse.new.bench) c.args.steps.now
    (unknown (setup_by old) (standing_of old.talk.live) c.args.request not.not-Run not.not-Act not.not-Level not.not-Report not.not-Wave not.not-Quit) c.refuse.ensures.answers
