use Rattle.std.proofs.Common.{ℕ, ◌+◌, List, ap, sym, subst}
use Rattle.std.specs.Prelude.{Option}
use Rattle.sim_base.specs.Outside.{Outside}
use Rattle.live_model.specs.Board.{wakes_to}
use Rattle.live_model.specs.Standing.{Standing}
use Rattle.cli_serve.specs.Conversed.{TakesOne}
use Rattle.cli_serve.proofs.ReplyLemmas.{long_stays}
use Rattle.cli_serve.proofs.AskLemmas.{asked_once, still_calm, takes_line, takes_long}
use Rattle.cli_serve.proofs.serving.one_request.Goals as goal

pub returns-in-Line-clause-asks : goal.returns-in-Line-clause-asks
returns-in-Line-clause-asks g c = λ b s said at.
    let t = g.T.Talker in
    let a : Outside = g.B.Bench.outside c.args.start.now.value in
    let m : Outside = g.B.Bench.outside c.args.bench.now in
    let r : Outside = g.B.Bench.outside c.read_line.new.self in
    let e : Outside = g.B.Bench.outside c.answer.new.bench in
    let line : List ℕ = c.as_slice.result.now in
    let here = g.met.T.Talker.at_read b c.args.live.now s said a m r at c.in-Line.ensures.ports c.in-Line.ensures.cause in
    let taken : TakesOne m.requests c.read_line.new.into.items r.requests = takes_line m.requests r.requests c.read_line.new.into.items c.in-Line.ensures.told in
    let after : TakesOne m.requests line e.requests =
    subst (λ (l : List ℕ). TakesOne m.requests l e.requests) (sym c.as_slice.ensures.value) (subst (λ (o : Option (List (List ℕ))). TakesOne m.requests c.read_line.new.into.items o) (sym c.answer.ensures.requests) taken) in
    let replies = c.answer.ensures.replies b s said here in
    rw c.ended_by.ensures (asked_once t.IsAt b a s said line replies.0 c.answer.result c.answer.new.self m e c.args.steps.now c.answer.new.steps after replies.1 replies.2)

pub returns-in-Line-clause-may : goal.returns-in-Line-clause-may
returns-in-Line-clause-may g c = λ calm.
    let a : Outside = g.B.Bench.outside c.args.start.now.value in
    let m : Outside = g.B.Bench.outside c.args.bench.now in
    let e : Outside = g.B.Bench.outside c.answer.new.bench in
    let x = g.met.T.Talker.at_any c.args.live.now a m c.requires.may in
    still_calm g.T.Talker.IsAt x.0 a g.T.Talker.MayAnswer (λ live s said o at. g.met.T.Talker.at_may x.0 live s said a o at) x.1 x.2 c.ended_by.result c.answer.new.self m e c.args.steps.now c.answer.new.steps
    (returns-in-Line-clause-asks g c x.0 x.1 x.2 x.3) calm

pub returns-in-TooLong-clause-asks : goal.returns-in-TooLong-clause-asks
returns-in-TooLong-clause-asks g c = λ b s said at.
    let t = g.T.Talker in
    let a : Outside = g.B.Bench.outside c.args.start.now.value in
    let m : Outside = g.B.Bench.outside c.args.bench.now in
    let r : Outside = g.B.Bench.outside c.read_line.new.self in
    let e : Outside = g.B.Bench.outside c.answer_long.new.bench in
    let here = g.met.T.Talker.at_read b c.args.live.now s said a m r at c.in-TooLong.ensures.ports c.in-TooLong.ensures.cause in
    let long = takes_long m.requests r.requests c.read_line.new.into.items c.in-TooLong.ensures.told in
    let after : TakesOne m.requests long.0 e.requests = subst (λ (o : Option (List (List ℕ))). TakesOne m.requests long.0 o) (sym c.answer_long.ensures.requests) long.2 in
    let replies = c.answer_long.ensures.replies long.0 long.1 b s said here in
    rw c.ended_by-in-TooLong.ensures (asked_once t.IsAt b a s said long.0 replies.0 c.answer_long.result c.answer_long.new.self m e c.args.steps.now c.args.steps.now after replies.1 (λ no_fault. ap (λ (x : Standing). c.args.steps.now + wakes_to b x.inputs x.cycle) (sym (long_stays b s replies.0 long.0 long.1))))

pub returns-in-TooLong-clause-may : goal.returns-in-TooLong-clause-may
returns-in-TooLong-clause-may g c = λ calm.
    let a : Outside = g.B.Bench.outside c.args.start.now.value in
    let m : Outside = g.B.Bench.outside c.args.bench.now in
    let e : Outside = g.B.Bench.outside c.answer_long.new.bench in
    let x = g.met.T.Talker.at_any c.args.live.now a m c.requires.may in
    still_calm g.T.Talker.IsAt x.0 a g.T.Talker.MayAnswer (λ live s said o at. g.met.T.Talker.at_may x.0 live s said a o at) x.1 x.2 c.ended_by-in-TooLong.result c.answer_long.new.self m e c.args.steps.now c.args.steps.now
    (returns-in-TooLong-clause-asks g c x.0 x.1 x.2 x.3) calm
