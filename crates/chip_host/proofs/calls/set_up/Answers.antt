use Rattle.std.proofs.Common.{Ok, Err}
use Rattle.chip_host.proofs.CallLemmas.{set_up_is, set_up_around}
use Rattle.chip_host.proofs.calls.set_up.Goals as goal

pub returns-in-Ok-clause-chip : goal.returns-in-Ok-clause-chip
returns-in-Ok-clause-chip c =
    let a = c.args in
    let w = c.in-Ok.ensures in
    set_up_is a.instance.now a.host.now a.budget a.f (Ok c.in-Ok.field-0) c.invoke.new.self c.invoke.new.host w.program w.ends c.requires.set c.requires.zero w.wasm

pub returns-in-Ok-clause-moment : goal.returns-in-Ok-clause-moment
returns-in-Ok-clause-moment c =
    let a = c.args in
    let w = c.in-Ok.ensures in
    set_up_around a.instance.now a.host.now a.budget a.f (Ok c.in-Ok.field-0) c.invoke.new.self c.invoke.new.host w.program w.ends

pub returns-in-Err-clause-chip : goal.returns-in-Err-clause-chip
returns-in-Err-clause-chip c =
    let a = c.args in
    let w = c.in-Err.ensures in
    set_up_is a.instance.now a.host.now a.budget a.f (Err c.in-Err.trap) c.invoke.new.self c.invoke.new.host w.program w.ends c.requires.set c.requires.zero w.wasm

pub returns-in-Err-clause-moment : goal.returns-in-Err-clause-moment
returns-in-Err-clause-moment c =
    let a = c.args in
    let w = c.in-Err.ensures in
    set_up_around a.instance.now a.host.now a.budget a.f (Err c.in-Err.trap) c.invoke.new.self c.invoke.new.host w.program w.ends
