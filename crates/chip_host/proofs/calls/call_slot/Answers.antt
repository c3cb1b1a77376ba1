use Rattle.std.proofs.Common.{ℕ, Some, Ok, Err, sym, ap, ◌∙◌}
use Rattle.chip_host.specs.Chip.{chip_from}
use Rattle.chip_host.proofs.CallLemmas.{not_called, slot_called, slot_around}
use Rattle.chip_host.proofs.calls.call_slot.Goals as goal

pub returns-then-slot-eq0-clause-chip : goal.returns-then-slot-eq0-clause-chip
returns-then-slot-eq0-clause-chip c = sym (not_called _ _ c.args.slot _ c.if-slot-eq0.true)

pub returns-in-Ok-clause-chip : goal.returns-in-Ok-clause-chip
returns-in-Ok-clause-chip c =
    let a = c.args in
    let w = c.in-Ok.ensures in
    slot_called a.instance.now a.host.now a.budget a.slot a.args.now (Ok c.in-Ok.field-0) c.invoke_slot.new.self c.invoke_slot.new.host w.program w.ends c.if-slot-eq0.false c.requires.set w.wasm

pub returns-in-Ok-clause-moment : goal.returns-in-Ok-clause-moment
returns-in-Ok-clause-moment c =
    let a = c.args in
    let w = c.in-Ok.ensures in
    slot_around a.instance.now a.host.now a.budget a.slot a.args.now (Ok c.in-Ok.field-0) c.invoke_slot.new.self c.invoke_slot.new.host w.program w.ends

pub returns-in-Err-clause-chip : goal.returns-in-Err-clause-chip
returns-in-Err-clause-chip c =
    let a = c.args in
    let w = c.in-Err.ensures in
    ap (λ (t : ℕ). chip_from c.invoke_slot.new.self c.invoke_slot.new.host a.budget (Some (record { trap = c.in-Err.trap; cycle = t }))) c.cycle-cycle.ensures.value
    ∙ slot_called a.instance.now a.host.now a.budget a.slot a.args.now (Err c.in-Err.trap) c.invoke_slot.new.self c.invoke_slot.new.host w.program w.ends c.if-slot-eq0.false c.requires.set w.wasm

pub returns-in-Err-clause-moment : goal.returns-in-Err-clause-moment
returns-in-Err-clause-moment c =
    let a = c.args in
    let w = c.in-Err.ensures in
    slot_around a.instance.now a.host.now a.budget a.slot a.args.now (Err c.in-Err.trap) c.invoke_slot.new.self c.invoke_slot.new.host w.program w.ends
