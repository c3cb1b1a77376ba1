use Rattle.std.proofs.Common.{ℕ, Some, Ok, Err, sym, ap, ◌∙◌, Option}
use Rattle.chip_host.specs.Chip.{Chip, chip_from}
use Rattle.chip_host.proofs.CallLemmas.{not_asked, replied_chip, replied_answer, reply_around}
use Rattle.chip_host.proofs.calls.ask_slot.Goals as goal

pub returns-then-slot-eq0-clause-chip : goal.returns-then-slot-eq0-clause-chip
returns-then-slot-eq0-clause-chip c = sym (ap (λ (p : Chip × Option ℕ). p.0) (not_asked _ _ c.args.slot _ c.args.absent c.if-slot-eq0.true))

pub returns-then-slot-eq0-clause-answer : goal.returns-then-slot-eq0-clause-answer
returns-then-slot-eq0-clause-answer c = sym (ap (λ (p : Chip × Option ℕ). p.1) (not_asked _ _ c.args.slot _ c.args.absent c.if-slot-eq0.true))

pub returns-in-Ok-clause-chip : goal.returns-in-Ok-clause-chip
returns-in-Ok-clause-chip c =
    let a = c.args in
    let w = c.in-Ok.ensures in
    replied_chip a.instance.now a.host.now a.budget a.slot a.args.now a.absent (Ok c.in-Ok.value) c.invoke_slot.new.self c.invoke_slot.new.host w.program w.ends c.if-slot-eq0.false c.requires.set w.wasm

pub returns-in-Ok-clause-answer : goal.returns-in-Ok-clause-answer
returns-in-Ok-clause-answer c =
    let a = c.args in
    let w = c.in-Ok.ensures in
    ap (λ (n : ℕ). Some n) c.value_of.ensures
    ∙ replied_answer a.instance.now a.host.now a.budget a.slot a.args.now a.absent (Ok c.in-Ok.value) c.invoke_slot.new.self c.invoke_slot.new.host w.program w.ends c.if-slot-eq0.false c.requires.set

pub returns-in-Ok-clause-moment : goal.returns-in-Ok-clause-moment
returns-in-Ok-clause-moment c =
    let a = c.args in
    let w = c.in-Ok.ensures in
    reply_around a.instance.now a.host.now a.budget a.slot a.args.now a.absent (Ok c.in-Ok.value) c.invoke_slot.new.self c.invoke_slot.new.host w.program w.ends

pub returns-in-Err-clause-chip : goal.returns-in-Err-clause-chip
returns-in-Err-clause-chip c =
    let a = c.args in
    let w = c.in-Err.ensures in
    ap (λ (t : ℕ). chip_from c.invoke_slot.new.self c.invoke_slot.new.host a.budget (Some (record { trap = c.in-Err.trap; cycle = t }))) c.cycle-cycle.ensures.value
    ∙ replied_chip a.instance.now a.host.now a.budget a.slot a.args.now a.absent (Err c.in-Err.trap) c.invoke_slot.new.self c.invoke_slot.new.host w.program w.ends c.if-slot-eq0.false c.requires.set w.wasm

pub returns-in-Err-clause-answer : goal.returns-in-Err-clause-answer
returns-in-Err-clause-answer c =
    let a = c.args in
    let w = c.in-Err.ensures in
    replied_answer a.instance.now a.host.now a.budget a.slot a.args.now a.absent (Err c.in-Err.trap) c.invoke_slot.new.self c.invoke_slot.new.host w.program w.ends c.if-slot-eq0.false c.requires.set

pub returns-in-Err-clause-moment : goal.returns-in-Err-clause-moment
returns-in-Err-clause-moment c =
    let a = c.args in
    let w = c.in-Err.ensures in
    reply_around a.instance.now a.host.now a.budget a.slot a.args.now a.absent (Err c.in-Err.trap) c.invoke_slot.new.self c.invoke_slot.new.host w.program w.ends
