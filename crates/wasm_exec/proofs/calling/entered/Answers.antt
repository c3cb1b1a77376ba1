use Rattle.std.proofs.Common.{◌≡◌, Option, Some, None, ap, refl, sym, ◌∙◌, rules}
use Rattle.wasm_interpreter.specs.declared.op.Entry.{Entry}
use Rattle.wasm_validate.specs.Rules.{type_of}
use Rattle.wasm_exec.proofs.SlotLemmas.{no_entry, empty_entry, full_entry, entry_type}
use Rattle.wasm_exec.proofs.calling.entered.Goals as goal

pub returns-in-Some : goal.returns-in-Some
returns-in-Some c =
    let q = c.args.parts.now in
    let there = full_entry c.args.module.now q.compiled q.room q.store q.slots.items c.requires.ready c.args.entry c.in-Some-Some.found (sym c.entry_at.ensures ∙ c.in-Some-Some.is ∙ ap (λ (o : Option Entry). Some o) c.in-Some-Some.field-0-is) in
    let type : type_of c.args.module.now c.in-Some-Some.found.function ≡ Some c.in-Some.kind.now = search rules in
    (record { there = there; type = c.in-Some.kind.now; type_is = type; test = sym c.if-is_asked.ensures.same }, c.if-is_asked.ensures.typed refl)

pub returns-in_default : goal.returns-in_default
returns-in_default c =
    let q = c.args.parts.now in
    let there = full_entry c.args.module.now q.compiled q.room q.store q.slots.items c.requires.ready c.args.entry c.in-Some-Some.found (sym c.entry_at.ensures ∙ c.in-Some-Some.is ∙ ap (λ (o : Option Entry). Some o) c.in-Some-Some.field-0-is) in
    let type : type_of c.args.module.now c.in-Some-Some.found.function ≡ Some c.in-Some.kind.now = search rules in
    (c.in-Some-Some.found.function, record { there = there; type = c.in-Some.kind.now; type_is = type; test = sym c.if-is_asked.ensures.same })

pub returns-in_default-2 : goal.returns-in_default-2
returns-in_default-2 c =
    let q = c.args.parts.now in
    let there = full_entry c.args.module.now q.compiled q.room q.store q.slots.items c.requires.ready c.args.entry c.in-Some-Some.found (sym c.entry_at.ensures ∙ c.in-Some-Some.is ∙ ap (λ (o : Option Entry). Some o) c.in-Some-Some.field-0-is) in
    let type = entry_type c.args.module.now q.compiled q.room q.store q.slots.items c.requires.ready c.args.entry c.in-Some-Some.found.function there in
    let none : type_of c.args.module.now c.in-Some-Some.found.function ≡ None = search rules in
    let e : None ≡ Some type.0 = sym none ∙ type.1 in
    absurd cc

pub returns-in-Some-None : goal.returns-in-Some-None
returns-in-Some-None c =
    let q = c.args.parts.now in
    empty_entry c.args.module.now q.compiled q.room q.store q.slots.items c.requires.ready c.args.entry (sym c.entry_at.ensures ∙ c.in-Some-None.is ∙ ap (λ (o : Option Entry). Some o) c.in-Some-None.field-0-is)

pub returns-in-None : goal.returns-in-None
returns-in-None c =
    let q = c.args.parts.now in
    no_entry c.args.module.now q.compiled q.room q.store q.slots.items c.requires.ready c.args.entry (sym c.entry_at.ensures ∙ c.in-None.is)
