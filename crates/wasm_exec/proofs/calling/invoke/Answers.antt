use Rattle.std.proofs.Common.{◌≡◌, Option, length, ap, arith, sym, subst, ◌∙◌, Some}
use Rattle.wasm_code.specs.declared.types.ValType.{ValType}
use Rattle.wasm_code.specs.declared.types.FuncType.{FuncType}
use Rattle.wasm_semantics.specs.Eval.{call}
use Rattle.wasm_exec.specs.Instances.{EndsAs, GivesTypes, state_of}
use Rattle.wasm_exec.specs.Ready.{running, answer_of}
use Rattle.wasm_exec.proofs.InvokeLemmas.{args_fit, one_result, all_slots, called, asked, ends_as, typed_as, ready_after}
use Rattle.wasm_exec.proofs.calling.invoke.Goals as goal

pub put_args-requires : goal.put_args-requires
put_args-requires g c =
    let r = c.requires in
    let a = c.args in
    let fit = args_fit a.module.now a.parts.now.compiled a.parts.now.room a.parts.now.store a.parts.now.slots.items r.ready a.f r.typed.0 a.args.now r.typed.1 r.typed.2 in
    omega (arith, fit, ap length c.as_mut_slice-slots.ensures.value)

pub call-ending-requires : goal.call-ending-requires
call-ending-requires g c =
    let r = c.requires in
    let a = c.args in
    let q = a.parts.now in
    let host = g.H.Host.state a.host.now in
    let long : length c.put_args.new.slots ≡ length q.slots.items = omega (arith, c.put_args.auto.slots, ap length c.as_mut_slice-slots.ensures.value) in
    record {
      asked = (
        called g.H.Host.answers a.module.now q.compiled q.room q.store q.slots.items r.ready r.ready.program r.typed.0 a.args.now host a.budget,
        asked g.H.Host.answers a.module.now q.compiled q.room q.store q.slots.items r.ready r.ready.program r.ready.program_is a.f r.typed.0 a.args.now host (g.H.Host.imports a.host.now) a.budget c.put_args.new.slots r.hosts r.typed.1 r.typed.2 c.put_args.ensures long,
      );
    }

pub returns-clause-ends : goal.returns-clause-ends
returns-clause-ends g c = λ p h.
    let r = c.requires in
    let a = c.args in
    let q = a.parts.now in
    let host = g.H.Host.state a.host.now in
    let long : length c.put_args.new.slots ≡ length q.slots.items = omega (arith, c.put_args.auto.slots, ap length c.as_mut_slice-slots.ensures.value) in
    let e = call g.H.Host.answers p 256 a.f a.args.now (state_of (running a.module.now q.store) host a.budget) in
    let has = asked g.H.Host.answers a.module.now q.compiled q.room q.store q.slots.items r.ready p h a.f r.typed.0 a.args.now host (g.H.Host.imports a.host.now) a.budget c.put_args.new.slots r.hosts r.typed.1 r.typed.2 c.put_args.ensures long in
    let ended = c.call-ending.ensures.ends (called g.H.Host.answers a.module.now q.compiled q.room q.store q.slots.items r.ready p r.typed.0 a.args.now host a.budget) has in
    let single = one_result a.module.now q.compiled q.room q.store q.slots.items r.ready a.f r.typed.0 r.typed.1 in
    let answer = c.answer.ensures ∙ ap (λ (o : Option ValType). answer_of c.call-ending.result o c.call-ending.new.slots) (c.result_type.ensures r.typed.0 r.typed.1) in
    subst (λ x. EndsAs x (running a.module.now c.call-ending.new.store) (g.H.Host.state c.call-ending.new.host) e) (sym answer)
    (ends_as g.H.Host.answers a.module.now q.compiled q.room q.store q.slots.items r.ready p r.typed.0 a.args.now host a.budget c.call-ending.result c.call-ending.new.slots c.call-ending.new.store (g.H.Host.state c.call-ending.new.host) e single ended)

pub returns-clause-ready : goal.returns-clause-ready
returns-clause-ready g c =
    let r = c.requires in
    let a = c.args in
    let q = a.parts.now in
    let host = g.H.Host.state a.host.now in
    let long : length c.put_args.new.slots ≡ length q.slots.items = omega (arith, c.put_args.auto.slots, ap length c.as_mut_slice-slots.ensures.value) in
    let new : length c.call-ending.new.slots ≡ length q.slots.items = omega (arith, c.call-ending.auto.slots, long) in
    let all = all_slots q.slots.len c.call-ending.new.slots q.slots.items (omega (arith, c.as_mut_slice-slots.ensures.len, ap length c.as_mut_slice-slots.ensures.value)) new in
    let has = asked g.H.Host.answers a.module.now q.compiled q.room q.store q.slots.items r.ready r.ready.program r.ready.program_is a.f r.typed.0 a.args.now host (g.H.Host.imports a.host.now) a.budget c.put_args.new.slots r.hosts r.typed.1 r.typed.2 c.put_args.ensures long in
    let ended = c.call-ending.ensures.ends (called g.H.Host.answers a.module.now q.compiled q.room q.store q.slots.items r.ready r.ready.program r.typed.0 a.args.now host a.budget) has in
    ready_after g.H.Host.answers a.module.now q.compiled q.room q.store q.slots.items r.ready r.ready.program r.typed.0 a.args.now host a.budget c.call-ending.result c.call-ending.new.slots _ c.call-ending.new.store (g.H.Host.state c.call-ending.new.host) _ all ended

pub returns-clause-typed : goal.returns-clause-typed
returns-clause-typed g c = λ t ty.
    let r = c.requires in
    let a = c.args in
    let q = a.parts.now in
    let host = g.H.Host.state a.host.now in
    let one : r.typed.0 ≡ t = (let e : Some r.typed.0 ≡ Some t = sym r.typed.1 ∙ ty in cc) in
    let long : length c.put_args.new.slots ≡ length q.slots.items = omega (arith, c.put_args.auto.slots, ap length c.as_mut_slice-slots.ensures.value) in
    let has = asked g.H.Host.answers a.module.now q.compiled q.room q.store q.slots.items r.ready r.ready.program r.ready.program_is a.f r.typed.0 a.args.now host (g.H.Host.imports a.host.now) a.budget c.put_args.new.slots r.hosts r.typed.1 r.typed.2 c.put_args.ensures long in
    let ended = c.call-ending.ensures.ends (called g.H.Host.answers a.module.now q.compiled q.room q.store q.slots.items r.ready r.ready.program r.typed.0 a.args.now host a.budget) has in
    let single = one_result a.module.now q.compiled q.room q.store q.slots.items r.ready a.f r.typed.0 r.typed.1 in
    let answer = c.answer.ensures ∙ ap (λ (o : Option ValType). answer_of c.call-ending.result o c.call-ending.new.slots) (c.result_type.ensures r.typed.0 r.typed.1) in
    let typed = typed_as g.H.Host.answers a.module.now q.compiled q.room q.store q.slots.items r.ready r.ready.program r.typed.0 a.args.now host a.budget c.call-ending.result c.call-ending.new.slots c.call-ending.new.store (g.H.Host.state c.call-ending.new.host) _ single ended in
    subst (λ (u : FuncType). GivesTypes u.results c.answer.result) one (subst (λ x. GivesTypes r.typed.0.results x) (sym answer) typed)
