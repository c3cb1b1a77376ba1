use Rattle.std.proofs.Common.{refl, ap, subst, ◌∙◌, Ok, Err}
use Rattle.wasm_decode.specs.declared.module.Module.{Module}
use Rattle.wasm_semantics.specs.Eval.{call}
use Rattle.wasm_exec.specs.Instances.{Running, state_of}
use Rattle.wasm_exec.proofs.SlotLemmas.{ends_slot, gives_asked, stops}
use Rattle.wasm_exec.proofs.instance.Instance.invoke_slot.Goals as goal
use Rattle.wasm_exec.specs.Ready.{IsEntry}

pub returns-in-Ok-clause-ends : goal.returns-in-Ok-clause-ends
returns-in-Ok-clause-ends g c = λ p h.
    let a = c.args in
    let s = state_of a.self.now (g.H.Host.state a.host.now) a.budget in
    let entry = subst (λ (m : Module). IsEntry m a.slot a.args.now a.gives (Ok c.in-Ok.f)) (c.module.ensures.module ∙ ap (λ (r : Running). r.wasm) c.self.view_is) c.in-Ok.ensures in
    ends_slot (call g.H.Host.answers p 256) a.self.now.wasm p h a.slot a.args.now a.gives s c.in-Ok.f c.invoke.result c.invoke.new.self (g.H.Host.state c.invoke.new.host) entry (c.invoke.ensures.ends p h)

pub returns-in-Err-clause-ends : goal.returns-in-Err-clause-ends
returns-in-Err-clause-ends g c = λ p h.
    let a = c.args in
    let s = state_of a.self.now (g.H.Host.state a.host.now) a.budget in
    let entry = subst (λ (m : Module). IsEntry m a.slot a.args.now a.gives (Err c.in-Err.trap)) (c.module.ensures.module ∙ ap (λ (r : Running). r.wasm) c.self.view_is) c.in-Err.ensures in
    record { state = s; whole = stops (call g.H.Host.answers p 256) a.self.now.wasm p h a.slot a.args.now a.gives s c.in-Err.trap entry; memory = refl; globals = refl; host = refl }

pub returns-in-Ok-clause-typed : goal.returns-in-Ok-clause-typed
returns-in-Ok-clause-typed g c =
    let a = c.args in
    let entry = subst (λ (m : Module). IsEntry m a.slot a.args.now a.gives (Ok c.in-Ok.f)) (c.module.ensures.module ∙ ap (λ (r : Running). r.wasm) c.self.view_is) c.in-Ok.ensures in
    gives_asked a.self.now.wasm a.slot a.args.now a.gives c.in-Ok.f c.invoke.result entry c.invoke.ensures.typed
