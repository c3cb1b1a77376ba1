use Rattle.wasm_exec.proofs.InvokeLemmas.{in_running}
use Rattle.wasm_exec.proofs.instance.Instance.invoke.Goals as goal

pub returns-clause-ends : goal.returns-clause-ends
returns-clause-ends g c = λ p h.
    let a = c.args in
    in_running g.H.Host.answers c.module.result.now c.self.inside.valid.wasm a.self.now c.self.inside.parts.store c.invoke.new.parts.store c.invoke.result (g.H.Host.state a.host.now) (g.H.Host.state c.invoke.new.host) a.f a.budget a.args.now p c.module.ensures.module c.self.view_is h c.invoke.ensures.ends
