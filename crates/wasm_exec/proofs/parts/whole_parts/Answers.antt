use Rattle.wasm_exec.proofs.PartLemmas.{made_first, made_ready}
use Rattle.wasm_exec.proofs.parts.whole_parts.Goals as goal

pub returns-in-Ok-clause-ready : goal.returns-in-Ok-clause-ready
returns-in-Ok-clause-ready c =
    let p = c.in-Ok.ensures.compiled in
    made_ready c.args.module.now _ c.in_ok-space.ensures c.requires.globals c.requires.valid.0 c.requires.valid.1 c.requires.whole _ p.0 _ _ _ p.1 c.in-Ok.ensures.globals c.in-Ok.ensures.typed c.in-Ok.ensures.long

pub returns-in-Ok-clause-first : goal.returns-in-Ok-clause-first
returns-in-Ok-clause-first c = made_first c.args.module.now _ c.in_ok-space.ensures c.requires.globals _ c.in-Ok.ensures.globals c.in-Ok.ensures.typed
