use Rattle.wasm_typing.specs.Contexts.{context_of}
use Rattle.wasm_typing.specs.Views.{state_of}
use Rattle.wasm_typing.proofs.BodyLemmas.{At}
use Rattle.wasm_typing.proofs.body.failing.Given as goal

abbrev pub invariant-loop-i : goal.invariant-loop-i
invariant-loop-i l = At (context_of l.context) l.code l.i (state_of l.checker)
