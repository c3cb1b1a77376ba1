use Rattle.std.proofs.Common.{◌++◌, List, Option, IfOk, MatchOption, ap, subst, ◌∙◌}
use Rattle.wasm_code.specs.declared.instr.Instr.{Instr}
use Rattle.wasm_typing.specs.Typing.{Context, IsBody, IsShallow, FailsAt}
use Rattle.wasm_code.specs.declared.types.FuncType.{FuncType}
use Rattle.wasm_validate.specs.Validity.{declared, params_of, result_of, type_of_body}
use Rattle.wasm_typing.specs.Contexts.{context_of}
use Rattle.wasm_validate.proofs.ModuleLemmas.{context_is}
use Rattle.wasm_validate.proofs.bodies.failure.Goals as goal

pub returns : goal.returns
returns c =
    let e = context_is c.args.space.now.module.now (context_of c.body_context-context.result) c.deref.result.now (params_of (type_of_body c.args.space.now.module.now c.args.i) ++ declared c.args.body.now.locals) c.returns.result (result_of (type_of_body c.args.space.now.module.now c.args.i)) c.body_context-context.ensures (c.deref.ensures.value ∙ c.in_ok-locals.ensures) (c.returns.ensures ∙ ap (λ (o : Option FuncType). result_of o) c.kind_of.ensures) in
    let h = subst (λ (x : List Instr). IfOk c.failing.result (λ f. MatchOption f (IsBody (context_of c.body_context-context.result) x × IsShallow (context_of c.body_context-context.result) x) (λ f'. FailsAt (context_of c.body_context-context.result) x f'.at f'.number))) c.as_slice.ensures.code c.failing.ensures in
    subst (λ (x : Context). IfOk c.failing.result (λ f. MatchOption f (IsBody x c.args.body.now.code × IsShallow x c.args.body.now.code) (λ f'. FailsAt x c.args.body.now.code f'.at f'.number))) e h
