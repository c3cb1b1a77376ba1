use Rattle.std.proofs.Common.{◌++◌, List, Option, ap, ◌∙◌}
use Rattle.wasm_code.specs.declared.types.ValType.{ValType}
use Rattle.wasm_code.specs.declared.types.FuncType.{FuncType}
use Rattle.wasm_decode.specs.declared.module.LocalRun.{LocalRun}
use Rattle.wasm_validate.specs.Validity.{declared, params_of}
use Rattle.wasm_validate.proofs.bodies.locals.Goals as goal

pub returns : goal.returns
returns c =
    c.in_ok-add_locals.ensures ∙ ap (λ (x : List LocalRun). c.in_ok-locals.locals.items ++ declared x) c.as_slice.ensures
    ∙ ap (λ (x : List ValType). x ++ declared c.args.body.now.locals) (c.in_ok-locals.ensures ∙ ap (λ (o : Option FuncType). params_of o) c.kind_of.ensures)
