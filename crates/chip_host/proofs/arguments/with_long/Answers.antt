use Rattle.std.proofs.Common.{[], ◌∷◌, arith}
use Rattle.wasm_code.specs.declared.types.ValType.TheVariants as types
use Rattle.chip_host.proofs.ArgumentLemmas.{counted, with_long_given}
use Rattle.chip_host.proofs.arguments.with_long.Goals as goal

pub bounds-args-0 : goal.bounds-args-0
bounds-args-0 c = omega (arith, counted c.args.args.now (types.I32 ∷ types.I64 ∷ types.I32 ∷ []) c.requires)

pub bounds-args-1 : goal.bounds-args-1
bounds-args-1 c = omega (arith, counted c.args.args.now (types.I32 ∷ types.I64 ∷ types.I32 ∷ []) c.requires)

pub bounds-args-2 : goal.bounds-args-2
bounds-args-2 c = omega (arith, counted c.args.args.now (types.I32 ∷ types.I64 ∷ types.I32 ∷ []) c.requires)

pub returns : goal.returns
returns c = with_long_given c.args.args.now c.number.result c.long.result c.number-2.result c.requires c.number.ensures c.long.ensures c.number-2.ensures
