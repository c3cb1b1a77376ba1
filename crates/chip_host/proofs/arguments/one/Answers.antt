use Rattle.std.proofs.Common.{[], ◌∷◌, arith}
use Rattle.wasm_code.specs.declared.types.ValType.TheVariants as types
use Rattle.chip_host.proofs.ArgumentLemmas.{counted, one_given}
use Rattle.chip_host.proofs.arguments.one.Goals as goal

pub bounds-args-0 : goal.bounds-args-0
bounds-args-0 c = omega (arith, counted c.args.args.now (types.I32 ∷ []) c.requires)

pub returns : goal.returns
returns c = one_given c.args.args.now c.number.result c.requires c.number.ensures
