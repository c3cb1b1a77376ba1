use Rattle.std.proofs.Common.{sym, subst}
use Rattle.wasm_decode.specs.declared.module.Module.{Module as Wasm}
use Rattle.wasm_validate.specs.Validity.{IsValid}
use Rattle.chip_module.specs.Binary.{IsTextOf}
use Rattle.chip_module.proofs.BinaryLemmas.{invalid_reading}
use Rattle.chip_module.proofs.binary.validated.Goals as goal

pub with_imports-requires : goal.with_imports-requires
with_imports-requires c = subst (λ (m : Wasm). IsValid m c.in-Ok.valid.init) (sym c.in-Ok.ensures.0) c.in-Ok.ensures.1

pub returns-in-Ok : goal.returns-in-Ok
returns-in-Ok c = λ bytes is. c.with_imports.ensures bytes (subst (λ (m : Wasm). IsTextOf bytes m) (sym c.in-Ok.ensures.0) is)

pub returns-in-Err : goal.returns-in-Err
returns-in-Err c = λ bytes is. invalid_reading bytes c.args.wasm is c.in-Err.fault c.in-Err.ensures
