-- What the validator answers.
use Rattle.std.specs.Prelude.{◌≡◌, Result, Ok, Err}
use Rattle.sim_base.specs.declared.fault.Fault.{Fault}
use Rattle.wasm_decode.specs.declared.module.Module.{Module}
use Rattle.wasm_validate.specs.declared.valid.Valid.{Valid}
use Rattle.wasm_validate.specs.Validity.{IsValid, IsRefused}

-- Ok: the module, which keeps all rules. Err: it does not, and which rule it breaks first.
abbrev pub IsValidated : Module → Result Valid Fault → Type 0
IsValidated m (Ok v) = (v.wasm ≡ m) × IsValid m v.init
IsValidated m (Err e) = IsRefused m e
