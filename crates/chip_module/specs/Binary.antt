-- The bytes of a chip's module (WebAssembly core specification, "Modules", "Validation"), and what it imports (profile).
use Rattle.std.specs.Prelude.{◌≡◌, ◌⊎◌, ℕ, List, Result, Ok, Err}
use Rattle.sim_base.specs.declared.fault.Refusal.{Refusal}
use Rattle.sim_base.specs.declared.fault.Fault.{Fault}
use Rattle.sim_base.specs.declared.fault.Fault.TheVariants as faults
use Rattle.wasm_decode.specs.declared.module.Module.{Module}
use Rattle.wasm_decode.specs.ModuleText.{ModuleText, IsBroken}
use Rattle.wasm_validate.specs.Validity.{IsValid, IsRefused}
use Rattle.chip_abi.specs.declared.host_name.HostName.{HostName}
use Rattle.chip_abi.specs.Imports.{imports_of}

-- a module, the function that sets the chip up, and the functions of the host that it imports, in their order
pub record Binary : Type 0 where
  pub wasm : Module
  pub init : ℕ
  pub table : List HostName

-- the bytes are the text of this module and of no other
pub record IsTextOf (bytes : List ℕ) (wasm : Module) : Type 0 where
  pub text : ModuleText bytes wasm
  pub only : (m : Module) → ModuleText bytes m → m ≡ wasm

-- the bytes are the text of this module and of no other, it keeps all rules, and the host has all that it imports
pub record IsBinary (bytes : List ℕ) (b : Binary) : Type 0 where
  pub text : ModuleText bytes b.wasm
  pub only : (m : Module) → ModuleText bytes m → m ≡ b.wasm
  pub valid : IsValid b.wasm b.init
  pub imports : imports_of b.wasm ≡ Ok b.table

-- the bytes are the text of this module and of no other, and it breaks this rule first
pub record IsInvalid (bytes : List ℕ) (r : Refusal) : Type 0 where
  pub wasm : Module
  pub text : ModuleText bytes wasm
  pub only : (m : Module) → ModuleText bytes m → m ≡ wasm
  pub breaks : IsRefused wasm (faults.Refused r)

-- the bytes are the text of this module and of no other, it keeps all rules, and its first import that the host lacks is refused so
pub record IsForeign (bytes : List ℕ) (r : Refusal) : Type 0 where
  pub wasm : Module
  pub init : ℕ
  pub text : ModuleText bytes wasm
  pub only : (m : Module) → ModuleText bytes m → m ≡ wasm
  pub valid : IsValid wasm init
  pub imports : imports_of wasm ≡ Err r

-- accepted, or refused by the decoder's rules, or by the validator's, or by those of imports
abbrev pub Judges : List ℕ → Result Binary Refusal → Type 0
Judges bytes (Ok b) = IsBinary bytes b
Judges bytes (Err r) = IsBroken bytes (faults.Refused r) ⊎ (IsInvalid bytes r ⊎ IsForeign bytes r)

-- what reading the bytes gives: out of memory alone is free
abbrev pub IsReading : List ℕ → Result Binary Fault → Type 0
IsReading bytes (Ok b) = Judges bytes (Ok b)
IsReading bytes (Err (faults.Refused r)) = Judges bytes (Err r)
IsReading bytes (Err faults.OutOfMemory) = Unit {0}
