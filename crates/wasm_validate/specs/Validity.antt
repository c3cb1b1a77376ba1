-- Valid modules (WebAssembly core specification, "Validation"), with the limits of the profile.
use Rattle.std.specs.Prelude.{◌≡◌, ℕ, ◌+◌, List, [], ◌∷◌, ◌++◌, Option, Some, None, slice_get, option_and_then, length, replicate, option_to_list, ◌⊎◌}
use Rattle.sim_base.specs.declared.fault.Fault.{Fault}
use Rattle.sim_base.specs.declared.fault.Fault.TheVariants as faults
use Rattle.sim_base.specs.declared.fault.Refusal.{Refusal}
use Rattle.sim_base.specs.declared.fault.Place.TheVariants as places
use Rattle.sim_refusals.specs.Refusals.{ChipInit}
use Rattle.wasm_code.specs.declared.types.ValType.{ValType}
use Rattle.wasm_code.specs.declared.types.FuncType.{FuncType}
use Rattle.wasm_decode.specs.declared.module.LocalRun.{LocalRun}
use Rattle.wasm_decode.specs.declared.module.Import.{Import}
use Rattle.wasm_decode.specs.declared.module.ImportDesc.{ImportDesc}
use Rattle.wasm_decode.specs.declared.module.ImportDesc.TheVariants as descs
use Rattle.wasm_validate.specs.declared.import_text.ImportText.{ImportText}
use Rattle.wasm_validate.specs.declared.import_text.ImportKind.{ImportKind}
use Rattle.wasm_validate.specs.declared.import_text.ImportKind.TheVariants as kinds
use Rattle.wasm_decode.specs.declared.module.Body.{Body}
use Rattle.wasm_decode.specs.declared.module.Module.{Module}
use Rattle.wasm_typing.specs.Typing.{Context, IsBody, IsShallow, FailsAt}
use Rattle.wasm_validate.specs.Rules.{functions_of, imported_functions, tables_of, memories_of, globals_of, outside, chip_init, capped}

-- the locals that runs declare
abbrev pub declared : List LocalRun → List ValType
declared [] = []
declared (r ∷ rs) = replicate r.count r.value ++ declared rs

abbrev pub params_of : Option FuncType → List ValType
params_of None = []
params_of (Some t) = t.params

-- the result of a function; a type has one at most (74)
abbrev pub result_of : Option FuncType → Option ValType
result_of None = None
result_of (Some t) = slice_get t.results 0

module _ (m : Module) where
  -- the type of the function whose body is number i
  abbrev pub type_of_body : ℕ → Option FuncType
  type_of_body i = option_and_then (λ t. slice_get m.types t) (slice_get m.functions i)

  -- what the module gives to a body with these locals and this result
  abbrev pub context_with : List ValType → Option ValType → Context
  context_with locals returns = record {
    types = m.types;
    functions = functions_of m;
    tables = length (tables_of m);
    memories = length (memories_of m);
    globals = globals_of m;
    locals = locals;
    returns = option_to_list returns;
  }

  -- the parameters are the first locals
  abbrev pub context_at : ℕ → Body → Context
  context_at i b = context_with (params_of (type_of_body i) ++ declared b.locals) (result_of (type_of_body i))

  -- a body is typed, and never has more operands than may stand
  abbrev pub IsTyped : ℕ → Body → Type 0
  IsTyped i b = IsBody (context_at i b) b.code × IsShallow (context_at i b) b.code

  abbrev pub AllTyped : ℕ → List Body → Type 0
  AllTyped i [] = Unit {0}
  AllTyped i (b ∷ bs) = IsTyped i b × AllTyped (i + 1) bs

  -- the failing instruction of the first body that has one, under the number of its function
  abbrev pub BodyFails : ℕ → List Body → Refusal → Type 0
  BodyFails i [] r = ⊥
  BodyFails i (b ∷ bs) r =
      ((at : ℕ) × FailsAt (context_at i b) b.code at r.number × (r.place ≡ places.Code (capped (length (imported_functions m.imports) + i)) (capped at)))
      ⊎ IsTyped i b × BodyFails (i + 1) bs r

  -- The module keeps all rules, and this function sets the chip up.
  pub record IsValid (init : ℕ) : Type 0 where
    pub keeps : outside m ≡ None
    pub typed : AllTyped 0 m.bodies
    pub has_init : chip_init m ≡ Some init

  -- The first rule that the module breaks: one outside bodies, then one in a body, then that it has no chipInit (77).
  abbrev pub Breaks : Refusal → Type 0
  Breaks r =
      (outside m ≡ Some r)
      ⊎ (outside m ≡ None) × BodyFails 0 m.bodies r
      ⊎ (outside m ≡ None) × AllTyped 0 m.bodies × (chip_init m ≡ None) × (r ≡ record { number = ChipInit; place = places.Whole })

-- what is imported, in order
abbrev pub kind_of : ImportDesc → ImportKind
kind_of (descs.Function t) = kinds.Function t
kind_of (descs.Table l) = kinds.Table
kind_of (descs.Memory l) = kinds.Memory
kind_of (descs.Global g) = kinds.Global

abbrev pub import_texts : List Import → List ImportText
import_texts [] = []
import_texts (i ∷ is) = record { «module» = i.module; name = i.name; kind = kind_of i.desc } ∷ import_texts is

-- a module with the function that sets the chip up
pub record Chip : Type 0 where
  pub wasm : Module
  pub init : ℕ

-- Refused: the one rule that the module breaks first; it is not valid. Out of memory alone is free.
abbrev pub IsRefused : Module → Fault → Type 0
IsRefused m faults.OutOfMemory = Unit {0}
IsRefused m (faults.Refused r) = Breaks m r × ((q : Refusal) → Breaks m q → q ≡ r) × ((init : ℕ) → IsValid m init → ⊥)
