-- The imports of a chip's module (profile): functions, and its memory from `env`.
use Rattle.std.specs.Prelude.{ℕ, ◌+◌, List, [], ◌∷◌, ◌++◌, Bool, ◌&&◌, if◌then◌else◌, Option, None, Some, Result, Ok, Err, option_to_list, slice_get, codes}
use Rattle.std.specs.Str.{bytes_eq}
use Rattle.sim_base.specs.declared.fault.Refusal.{Refusal}
use Rattle.sim_base.specs.declared.fault.Place.TheVariants as places
use Rattle.sim_refusals.specs.Refusals.{ImportType, ImportUnknown}
use Rattle.wasm_code.specs.declared.types.FuncType.{FuncType}
use Rattle.wasm_semantics.specs.Eval.{same_signature}
use Rattle.wasm_decode.specs.declared.module.Module.{Module}
use Rattle.wasm_validate.specs.Rules.{capped}
use Rattle.wasm_validate.specs.Validity.{import_texts}
use Rattle.wasm_validate.specs.declared.import_text.ImportText.{ImportText}
use Rattle.wasm_validate.specs.declared.import_text.ImportKind.{ImportKind}
use Rattle.wasm_validate.specs.declared.import_text.ImportKind.TheVariants as kinds
use Rattle.chip_abi.specs.declared.host_name.HostName.{HostName}
use Rattle.chip_abi.specs.HostNames.{named, type_of_name}

-- a known function is imported with its own type
abbrev pub typed : Option FuncType → HostName → Result (Option HostName) ℕ
typed None name = Err ImportType
typed (Some t) name = if same_signature t (type_of_name name) then Ok (Some name) else Err ImportType

abbrev pub function_found : Option FuncType → Option HostName → Result (Option HostName) ℕ
function_found t None = Err ImportUnknown
function_found t (Some name) = typed t name

abbrev pub is_memory : List ℕ → List ℕ → Bool
is_memory from name = bytes_eq from (codes "env") && bytes_eq name (codes "memory")

abbrev pub kind_found : List FuncType → ImportKind → List ℕ → List ℕ → Result (Option HostName) ℕ
kind_found ts (kinds.Function k) from name = function_found (slice_get ts k) (named from name)
kind_found ts kinds.Memory from name = if is_memory from name then Ok None else Err ImportUnknown
kind_found ts kinds.Table from name = Err ImportUnknown
kind_found ts kinds.Global from name = Err ImportUnknown

-- what an import is: a function, the memory, or refused with this number
abbrev pub found : List FuncType → ImportText → Result (Option HostName) ℕ
found ts i = kind_found ts i.kind i.«module» i.name

abbrev pub with_name : Option HostName → Result (List HostName) Refusal → Result (List HostName) Refusal
with_name o (Ok names) = Ok (option_to_list o ++ names)
with_name o (Err r) = Err r

abbrev pub behind : ℕ → Result (Option HostName) ℕ → Result (List HostName) Refusal → Result (List HostName) Refusal
behind n (Ok o) rest = with_name o rest
behind n (Err number) rest = Err (record { number = number; place = places.Import (capped n) })

-- the names of the imported functions, or the refusal of the first import that is not known; imports count from n on
abbrev pub read_imports : List FuncType → ℕ → List ImportText → Result (List HostName) Refusal
read_imports ts n [] = Ok []
read_imports ts n (i ∷ is) = behind n (found ts i) (read_imports ts (n + 1) is)

-- those of a module
abbrev pub imports_of : Module → Result (List HostName) Refusal
imports_of m = read_imports m.types 1 (import_texts m.imports)

-- where names were read before
abbrev pub after_names : List HostName → Result (List HostName) Refusal → Result (List HostName) Refusal
after_names xs (Ok ys) = Ok (xs ++ ys)
after_names xs (Err r) = Err r
