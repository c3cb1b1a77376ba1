-- The program of a module: its functions with their types and nested bodies (WebAssembly core specification, "Instantiation").
use Rattle.std.specs.Prelude.{ℕ, List, [], ◌∷◌, Option, None, Some, slice_get}
use Rattle.wasm_code.specs.declared.types.FuncType.{FuncType}
use Rattle.wasm_decode.specs.declared.module.Body.{Body}
use Rattle.wasm_decode.specs.declared.module.Module.{Module}
use Rattle.wasm_validate.specs.Rules.{imported_functions}
use Rattle.wasm_validate.specs.Validity.{declared}
use Rattle.wasm_semantics.specs.Eval.{Program, Func}
use Rattle.wasm_exec.specs.Programs.{table_at_first}
use Rattle.wasm_program.specs.Nesting.{nested}

abbrev pub type_or : Option FuncType → FuncType
type_or None = record { params = []; results = [] }
type_or (Some t) = t

-- types by their numbers
abbrev pub types_at : List FuncType → List ℕ → List FuncType
types_at ts [] = []
types_at ts (k ∷ ks) = type_or (slice_get ts k) ∷ types_at ts ks

abbrev pub funcs_of : List FuncType → List ℕ → List Body → List Func
funcs_of ts (k ∷ ks) (b ∷ bs) = record { signature = type_or (slice_get ts k); locals = declared b.locals; body = nested b.code } ∷ funcs_of ts ks bs
funcs_of ts _ _ = []

abbrev pub program_of : Module → Program
program_of m = record { types = m.types; imports = types_at m.types (imported_functions m.imports); funcs = funcs_of m.types m.functions m.bodies; table = table_at_first m }
