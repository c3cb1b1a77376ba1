-- The rules of a module outside its bodies (WebAssembly core specification, "Validation", "Modules"), in their order. Limits are of
-- the profile. Each gives the first entry that fails, by section and then by its place.
use Rattle.std.specs.Prelude.{ℕ, ◌+◌, ◌*◌, List, [], ◌∷◌, ◌++◌, Bool, true, false, not, ◌&&◌, ◌==◌, nat_lt, nat_le, if◌then◌else◌, Option, Some, None, slice_get, option_and_then, length, take, codes, option_to_list, min}
use Rattle.std.specs.Str.{bytes_eq}
use Rattle.sim_base.specs.declared.fault.Refusal.{Refusal}
use Rattle.sim_base.specs.declared.fault.Place.TheVariants as places
use Rattle.sim_refusals.specs.Refusals.{ValidIndex, ValidConst, ValidExport, ValidForm, ValidSegment, ValidLimit}
use Rattle.wasm_code.specs.declared.types.ValType.{ValType}
use Rattle.wasm_code.specs.declared.types.ValType.TheVariants.{I32, I64, F32, F64}
use Rattle.wasm_code.specs.declared.types.FuncType.{FuncType}
use Rattle.wasm_code.specs.declared.types.GlobalType.{GlobalType}
use Rattle.wasm_code.specs.declared.types.Limits.{Limits}
use Rattle.wasm_code.specs.declared.instr.Instr.{Instr}
use Rattle.wasm_code.specs.declared.instr.Instr.TheVariants as instrs
use Rattle.wasm_code.specs.declared.instr.FloatInstr.TheVariants as floats
use Rattle.wasm_decode.specs.declared.module.Extern.TheVariants as externs
use Rattle.wasm_decode.specs.declared.module.Extern.{Extern}
use Rattle.wasm_decode.specs.declared.module.ImportDesc.TheVariants as descs
use Rattle.wasm_decode.specs.declared.module.ImportDesc.{ImportDesc}
use Rattle.wasm_decode.specs.declared.module.Import.{Import}
use Rattle.wasm_decode.specs.declared.module.GlobalDef.{GlobalDef}
use Rattle.wasm_decode.specs.declared.module.Export.{Export}
use Rattle.wasm_decode.specs.declared.module.ElementSegment.{ElementSegment}
use Rattle.wasm_decode.specs.declared.module.DataSegment.{DataSegment}
use Rattle.wasm_decode.specs.declared.module.Module.{Module}
use Rattle.wasm_typing.specs.Typing.{Context, exists, labels_behind, all_below}

-- A place as it is told; a module of fewer than 2 ^ 32 bytes has no later ones.
abbrev pub capped : ℕ → ℕ
capped i = min i 4294967295

-- a rule with a section's number looks at each of its items, with its place
abbrev pub first_fault : {X : Type 0} → ℕ → ℕ → (ℕ → X → Bool) → ℕ → List X → Option Refusal
first_fault number section keeps i [] = None
first_fault number section keeps i (x ∷ xs) =
    if keeps i x then first_fault number section keeps (i + 1) xs else Some (record { number = number; place = places.Entry section (capped i) })

abbrev pub or_then : Option Refusal → Option Refusal → Option Refusal
or_then None next = next
or_then (Some r) next = Some r

-- ---- index spaces: imported things first ("Contexts")

abbrev pub function_in : ImportDesc → List ℕ → List ℕ
function_in (descs.Function t) rest = t ∷ rest
function_in (descs.Table l) rest = rest
function_in (descs.Memory l) rest = rest
function_in (descs.Global g) rest = rest

-- the types of the imported functions
abbrev pub imported_functions : List Import → List ℕ
imported_functions [] = []
imported_functions (i ∷ is) = function_in i.desc (imported_functions is)

abbrev pub table_in : ImportDesc → List Limits → List Limits
table_in (descs.Table l) rest = l ∷ rest
table_in (descs.Function t) rest = rest
table_in (descs.Memory l) rest = rest
table_in (descs.Global g) rest = rest

abbrev pub imported_tables : List Import → List Limits
imported_tables [] = []
imported_tables (i ∷ is) = table_in i.desc (imported_tables is)

abbrev pub memory_in : ImportDesc → List Limits → List Limits
memory_in (descs.Memory l) rest = l ∷ rest
memory_in (descs.Function t) rest = rest
memory_in (descs.Table l) rest = rest
memory_in (descs.Global g) rest = rest

abbrev pub imported_memories : List Import → List Limits
imported_memories [] = []
imported_memories (i ∷ is) = memory_in i.desc (imported_memories is)

abbrev pub global_in : ImportDesc → List GlobalType → List GlobalType
global_in (descs.Global g) rest = g ∷ rest
global_in (descs.Function t) rest = rest
global_in (descs.Table l) rest = rest
global_in (descs.Memory l) rest = rest

abbrev pub imported_globals : List Import → List GlobalType
imported_globals [] = []
imported_globals (i ∷ is) = global_in i.desc (imported_globals is)

abbrev pub kinds_of : List GlobalDef → List GlobalType
kinds_of [] = []
kinds_of (g ∷ gs) = g.kind ∷ kinds_of gs

abbrev pub functions_of : Module → List ℕ
functions_of m = imported_functions m.imports ++ m.functions

abbrev pub tables_of : Module → List Limits
tables_of m = imported_tables m.imports ++ m.tables

abbrev pub memories_of : Module → List Limits
memories_of m = imported_memories m.imports ++ m.memories

abbrev pub globals_of : Module → List GlobalType
globals_of m = imported_globals m.imports ++ kinds_of m.globals

-- the type of a function by its number
abbrev pub type_of : Module → ℕ → Option FuncType
type_of m f = option_and_then (λ t. slice_get m.types t) (slice_get (functions_of m) f)

abbrev pub is_plain_type : FuncType → Bool
is_plain_type t = length t.params == 0 && length t.results == 0

abbrev pub is_plain_or : Bool → Option FuncType → Bool
is_plain_or b None = b
is_plain_or b (Some t) = is_plain_type t

-- ---- 74: forms

abbrev pub is_from : ℕ → Option ℕ → Bool
is_from least None = true
is_from least (Some greatest) = nat_le least greatest

abbrev pub is_to : Option ℕ → ℕ → Bool
is_to None most = true
is_to (Some greatest) most = nat_le greatest most

abbrev pub fits : Limits → Bool
fits l = is_from l.least l.greatest

abbrev pub memory_fits : Limits → Bool
memory_fits l = fits l && nat_le l.least 65536 && is_to l.greatest 65536

abbrev pub has_few_results : ℕ → FuncType → Bool
has_few_results i t = nat_le (length t.results) 1

-- an imported table or memory is the first of its kind
abbrev pub desc_fits : List Import → ImportDesc → Bool
desc_fits before (descs.Function t) = true
desc_fits before (descs.Table l) = fits l && length (imported_tables before) == 0
desc_fits before (descs.Memory l) = memory_fits l && length (imported_memories before) == 0
desc_fits before (descs.Global g) = true

abbrev pub is_constant_of : ValType → Instr → Bool
is_constant_of I32 (instrs.I32Const n) = true
is_constant_of I64 (instrs.I64Const n) = true
is_constant_of F32 (instrs.Float (floats.F32Const n)) = true
is_constant_of F64 (instrs.Float (floats.F64Const n)) = true
is_constant_of t i = false

abbrev pub is_end : Instr → Bool
is_end instrs.End = true
is_end _ = false

-- one constant of the type
abbrev pub is_constant : ValType → List Instr → Bool
is_constant t [] = false
is_constant t (i ∷ []) = false
is_constant t (i ∷ j ∷ []) = is_constant_of t i && is_end j
is_constant t (i ∷ j ∷ k ∷ is) = false

abbrev pub offset_of : List Instr → ℕ
offset_of (instrs.I32Const n ∷ is) = n
offset_of _ = 0

abbrev pub least_of : List Limits → ℕ
least_of [] = 0
least_of (l ∷ ls) = l.least

abbrev pub desc_small : ImportDesc → Bool
desc_small (descs.Function t) = true
desc_small (descs.Table l) = nat_le l.least 8192
desc_small (descs.Memory l) = nat_le l.least 64
desc_small (descs.Global g) = true

abbrev pub global_constant : ℕ → GlobalDef → Bool
global_constant i g = is_constant g.kind.value g.init

abbrev pub element_constant : ℕ → ElementSegment → Bool
element_constant i x = is_constant I32 x.offset

abbrev pub segment_constant : ℕ → DataSegment → Bool
segment_constant i x = is_constant I32 x.offset

abbrev pub import_small : ℕ → Import → Bool
import_small i x = desc_small x.desc

abbrev pub table_small : ℕ → Limits → Bool
table_small i l = nat_le l.least 8192

abbrev pub memory_small : ℕ → Limits → Bool
memory_small i l = nat_le l.least 64

-- none of these exports has the name
abbrev pub all_differ : List Export → List ℕ → Bool
all_differ [] name = true
all_differ (x ∷ xs) name = not (bytes_eq x.name name) && all_differ xs name

abbrev pub is_function : Extern → Bool
is_function externs.Function = true
is_function externs.Table = false
is_function externs.Memory = false
is_function externs.Global = false

module _ (m : Module) where
  abbrev pub import_fits : ℕ → Import → Bool
  import_fits i x = desc_fits (take i m.imports) x.desc

  abbrev pub table_fits : ℕ → Limits → Bool
  table_fits i l = fits l && i == 0 && length (imported_tables m.imports) == 0

  abbrev pub memory_form : ℕ → Limits → Bool
  memory_form i l = memory_fits l && i == 0 && length (imported_memories m.imports) == 0

  -- the start function has no operands and no results, where it is there
  abbrev pub start_fits : ℕ → ℕ → Bool
  start_fits i f = is_plain_or true (type_of m f)

  abbrev pub starts : List ℕ
  starts = option_to_list m.start

  abbrev pub start_form : Option Refusal
  start_form = first_fault ValidForm 8 start_fits 0 starts

  abbrev pub forms : Option Refusal
  forms =
      or_then (first_fault ValidForm 1 has_few_results 0 m.types)
      (or_then (first_fault ValidForm 2 import_fits 0 m.imports)
      (or_then (first_fault ValidForm 4 table_fits 0 m.tables)
      (or_then (first_fault ValidForm 5 memory_form 0 m.memories)
      start_form)))

  -- ---- 70: indexes

  -- An initial expression has the indexes of the module and no locals, and is no label of its own.
  abbrev pub initial : Context
  initial = record {
    types = m.types;
    functions = functions_of m;
    tables = length (tables_of m);
    memories = length (memories_of m);
    globals = globals_of m;
    locals = [];
    returns = [];
  }

  abbrev pub all_exist : List Instr → ℕ → Bool
  all_exist [] labels = true
  all_exist (i ∷ is) labels = exists initial labels i && all_exist is (labels_behind (i ∷ []) labels)

  abbrev pub desc_exists : ImportDesc → Bool
  desc_exists (descs.Function t) = nat_lt t (length m.types)
  desc_exists (descs.Table l) = true
  desc_exists (descs.Memory l) = true
  desc_exists (descs.Global g) = true

  abbrev pub import_exists : ℕ → Import → Bool
  import_exists i x = desc_exists x.desc

  abbrev pub type_exists : ℕ → ℕ → Bool
  type_exists i t = nat_lt t (length m.types)

  abbrev pub function_exists : ℕ → ℕ → Bool
  function_exists i f = nat_lt f (length (functions_of m))

  abbrev pub global_exists : ℕ → GlobalDef → Bool
  global_exists i g = all_exist g.init 0

  abbrev pub extern_exists : Extern → ℕ → Bool
  extern_exists externs.Function n = nat_lt n (length (functions_of m))
  extern_exists externs.Table n = nat_lt n (length (tables_of m))
  extern_exists externs.Memory n = nat_lt n (length (memories_of m))
  extern_exists externs.Global n = nat_lt n (length (globals_of m))

  abbrev pub export_exists : ℕ → Export → Bool
  export_exists i x = extern_exists x.kind x.index

  abbrev pub element_exists : ℕ → ElementSegment → Bool
  element_exists i x = nat_lt 0 (length (tables_of m)) && all_exist x.offset 0 && all_below (length (functions_of m)) x.functions

  abbrev pub segment_exists : ℕ → DataSegment → Bool
  segment_exists i x = nat_lt 0 (length (memories_of m)) && all_exist x.offset 0

  abbrev pub start_exists : Option Refusal
  start_exists = first_fault ValidIndex 8 function_exists 0 starts

  abbrev pub indexes : Option Refusal
  indexes =
      or_then (first_fault ValidIndex 2 import_exists 0 m.imports)
      (or_then (first_fault ValidIndex 3 type_exists 0 m.functions)
      (or_then (first_fault ValidIndex 6 global_exists 0 m.globals)
      (or_then (first_fault ValidIndex 7 export_exists 0 m.exports)
      (or_then start_exists
      (or_then (first_fault ValidIndex 9 element_exists 0 m.elements)
      (first_fault ValidIndex 11 segment_exists 0 m.segments))))))

  -- ---- 72: initial expressions

  abbrev pub constants : Option Refusal
  constants =
      or_then (first_fault ValidConst 6 global_constant 0 m.globals)
      (or_then (first_fault ValidConst 9 element_constant 0 m.elements)
      (first_fault ValidConst 11 segment_constant 0 m.segments))

  -- ---- 73: export names

  abbrev pub export_is_new : ℕ → Export → Bool
  export_is_new i x = all_differ (take i m.exports) x.name

  abbrev pub names : Option Refusal
  names = first_fault ValidExport 7 export_is_new 0 m.exports

  -- ---- 78: segments

  abbrev pub element_inside : ℕ → ElementSegment → Bool
  element_inside i x = nat_le (offset_of x.offset + length x.functions) (least_of (tables_of m))

  abbrev pub segment_inside : ℕ → DataSegment → Bool
  segment_inside i x = nat_le (offset_of x.offset + length x.bytes) (65536 * least_of (memories_of m))

  abbrev pub insides : Option Refusal
  insides =
      or_then (first_fault ValidSegment 9 element_inside 0 m.elements)
      (first_fault ValidSegment 11 segment_inside 0 m.segments)

  -- ---- 79: limits of the profile

  abbrev pub sizes : Option Refusal
  sizes =
      or_then (first_fault ValidLimit 2 import_small 0 m.imports)
      (or_then (first_fault ValidLimit 4 table_small 0 m.tables)
      (first_fault ValidLimit 5 memory_small 0 m.memories))

  -- the first rule outside bodies that fails, and where
  unfoldable pub outside : Option Refusal
  outside = or_then forms (or_then indexes (or_then constants (or_then names (or_then insides sizes))))

  -- ---- 77: the function that sets the chip up

  abbrev pub is_chip_init : Export → Bool
  is_chip_init x = bytes_eq x.name (codes "chipInit") && is_function x.kind && is_plain_or false (type_of m x.index)

  abbrev pub find_init : List Export → Option ℕ
  find_init [] = None
  find_init (x ∷ xs) = if is_chip_init x then Some x.index else find_init xs

  abbrev pub chip_init : Option ℕ
  chip_init = find_init m.exports
