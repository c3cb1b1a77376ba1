-- The items of the sections (WebAssembly core specification, "Binary Format", "Modules").
use Rattle.std.specs.Prelude.{ℕ, ◌+◌, ◌-◌, List, [], ◌∷◌, length, Bool, true, false, nat_lt, ◌==◌, ◌&&◌, if◌then◌else◌, Result, Ok, Err, Option, Some, None, slice_get}
use Rattle.sim_refusals.specs.Refusals.{WasmType, WasmLimit}
use Rattle.wasm_code.specs.declared.types.FuncType.{FuncType}
use Rattle.wasm_binary.specs.Form.{Form, give, byte, ◌>>=◌}
use Rattle.wasm_binary.specs.Leb.{u32, at_most, exactly}
use Rattle.wasm_binary.specs.Lists.{repeated, is_zero, vec, byte_vec, sized}
use Rattle.wasm_binary.specs.Names.{name}
use Rattle.wasm_code.specs.TypeText.{val_type, tag, limits, table_type, global_type}
use Rattle.wasm_decode.specs.InstrText.{expr}
use Rattle.wasm_decode.specs.declared.module.Extern.{Extern}
use Rattle.wasm_decode.specs.declared.module.Extern.TheVariants as externs
use Rattle.wasm_decode.specs.declared.module.ImportDesc.{ImportDesc}
use Rattle.wasm_decode.specs.declared.module.ImportDesc.TheVariants as descs
use Rattle.wasm_decode.specs.declared.module.Import.{Import}
use Rattle.wasm_decode.specs.declared.module.GlobalDef.{GlobalDef}
use Rattle.wasm_decode.specs.declared.module.Export.{Export}
use Rattle.wasm_decode.specs.declared.module.ElementSegment.{ElementSegment}
use Rattle.wasm_decode.specs.declared.module.LocalRun.{LocalRun}
use Rattle.wasm_decode.specs.declared.module.Body.{Body}
use Rattle.wasm_decode.specs.declared.module.DataSegment.{DataSegment}

abbrev pub judge_extern : ℕ → Result Extern ℕ
judge_extern b =
    if b == 0 then Ok externs.Function else if b == 1 then Ok externs.Table else if b == 2 then Ok externs.Memory
    else if b == 3 then Ok externs.Global else Err WasmType

-- What an import is, where so many functions were imported before: a module has at most 4,096 functions (profile).
abbrev pub judge_import : ℕ → ℕ → Result Extern ℕ
judge_import functions b = if b == 0 && nat_lt 4095 functions then Err WasmLimit else judge_extern b

abbrev pub import_desc : Extern → Form ImportDesc
import_desc externs.Function = do
  n ← u32
  give (descs.Function n)
import_desc externs.Table = do
  l ← table_type
  give (descs.Table l)
import_desc externs.Memory = do
  l ← limits
  give (descs.Memory l)
import_desc externs.Global = do
  g ← global_type
  give (descs.Global g)

abbrev pub import_item : ℕ → Form Import
import_item functions = do
  from ← name
  item ← name
  kind ← byte (judge_import functions)
  desc ← import_desc kind
  give (record { «module» = from; name = item; desc = desc })

abbrev pub is_function : ImportDesc → ℕ
is_function (descs.Function n) = 1
is_function _ = 0

-- the functions among the imports
abbrev pub imported : List Import → ℕ
imported [] = 0
imported (i ∷ is) = is_function i.desc + imported is

-- In a list of imports: how many are left, and how many functions were imported.
pub record InImports : Type 0 where
  pub left : ℕ
  pub functions : ℕ

abbrev pub in_imports : InImports → Import → InImports
in_imports s i = record { left = s.left - 1; functions = s.functions + is_function i.desc }

abbrev pub imports_of : ℕ → Form (List Import)
imports_of n = repeated (λ (s : InImports). import_item s.functions) in_imports (λ s. is_zero s.left) (record { left = n; functions = 0 })

abbrev pub imports : Form (List Import)
imports = u32 >>= imports_of

abbrev pub global : Form GlobalDef
global = do
  kind ← global_type
  init ← expr
  give (record { kind = kind; init = init })

abbrev pub export : Form Export
export = do
  item ← name
  kind ← byte judge_extern
  index ← u32
  give (record { name = item; kind = kind; index = index })

abbrev pub element : Form ElementSegment
element = do
  mark ← tag 0x00 WasmType
  offset ← expr
  functions ← vec u32
  give (record { offset = offset; functions = functions })

abbrev pub segment : Form DataSegment
segment = do
  mark ← tag 0x00 WasmType
  offset ← expr
  bytes ← byte_vec
  give (record { offset = offset; bytes = bytes })

abbrev pub local_run : ℕ → Form LocalRun
local_run room = do
  count ← at_most room
  value ← val_type
  give (record { count = count; value = value })

-- In the locals of a body: how many runs are left, and room for how many locals.
pub record InLocals : Type 0 where
  pub left : ℕ
  pub room : ℕ

abbrev pub in_locals : InLocals → LocalRun → InLocals
in_locals s r = record { left = s.left - 1; room = s.room - r.count }

abbrev pub locals_of : ℕ → ℕ → Form (List LocalRun)
locals_of room n = repeated (λ (s : InLocals). local_run s.room) in_locals (λ s. is_zero s.left) (record { left = n; room = room })

abbrev pub body : ℕ → Form Body
body room = do
  count ← u32
  locals ← locals_of room count
  code ← expr
  give (record { locals = locals; code = code })

abbrev pub params_of : Option FuncType → ℕ
params_of None = 0
params_of (Some t) = length t.params

-- A function has at most 1,024 locals, its parameters with them (profile).
abbrev pub room_of : List FuncType → ℕ → ℕ
room_of types kind = 1024 - params_of (slice_get types kind)

abbrev pub is_none_left : List ℕ → Bool
is_none_left [] = true
is_none_left (f ∷ functions) = false

abbrev pub more_left : List ℕ → Bool
more_left [] = false
more_left (f ∷ functions) = true

-- the body of the first of these functions
abbrev pub body_of : List FuncType → List ℕ → Form Body
body_of types [] = sized false (body 1024)
body_of types (f ∷ functions) = sized (more_left functions) (body (room_of types f))

abbrev pub rest_of : List ℕ → Body → List ℕ
rest_of [] b = []
rest_of (f ∷ functions) b = functions

-- as many bodies as functions; 68 breaks another count
abbrev pub bodies : List FuncType → List ℕ → Form (List Body)
bodies types functions = do
  count ← exactly (length functions)
  repeated (body_of types) rest_of is_none_left functions
