-- Types (WebAssembly core specification, "Binary Format", "Types").
use Rattle.std.specs.Prelude.{ℕ, Bool, true, false, ◌==◌, if◌then◌else◌, Result, Ok, Err, Option, Some, None}
use Rattle.sim_refusals.specs.Refusals.{WasmType}
use Rattle.wasm_code.specs.declared.types.ValType.{ValType}
use Rattle.wasm_code.specs.declared.types.ValType.TheVariants.{I32, I64, F32, F64}
use Rattle.wasm_code.specs.declared.types.BlockType.{BlockType}
use Rattle.wasm_code.specs.declared.types.FuncType.{FuncType}
use Rattle.wasm_code.specs.declared.types.GlobalType.{GlobalType}
use Rattle.wasm_code.specs.declared.types.Limits.{Limits}
use Rattle.wasm_binary.specs.Form.{Form, give, byte, judge_tag, flag, ◌>>=◌}
use Rattle.wasm_binary.specs.Leb.{u32}
use Rattle.wasm_binary.specs.Lists.{vec, vec_to}

abbrev pub judge_val_type : ℕ → Result ValType ℕ
judge_val_type b = if b == 0x7F then Ok I32 else if b == 0x7E then Ok I64 else if b == 0x7D then Ok F32 else if b == 0x7C then Ok F64 else Err WasmType

abbrev pub val_type : Form ValType
val_type = byte judge_val_type

-- a block of one result
abbrev pub of_one : Result ValType ℕ → Result BlockType ℕ
of_one (Ok t) = Ok (record { result = Some t })
of_one (Err rule) = Err rule

abbrev pub judge_block_type : ℕ → Result BlockType ℕ
judge_block_type b = if b == 0x40 then Ok (record { result = None }) else of_one (judge_val_type b)

abbrev pub block_type : Form BlockType
block_type = byte judge_block_type

abbrev pub tag : ℕ → ℕ → Form (Unit {0})
tag wanted rule = byte (judge_tag wanted rule)

-- a type has at most 16 parameters (profile)
abbrev pub func_type : Form FuncType
func_type = do
  mark ← tag 0x60 WasmType
  params ← vec_to 16 val_type
  results ← vec val_type
  give (record { params = params; results = results })

abbrev pub greatest_if : Bool → Form (Option ℕ)
greatest_if false = give None
greatest_if true = do
  n ← u32
  give (Some n)

abbrev pub limits : Form Limits
limits = do
  bounded ← flag
  least ← u32
  greatest ← greatest_if bounded
  give (record { least = least; greatest = greatest })

abbrev pub table_type : Form Limits
table_type = do
  mark ← tag 0x70 WasmType
  limits

abbrev pub global_type : Form GlobalType
global_type = do
  value ← val_type
  changeable ← flag
  give (record { value = value; changeable = changeable })
