-- Instructions and expressions (WebAssembly core specification, "Binary Format", "Instructions", "Expressions").
use Rattle.std.specs.Int.{w32, w64, from_le_bytes}
use Rattle.std.specs.Option.{option_map_or}
use Rattle.std.specs.Prelude.{ℕ, ◌%◌, nat_lt, List, [], ◌∷◌, length, Bool, true, false, not, ◌&&◌, ◌||◌, ◌==◌, nat_le, if◌then◌else◌, Result, Ok, Err, Option, is_some}
use Rattle.sim_refusals.specs.Refusals.{WasmOpcode, WasmLimit}
use Rattle.wasm_code.specs.declared.types.ValType.{ValType}
use Rattle.wasm_code.specs.declared.instr.Instr.{Instr}
use Rattle.wasm_code.specs.declared.instr.Instr.TheVariants as instrs
use Rattle.wasm_code.specs.declared.instr.FloatInstr.TheVariants as floats
use Rattle.wasm_code.specs.declared.instr.MemArg.{MemArg}
use Rattle.wasm_code.specs.Opcodes.{unary_of, binary_of, load_of, store_of, float_load, float_store, float_unary, float_binary, truncate, from}
use Rattle.wasm_binary.specs.Form.{Form, give, byte, choose, ◌>>=◌}
use Rattle.wasm_binary.specs.Leb.{u32, unsigned, signed}
use Rattle.wasm_binary.specs.Lists.{repeated, vec_to, bytes_of_length}
use Rattle.wasm_code.specs.TypeText.{block_type, tag}
use Rattle.wasm_decode.specs.declared.instructions.Shape.{Shape}
use Rattle.wasm_decode.specs.declared.instructions.Shape.TheVariants as shapes

-- opcodes of the table, by what they are applied to
abbrev pub is_access : ℕ → Bool
is_access op = is_some (load_of op) || is_some (store_of op) || is_some (float_load op) || is_some (float_store op)

abbrev pub is_numeric : ℕ → Bool
is_numeric op = is_some (unary_of op) || is_some (binary_of op) || is_some (float_unary op) || is_some (float_binary op)

-- those of control, variables, the memory's size and constants; and the byte FC, behind which a number says the instruction
abbrev pub is_other : ℕ → Bool
is_other op = from 0x00 0x05 op || from 0x0B 0x11 op || op == 0x1A || op == 0x1B || from 0x20 0x24 op || from 0x3F 0x44 op || op == 0xFC

abbrev pub is_opcode : ℕ → Bool
is_opcode op = is_other op || is_access op || is_numeric op

-- The blocks open at a place of an expression, from the innermost: for each, whether an else may stand there.
abbrev pub Opened : Type 0
Opened = List Bool

abbrev pub else_may_come : Opened → Bool
else_may_come [] = false
else_may_come (x ∷ opened) = x

-- 65 for no opcode and for an else of no if, 69 for a block in 256 others (profile).
abbrev pub judge_opcode : Opened → ℕ → Result ℕ ℕ
judge_opcode opened op =
    if not (is_opcode op) then Err WasmOpcode
    else if from 0x02 0x04 op && nat_le 256 (length opened) then Err WasmLimit
    else if op == 0x05 && not (else_may_come opened) then Err WasmOpcode
    else Ok op

-- instructions with nothing behind their opcode, but for operations on numbers
abbrev pub is_bare : ℕ → Bool
is_bare op = op == 0x00 || op == 0x01 || op == 0x05 || op == 0x0B || op == 0x0F || op == 0x1A || op == 0x1B

abbrev pub bare : ℕ → Instr
bare op =
    if op == 0x00 then instrs.Unreachable else if op == 0x01 then instrs.Nop else if op == 0x05 then instrs.Else
    else if op == 0x0B then instrs.End else if op == 0x0F then instrs.Return else if op == 0x1A then instrs.Drop else instrs.Select

-- blocks with their type
abbrev pub block_of : ℕ → Option ValType → Instr
block_of op r = if op == 0x02 then instrs.Block r else if op == 0x03 then instrs.Loop r else instrs.If r

abbrev pub block : ℕ → Form Instr
block op = do
  kind ← block_type
  give (block_of op kind.result)

-- instructions with an index
abbrev pub is_indexed : ℕ → Bool
is_indexed op = op == 0x0C || op == 0x0D || op == 0x10 || from 0x20 0x24 op

abbrev pub index_of : ℕ → ℕ → Instr
index_of op n =
    if op == 0x0C then instrs.Br n else if op == 0x0D then instrs.BrIf n else if op == 0x10 then instrs.Call n
    else if op == 0x20 then instrs.LocalGet n else if op == 0x21 then instrs.LocalSet n else if op == 0x22 then instrs.LocalTee n
    else if op == 0x23 then instrs.GlobalGet n else instrs.GlobalSet n

abbrev pub indexed : ℕ → Form Instr
indexed op = do
  n ← u32
  give (index_of op n)

-- at most 4,096 labels beside the default (profile)
abbrev pub br_table : Form Instr
br_table = do
  labels ← vec_to 4096 u32
  default ← u32
  give (instrs.BrTable labels default)

-- a u32 that must be 0, with any spelling
abbrev pub table_zero : Form ℕ
table_zero = unsigned 32 0 0 WasmOpcode

abbrev pub call_indirect : Form Instr
call_indirect = do
  kind ← u32
  table ← table_zero
  give (instrs.CallIndirect kind)

-- loads and stores: the name that the opcode has, or the opcode itself for a float
abbrev pub float_access : ℕ → MemArg → Instr
float_access op at = if is_some (float_load op) then instrs.Float (floats.Load op at) else instrs.Float (floats.Store op at)

abbrev pub access_at : ℕ → MemArg → Instr
access_at op at = option_map_or (λ o. instrs.Load o at) (load_of op) (option_map_or (λ o. instrs.Store o at) (store_of op) (float_access op at))

abbrev pub access_of : ℕ → ℕ → ℕ → Instr
access_of op align offset = access_at op (record { align = align; offset = offset })

abbrev pub access : ℕ → Form Instr
access op = do
  align ← u32
  offset ← u32
  give (access_of op align offset)

-- the size of the memory and its growth, with a reserved byte
abbrev pub memory_of : ℕ → Instr
memory_of op = if op == 0x3F then instrs.MemorySize else instrs.MemoryGrow

abbrev pub reserved : ℕ → Form Instr
reserved op = do
  mark ← tag 0x00 WasmOpcode
  give (memory_of op)

abbrev pub const_32 : Form Instr
const_32 = do
  n ← signed 32
  give (instrs.I32Const n)

abbrev pub const_64 : Form Instr
const_64 = do
  n ← signed 64
  give (instrs.I64Const n)

-- floats, as their bits, the lowest byte first
abbrev pub float_32 : Form Instr
float_32 = do
  bytes ← bytes_of_length 4
  give (instrs.Float (floats.F32Const (from_le_bytes w32 bytes)))

abbrev pub float_64 : Form Instr
float_64 = do
  bytes ← bytes_of_length 8
  give (instrs.Float (floats.F64Const (from_le_bytes w64 bytes)))

-- operations on numbers, likewise
abbrev pub float_numeric : ℕ → Instr
float_numeric op = if is_some (float_unary op) then instrs.Float (floats.Unary op) else instrs.Float (floats.Binary op)

abbrev pub numeric_of : ℕ → Instr
numeric_of op = option_map_or (λ o. instrs.Unary o) (unary_of op) (option_map_or (λ o. instrs.Binary o) (binary_of op) (float_numeric op))

-- ---- behind FC

-- numbers behind FC: those of truncations, 10 and 11
abbrev pub is_prefixed : ℕ → Bool
is_prefixed n = is_some (truncate n) || n == 10 || n == 11

-- A u32 with any spelling: its value stands in the first byte's low seven bits, and what follows is zero; else 65.
abbrev pub judge_prefixed : ℕ → Result ℕ ℕ
judge_prefixed b = if is_prefixed (b % 128) then Ok b else Err WasmOpcode

abbrev pub zeros_behind : ℕ → Form ℕ
zeros_behind b = choose (nat_lt b 128) (give 0) (unsigned 25 0 0 WasmOpcode)

abbrev pub prefix_number : Form ℕ
prefix_number = do
  b ← byte judge_prefixed
  high ← zeros_behind b
  give (b % 128)

-- with two reserved bytes, and with one
abbrev pub memory_copy : Form Instr
memory_copy = do
  to ← tag 0x00 WasmOpcode
  origin ← tag 0x00 WasmOpcode
  give instrs.MemoryCopy

abbrev pub memory_fill : Form Instr
memory_fill = do
  mark ← tag 0x00 WasmOpcode
  give instrs.MemoryFill

abbrev pub prefixed_of : ℕ → Form Instr
prefixed_of n = choose (n == 10) memory_copy (choose (n == 11) memory_fill (give (instrs.Float (floats.Truncate n))))

abbrev pub prefixed : Form Instr
prefixed = do
  n ← prefix_number
  prefixed_of n

-- ---- instructions

-- what stands behind an opcode
abbrev pub shape_of : ℕ → Shape
shape_of op =
    if is_bare op then shapes.Bare
    else if from 0x02 0x04 op then shapes.Block
    else if is_indexed op then shapes.Index
    else if op == 0x0E then shapes.Table
    else if op == 0x11 then shapes.Indirect
    else if from 0x28 0x3E op then shapes.Access
    else if from 0x3F 0x40 op then shapes.Reserved
    else if op == 0x41 then shapes.Const32
    else if op == 0x42 then shapes.Const64
    else if op == 0x43 then shapes.Float32
    else if op == 0x44 then shapes.Float64
    else if op == 0xFC then shapes.Prefixed
    else shapes.Number

abbrev pub behind : Shape → ℕ → Form Instr
behind shapes.Bare op = give (bare op)
behind shapes.Block op = block op
behind shapes.Index op = indexed op
behind shapes.Table op = br_table
behind shapes.Indirect op = call_indirect
behind shapes.Access op = access op
behind shapes.Reserved op = reserved op
behind shapes.Const32 op = const_32
behind shapes.Const64 op = const_64
behind shapes.Float32 op = float_32
behind shapes.Float64 op = float_64
behind shapes.Prefixed op = prefixed
behind shapes.Number op = give (numeric_of op)

abbrev pub immediates : ℕ → Form Instr
immediates op = behind (shape_of op) op

-- an instruction where these blocks are open
abbrev pub instr : Opened → Form Instr
instr opened = byte (judge_opcode opened) >>= immediates

-- In an expression: the blocks open, and whether its last end has been read.
pub record InExpr : Type 0 where
  pub opened : Opened
  pub ended : Bool

abbrev pub at_end : Opened → InExpr
at_end [] = record { opened = []; ended = true }
at_end (x ∷ opened) = record { opened = opened; ended = false }

abbrev pub at_else : Opened → Opened
at_else [] = []
at_else (x ∷ opened) = false ∷ opened

abbrev pub in_expr : InExpr → Instr → InExpr
in_expr s (instrs.Block r) = record { opened = false ∷ s.opened; ended = false }
in_expr s (instrs.Loop r) = record { opened = false ∷ s.opened; ended = false }
in_expr s (instrs.If r) = record { opened = true ∷ s.opened; ended = false }
in_expr s instrs.Else = record { opened = at_else s.opened; ended = false }
in_expr s instrs.End = at_end s.opened
in_expr s _ = record { opened = s.opened; ended = false }

-- an expression ends with the end of no block
unfoldable pub expr : Form (List Instr)
expr = repeated (λ s. instr s.opened) in_expr (λ s. s.ended) (record { opened = []; ended = false })
