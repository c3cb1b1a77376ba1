-- Reading instructions.
use Rattle.std.proofs.Common.{◌≡◌, ℕ, List, Result, Ok, Err, sym, subst}
use Rattle.sim_base.specs.declared.fault.Fault.{Fault}
use Rattle.wasm_binary.specs.declared.reader.Reader.{Reader}
use Rattle.std.specs.Prelude.{◌%◌, ◌==◌, nat_lt}
use Rattle.std.specs.Int.{w32, w64, from_le_bytes}
use Rattle.wasm_binary.specs.Form.{Form, give, byte, judge_tag, ◌>>=◌}
use Rattle.wasm_binary.specs.Reads.{Reads, Fails, Decodes}
use Rattle.wasm_binary.proofs.Steps.{stops, then, then_reads, then_fails, given}
use Rattle.wasm_binary.specs.Proper.{Proper}
use Rattle.wasm_binary.proofs.Exact.{give_proper, byte_proper, then_proper, unsigned_proper, signed_proper, vec_to_proper, bytes_proper, choose_proper}
use Rattle.wasm_binary.specs.Leb.{u32, unsigned, signed}
use Rattle.wasm_binary.specs.Lists.{vec_to, bytes_of_length}
use Rattle.wasm_code.specs.declared.types.BlockType.{BlockType}
use Rattle.wasm_code.specs.declared.instr.Instr.{Instr}
use Rattle.wasm_code.specs.declared.instr.Instr.TheVariants as instrs
use Rattle.wasm_code.specs.declared.instr.FloatInstr.TheVariants as floats
use Rattle.wasm_code.specs.TypeText.{block_type, judge_block_type, tag}
use Rattle.wasm_decode.specs.declared.instructions.Shape.{Shape}
use Rattle.wasm_decode.specs.declared.instructions.Shape.TheVariants as shapes
use Rattle.wasm_binary.specs.Form.{any_byte}
use Rattle.wasm_binary.proofs.Steps.{judged_ends, judged_ok, judged_err}
use Rattle.sim_base.specs.declared.fault.Fault.TheVariants as faults
use Rattle.sim_base.specs.declared.fault.Place.TheVariants as places
use Rattle.sim_refusals.specs.Refusals.{WasmCut, WasmLeb, WasmOpcode}
use Rattle.wasm_decode.specs.InstrText.{block_of, block, index_of, indexed, br_table, table_zero, call_indirect, access_of, access, memory_of, reserved, const_32, const_64, float_32, float_64, judge_prefixed, zeros_behind, prefix_number, memory_copy, memory_fill, prefixed_of, prefixed, shape_of, behind, immediates, judge_opcode, Opened, instr, bare, numeric_of}

abbrev pub block_1 : (op : ℕ) (kind : BlockType) → Form Instr
block_1 op kind = give (block_of op kind.result)

pub block_done : (op : ℕ) (old r1 : Reader) (kind : BlockType) (v : Instr) → v ≡ block_of op kind.result → Reads block_type old r1 kind → Reads (block op) old r1 v
block_done op old r1 kind v e h1 = subst (λ (z : Instr). Reads (block op) old r1 z) (sym e) (then_reads block_type (block_1 op) old r1 r1 kind (block_of op kind.result) h1 (given (block_of op kind.result) r1))

pub block_proper : (op : ℕ) → Proper (block op)
block_proper op = then_proper block_type (block_1 op) (byte_proper WasmCut judge_block_type) (λ kind. (give_proper (block_of op kind.result)))

abbrev pub indexed_1 : (op : ℕ) (n : ℕ) → Form Instr
indexed_1 op n = give (index_of op n)

pub indexed_done : (op : ℕ) (old r1 : Reader) (n : ℕ) (v : Instr) → v ≡ index_of op n → Reads u32 old r1 n → Reads (indexed op) old r1 v
indexed_done op old r1 n v e h1 = subst (λ (z : Instr). Reads (indexed op) old r1 z) (sym e) (then_reads u32 (indexed_1 op) old r1 r1 n (index_of op n) h1 (given (index_of op n) r1))

pub indexed_proper : (op : ℕ) → Proper (indexed op)
indexed_proper op = then_proper u32 (indexed_1 op) (unsigned_proper 32 0 4294967295 WasmLeb) (λ n. (give_proper (index_of op n)))

abbrev pub br_table_2 : (labels : List ℕ) (default : ℕ) → Form Instr
br_table_2 labels default = give (instrs.BrTable labels default)

abbrev pub br_table_1 : (labels : List ℕ) → Form Instr
br_table_1 labels = u32 >>= br_table_2 labels

pub br_table_stops_2 : (old r1 : Reader) (labels : List ℕ) (e : Fault) → Reads (vec_to 4096 u32) old r1 labels → Fails u32 r1 e → Fails br_table old e
br_table_stops_2 old r1 labels e h1 f = then_fails (vec_to 4096 u32) br_table_1 old r1 labels e h1 (stops u32 (br_table_2 labels) r1 e f)

pub br_table_done : (old r1 r2 : Reader) (labels : List ℕ) (default : ℕ) (v : Instr) → v ≡ instrs.BrTable labels default → Reads (vec_to 4096 u32) old r1 labels → Reads u32 r1 r2 default → Reads br_table old r2 v
br_table_done old r1 r2 labels default v e h1 h2 = subst (λ (z : Instr). Reads br_table old r2 z) (sym e) (then_reads (vec_to 4096 u32) br_table_1 old r1 r2 labels (instrs.BrTable labels default) h1 (then_reads u32 (br_table_2 labels) r1 r2 r2 default (instrs.BrTable labels default) h2 (given (instrs.BrTable labels default) r2)))

pub br_table_proper : Proper br_table
br_table_proper = then_proper (vec_to 4096 u32) br_table_1 (vec_to_proper 4096 u32 (unsigned_proper 32 0 4294967295 WasmLeb)) (λ labels. (then_proper u32 (br_table_2 labels) (unsigned_proper 32 0 4294967295 WasmLeb) (λ default. (give_proper (instrs.BrTable labels default)))))

abbrev pub call_indirect_2 : (kind table : ℕ) → Form Instr
call_indirect_2 kind table = give (instrs.CallIndirect kind)

abbrev pub call_indirect_1 : (kind : ℕ) → Form Instr
call_indirect_1 kind = table_zero >>= call_indirect_2 kind

pub call_indirect_stops_2 : (old r1 : Reader) (kind : ℕ) (e : Fault) → Reads u32 old r1 kind → Fails table_zero r1 e → Fails call_indirect old e
call_indirect_stops_2 old r1 kind e h1 f = then_fails u32 call_indirect_1 old r1 kind e h1 (stops table_zero (call_indirect_2 kind) r1 e f)

pub call_indirect_done : (old r1 r2 : Reader) (kind table : ℕ) (v : Instr) → v ≡ instrs.CallIndirect kind → Reads u32 old r1 kind → Reads table_zero r1 r2 table → Reads call_indirect old r2 v
call_indirect_done old r1 r2 kind table v e h1 h2 = subst (λ (z : Instr). Reads call_indirect old r2 z) (sym e) (then_reads u32 call_indirect_1 old r1 r2 kind (instrs.CallIndirect kind) h1 (then_reads table_zero (call_indirect_2 kind) r1 r2 r2 table (instrs.CallIndirect kind) h2 (given (instrs.CallIndirect kind) r2)))

pub call_indirect_proper : Proper call_indirect
call_indirect_proper = then_proper u32 call_indirect_1 (unsigned_proper 32 0 4294967295 WasmLeb) (λ kind. (then_proper table_zero (call_indirect_2 kind) (unsigned_proper 32 0 0 WasmOpcode) (λ table. (give_proper (instrs.CallIndirect kind)))))

abbrev pub access_2 : (op : ℕ) (align : ℕ) (offset : ℕ) → Form Instr
access_2 op align offset = give (access_of op align offset)

abbrev pub access_1 : (op : ℕ) (align : ℕ) → Form Instr
access_1 op align = u32 >>= access_2 op align

pub access_stops_2 : (op : ℕ) (old r1 : Reader) (align : ℕ) (e : Fault) → Reads u32 old r1 align → Fails u32 r1 e → Fails (access op) old e
access_stops_2 op old r1 align e h1 f = then_fails u32 (access_1 op) old r1 align e h1 (stops u32 (access_2 op align) r1 e f)

pub access_done : (op : ℕ) (old r1 r2 : Reader) (align : ℕ) (offset : ℕ) (v : Instr) → v ≡ access_of op align offset → Reads u32 old r1 align → Reads u32 r1 r2 offset → Reads (access op) old r2 v
access_done op old r1 r2 align offset v e h1 h2 = subst (λ (z : Instr). Reads (access op) old r2 z) (sym e) (then_reads u32 (access_1 op) old r1 r2 align (access_of op align offset) h1 (then_reads u32 (access_2 op align) r1 r2 r2 offset (access_of op align offset) h2 (given (access_of op align offset) r2)))

pub access_proper : (op : ℕ) → Proper (access op)
access_proper op = then_proper u32 (access_1 op) (unsigned_proper 32 0 4294967295 WasmLeb) (λ align. (then_proper u32 (access_2 op align) (unsigned_proper 32 0 4294967295 WasmLeb) (λ offset. (give_proper (access_of op align offset)))))

abbrev pub reserved_1 : (op : ℕ) (mark : Unit {0}) → Form Instr
reserved_1 op mark = give (memory_of op)

pub reserved_done : (op : ℕ) (old r1 : Reader) (mark : Unit {0}) (v : Instr) → v ≡ memory_of op → Reads (tag 0x00 WasmOpcode) old r1 mark → Reads (reserved op) old r1 v
reserved_done op old r1 mark v e h1 = subst (λ (z : Instr). Reads (reserved op) old r1 z) (sym e) (then_reads (tag 0x00 WasmOpcode) (reserved_1 op) old r1 r1 mark (memory_of op) h1 (given (memory_of op) r1))

pub reserved_proper : (op : ℕ) → Proper (reserved op)
reserved_proper op = then_proper (tag 0x00 WasmOpcode) (reserved_1 op) (byte_proper WasmCut (judge_tag 0x00 WasmOpcode)) (λ mark. (give_proper (memory_of op)))

abbrev pub const_32_1 : (n : ℕ) → Form Instr
const_32_1 n = give (instrs.I32Const n)

pub const_32_done : (old r1 : Reader) (n : ℕ) (v : Instr) → v ≡ instrs.I32Const n → Reads (signed 32) old r1 n → Reads const_32 old r1 v
const_32_done old r1 n v e h1 = subst (λ (z : Instr). Reads const_32 old r1 z) (sym e) (then_reads (signed 32) const_32_1 old r1 r1 n (instrs.I32Const n) h1 (given (instrs.I32Const n) r1))

pub const_32_proper : Proper const_32
const_32_proper = then_proper (signed 32) const_32_1 (signed_proper 32) (λ n. (give_proper (instrs.I32Const n)))

abbrev pub const_64_1 : (n : ℕ) → Form Instr
const_64_1 n = give (instrs.I64Const n)

pub const_64_done : (old r1 : Reader) (n : ℕ) (v : Instr) → v ≡ instrs.I64Const n → Reads (signed 64) old r1 n → Reads const_64 old r1 v
const_64_done old r1 n v e h1 = subst (λ (z : Instr). Reads const_64 old r1 z) (sym e) (then_reads (signed 64) const_64_1 old r1 r1 n (instrs.I64Const n) h1 (given (instrs.I64Const n) r1))

pub const_64_proper : Proper const_64
const_64_proper = then_proper (signed 64) const_64_1 (signed_proper 64) (λ n. (give_proper (instrs.I64Const n)))

float_32_proper : Proper float_32
float_32_proper = then_proper (bytes_of_length 4) _ (bytes_proper 4) (λ bytes. give_proper (instrs.Float (floats.F32Const (from_le_bytes w32 bytes))))

float_64_proper : Proper float_64
float_64_proper = then_proper (bytes_of_length 8) _ (bytes_proper 8) (λ bytes. give_proper (instrs.Float (floats.F64Const (from_le_bytes w64 bytes))))

abbrev pub copy_2 : (to origin : Unit {0}) → Form Instr
copy_2 to origin = give instrs.MemoryCopy

abbrev pub copy_1 : (to : Unit {0}) → Form Instr
copy_1 to = tag 0x00 WasmOpcode >>= copy_2 to

pub memory_copy_stops_2 : (old r1 : Reader) (to : Unit {0}) (e : Fault) → Reads (tag 0x00 WasmOpcode) old r1 to → Fails (tag 0x00 WasmOpcode) r1 e → Fails memory_copy old e
memory_copy_stops_2 old r1 to e h1 f = then_fails (tag 0x00 WasmOpcode) copy_1 old r1 to e h1 (stops (tag 0x00 WasmOpcode) (copy_2 to) r1 e f)

pub memory_copy_done : (old r1 r2 : Reader) (to origin : Unit {0}) → Reads (tag 0x00 WasmOpcode) old r1 to → Reads (tag 0x00 WasmOpcode) r1 r2 origin → Reads memory_copy old r2 instrs.MemoryCopy
memory_copy_done old r1 r2 to origin h1 h2 = then_reads (tag 0x00 WasmOpcode) copy_1 old r1 r2 to instrs.MemoryCopy h1 (then_reads (tag 0x00 WasmOpcode) (copy_2 to) r1 r2 r2 origin instrs.MemoryCopy h2 (given instrs.MemoryCopy r2))

abbrev pub number_2 : (b high : ℕ) → Form ℕ
number_2 b high = give (b % 128)

abbrev pub number_1 : (b : ℕ) → Form ℕ
number_1 b = zeros_behind b >>= number_2 b

pub number_stops_2 : (old r1 : Reader) (b : ℕ) (e : Fault) → Reads (byte judge_prefixed) old r1 b → Fails (zeros_behind b) r1 e → Fails prefix_number old e
number_stops_2 old r1 b e h1 f = then_fails (byte judge_prefixed) number_1 old r1 b e h1 (stops (zeros_behind b) (number_2 b) r1 e f)

pub number_done : (old r1 r2 : Reader) (b high n : ℕ) → n ≡ b % 128 → Reads (byte judge_prefixed) old r1 b → Reads (zeros_behind b) r1 r2 high → Reads prefix_number old r2 n
number_done old r1 r2 b high n e h1 h2 = subst (λ (z : ℕ). Reads prefix_number old r2 z) (sym e) (then_reads (byte judge_prefixed) number_1 old r1 r2 b (b % 128) h1 (then_reads (zeros_behind b) (number_2 b) r1 r2 r2 high (b % 128) h2 (given (b % 128) r2)))

pub prefixed_goes : (old mid new : Reader) (n : ℕ) (r : Result Instr Fault) → Reads prefix_number old mid n → Decodes (prefixed_of n) r mid new → Decodes prefixed r old new
prefixed_goes old mid new n r h d = then prefix_number prefixed_of old mid new n r h d

memory_copy_proper : Proper memory_copy
memory_copy_proper = then_proper (tag 0x00 WasmOpcode) _ (byte_proper WasmCut (judge_tag 0x00 WasmOpcode)) (λ to. then_proper (tag 0x00 WasmOpcode) _ (byte_proper WasmCut (judge_tag 0x00 WasmOpcode)) (λ origin. give_proper instrs.MemoryCopy))

memory_fill_proper : Proper memory_fill
memory_fill_proper = then_proper (tag 0x00 WasmOpcode) _ (byte_proper WasmCut (judge_tag 0x00 WasmOpcode)) (λ mark. give_proper instrs.MemoryFill)

prefix_number_proper : Proper prefix_number
prefix_number_proper = then_proper (byte judge_prefixed) _ (byte_proper WasmCut judge_prefixed)
    (λ b. then_proper (zeros_behind b) _ (choose_proper (nat_lt b 128) (give 0) (unsigned 25 0 0 WasmOpcode) (give_proper 0) (unsigned_proper 25 0 0 WasmOpcode)) (λ high. give_proper (b % 128)))

prefixed_proper : Proper prefixed
prefixed_proper = then_proper prefix_number prefixed_of prefix_number_proper
    (λ n. choose_proper (n == 10) memory_copy _ memory_copy_proper (choose_proper (n == 11) memory_fill (give (instrs.Float (floats.Truncate n))) memory_fill_proper (give_proper (instrs.Float (floats.Truncate n)))))

behind_proper : (s : Shape) (op : ℕ) → Proper (behind s op)
behind_proper shapes.Bare op = give_proper (bare op)
behind_proper shapes.Block op = block_proper op
behind_proper shapes.Index op = indexed_proper op
behind_proper shapes.Table op = br_table_proper
behind_proper shapes.Indirect op = call_indirect_proper
behind_proper shapes.Access op = access_proper op
behind_proper shapes.Reserved op = reserved_proper op
behind_proper shapes.Const32 op = const_32_proper
behind_proper shapes.Const64 op = const_64_proper
behind_proper shapes.Float32 op = float_32_proper
behind_proper shapes.Float64 op = float_64_proper
behind_proper shapes.Prefixed op = prefixed_proper
behind_proper shapes.Number op = give_proper (numeric_of op)

pub instr_proper : (o : Opened) → Proper (instr o)
instr_proper o = then_proper (byte (judge_opcode o)) immediates (byte_proper WasmCut (judge_opcode o)) (λ op. behind_proper (shape_of op) op)

-- what stands behind an opcode of a shape
pub by_shape : (op : ℕ) (s : Shape) (old new : Reader) (r : Result Instr Fault) → s ≡ shape_of op → Decodes (behind s op) r old new → Decodes (immediates op) r old new
by_shape op s old new r e d = subst (λ (z : Shape). Decodes (behind z op) r old new) e d

pub shaped : (op : ℕ) (s t : Shape) (old new : Reader) (r : Result Instr Fault) → s ≡ shape_of op → s ≡ t → Decodes (behind t op) r old new → Decodes (immediates op) r old new
shaped op s t old new r e q d = by_shape op s old new r e (subst (λ (z : Shape). Decodes (behind z op) r old new) (sym q) d)

pub bare_read : (op : ℕ) (i : Instr) (r : Reader) → i ≡ bare op → Reads (behind shapes.Bare op) r r i
bare_read op i r e = subst (λ (z : Instr). Reads (give (bare op)) r r z) (sym e) (given (bare op) r)

pub number_read : (op : ℕ) (i : Instr) (r : Reader) → i ≡ numeric_of op → Reads (behind shapes.Number op) r r i
number_read op i r e = subst (λ (z : Instr). Reads (give (numeric_of op)) r r z) (sym e) (given (numeric_of op) r)

module _ (o : Opened) where
  pub instr_ends : (old : Reader) (e : Fault) → Fails any_byte old e → Fails (instr o) old e
  instr_ends old e f = stops (byte (judge_opcode o)) immediates old e (judged_ends (judge_opcode o) old e f)

  pub instr_faulty : (old mid : Reader) (b k : ℕ) (e : Fault) → Reads any_byte old mid b → Err k ≡ judge_opcode o b → e ≡ faults.Refused (record { number = k; place = places.Byte old.at }) → Fails (instr o) old e
  instr_faulty old mid b k e h j is =
      let f = stops (byte (judge_opcode o)) immediates old (faults.Refused (record { number = k; place = places.Byte old.at })) (judged_err (judge_opcode o) old mid b k h (sym j)) in
      subst (λ (z : Fault). Fails (instr o) old z) (sym is) f

  pub instr_goes : (old mid new : Reader) (b op : ℕ) (r : Result Instr Fault) → Reads any_byte old mid b → Ok op ≡ judge_opcode o b → Decodes (immediates op) r mid new → Decodes (instr o) r old new
  instr_goes old mid new b op r h j d = then (byte (judge_opcode o)) immediates old mid new op r (judged_ok (judge_opcode o) old mid b op h (sym j)) d
