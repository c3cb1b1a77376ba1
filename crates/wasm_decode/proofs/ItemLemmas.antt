-- Reading items.
use Rattle.std.proofs.Common.{◌≡◌, ℕ, List, [], ◌∷◌, length, false, Result, sym, subst}
use Rattle.sim_base.specs.declared.fault.Fault.{Fault}
use Rattle.sim_refusals.specs.Refusals.{WasmCut, WasmLeb, WasmType, WasmCount, WasmLimit}
use Rattle.wasm_binary.specs.declared.reader.Reader.{Reader}
use Rattle.wasm_binary.specs.Form.{Form, give, byte, judge_tag, ◌>>=◌}
use Rattle.wasm_binary.specs.Reads.{Reads, Fails, Decodes}
use Rattle.wasm_binary.proofs.Steps.{stops, then, then_reads, then_fails, given}
use Rattle.wasm_binary.specs.Proper.{Proper}
use Rattle.wasm_binary.proofs.Exact.{give_proper, byte_proper, then_proper, repeated_proper, unsigned_proper, vec_proper, byte_vec_proper, sized_proper}
use Rattle.wasm_binary.specs.Leb.{u32, at_most, exactly}
use Rattle.wasm_binary.specs.Lists.{vec, byte_vec, repeated}
use Rattle.wasm_binary.specs.Names.{name}
use Rattle.wasm_code.specs.declared.types.ValType.{ValType}
use Rattle.wasm_code.specs.declared.types.FuncType.{FuncType}
use Rattle.wasm_code.specs.declared.types.GlobalType.{GlobalType}
use Rattle.wasm_code.specs.declared.types.Limits.{Limits}
use Rattle.wasm_code.specs.declared.instr.Instr.{Instr}
use Rattle.wasm_binary.specs.Lists.{is_zero}
use Rattle.wasm_binary.specs.Names.{name_of_length, judge_in_name, in_name, InName}
use Rattle.wasm_code.specs.TypeText.{val_type, judge_val_type, tag, limits, table_type, global_type}
use Rattle.wasm_decode.specs.declared.module.Extern.{Extern}
use Rattle.wasm_decode.specs.declared.module.Extern.TheVariants as externs
use Rattle.wasm_decode.specs.declared.module.ImportDesc.{ImportDesc}
use Rattle.wasm_decode.specs.declared.module.ImportDesc.TheVariants as descs
use Rattle.wasm_decode.specs.declared.module.Import.{Import}
use Rattle.wasm_decode.specs.declared.module.GlobalDef.{GlobalDef}
use Rattle.wasm_decode.specs.declared.module.Export.{Export}
use Rattle.wasm_decode.specs.declared.module.ElementSegment.{ElementSegment}
use Rattle.wasm_decode.specs.declared.module.LocalRun.{LocalRun}
use Rattle.wasm_decode.specs.declared.module.Body.{Body}
use Rattle.wasm_decode.specs.declared.module.DataSegment.{DataSegment}
use Rattle.wasm_decode.specs.InstrText.{expr}
use Rattle.wasm_code.proofs.LimitsLemmas.{limits_proper}
use Rattle.wasm_code.proofs.TypeLemmas.{table_type_proper, global_type_proper}
use Rattle.wasm_decode.proofs.ExprLemmas.{expr_proper}
use Rattle.wasm_decode.specs.ItemText.{more_left, room_of, InImports, in_imports, InLocals, in_locals, judge_extern, judge_import, import_desc, import_item, imports, imports_of, global, export, element, segment, local_run, locals_of, body, bodies, body_of, rest_of, is_none_left}

u32_proper : Proper u32
u32_proper = unsigned_proper 32 0 4294967295 WasmLeb

pub name_proper : Proper name
name_proper = then_proper u32 name_of_length u32_proper (λ n. repeated_proper (λ (s : InName). byte (judge_in_name s)) in_name (λ s. is_zero s.left) (λ s. byte_proper WasmCut (judge_in_name s)) (record { left = n; tails = [] }))

abbrev pub import_function_1 : (n : ℕ) → Form ImportDesc
import_function_1 n = give (descs.Function n)

pub import_function_done : (old r1 : Reader) (n : ℕ) (v : ImportDesc) → v ≡ descs.Function n → Reads u32 old r1 n → Reads (import_desc externs.Function) old r1 v
import_function_done old r1 n v e h1 = subst (λ (z : ImportDesc). Reads (import_desc externs.Function) old r1 z) (sym e) (then_reads u32 import_function_1 old r1 r1 n (descs.Function n) h1 (given (descs.Function n) r1))

pub import_function_proper : Proper (import_desc externs.Function)
import_function_proper = then_proper u32 import_function_1 u32_proper (λ n. (give_proper (descs.Function n)))

abbrev pub import_table_1 : (l : Limits) → Form ImportDesc
import_table_1 l = give (descs.Table l)

pub import_table_done : (old r1 : Reader) (l : Limits) (v : ImportDesc) → v ≡ descs.Table l → Reads table_type old r1 l → Reads (import_desc externs.Table) old r1 v
import_table_done old r1 l v e h1 = subst (λ (z : ImportDesc). Reads (import_desc externs.Table) old r1 z) (sym e) (then_reads table_type import_table_1 old r1 r1 l (descs.Table l) h1 (given (descs.Table l) r1))

pub import_table_proper : Proper (import_desc externs.Table)
import_table_proper = then_proper table_type import_table_1 table_type_proper (λ l. (give_proper (descs.Table l)))

abbrev pub import_memory_1 : (l : Limits) → Form ImportDesc
import_memory_1 l = give (descs.Memory l)

pub import_memory_done : (old r1 : Reader) (l : Limits) (v : ImportDesc) → v ≡ descs.Memory l → Reads limits old r1 l → Reads (import_desc externs.Memory) old r1 v
import_memory_done old r1 l v e h1 = subst (λ (z : ImportDesc). Reads (import_desc externs.Memory) old r1 z) (sym e) (then_reads limits import_memory_1 old r1 r1 l (descs.Memory l) h1 (given (descs.Memory l) r1))

pub import_memory_proper : Proper (import_desc externs.Memory)
import_memory_proper = then_proper limits import_memory_1 limits_proper (λ l. (give_proper (descs.Memory l)))

abbrev pub import_global_desc_1 : (g : GlobalType) → Form ImportDesc
import_global_desc_1 g = give (descs.Global g)

pub import_global_desc_done : (old r1 : Reader) (g : GlobalType) (v : ImportDesc) → v ≡ descs.Global g → Reads global_type old r1 g → Reads (import_desc externs.Global) old r1 v
import_global_desc_done old r1 g v e h1 = subst (λ (z : ImportDesc). Reads (import_desc externs.Global) old r1 z) (sym e) (then_reads global_type import_global_desc_1 old r1 r1 g (descs.Global g) h1 (given (descs.Global g) r1))

pub import_global_desc_proper : Proper (import_desc externs.Global)
import_global_desc_proper = then_proper global_type import_global_desc_1 global_type_proper (λ g. (give_proper (descs.Global g)))

desc_proper : (k : Extern) → Proper (import_desc k)
desc_proper externs.Function = import_function_proper
desc_proper externs.Table = import_table_proper
desc_proper externs.Memory = import_memory_proper
desc_proper externs.Global = import_global_desc_proper

abbrev pub import_4 : (functions : ℕ) (from : List ℕ) (item : List ℕ) (kind : Extern) (desc : ImportDesc) → Form Import
import_4 functions from item kind desc = give (record { «module» = from; name = item; desc = desc })

abbrev pub import_3 : (functions : ℕ) (from : List ℕ) (item : List ℕ) (kind : Extern) → Form Import
import_3 functions from item kind = (import_desc kind) >>= import_4 functions from item kind

abbrev pub import_2 : (functions : ℕ) (from : List ℕ) (item : List ℕ) → Form Import
import_2 functions from item = (byte (judge_import functions)) >>= import_3 functions from item

abbrev pub import_1 : (functions : ℕ) (from : List ℕ) → Form Import
import_1 functions from = name >>= import_2 functions from

pub import_stops_2 : (functions : ℕ) (old r1 : Reader) (from : List ℕ) (e : Fault) → Reads name old r1 from → Fails name r1 e → Fails (import_item functions) old e
import_stops_2 functions old r1 from e h1 f = then_fails name (import_1 functions) old r1 from e h1 (stops name (import_2 functions from) r1 e f)

pub import_stops_3 : (functions : ℕ) (old r1 r2 : Reader) (from : List ℕ) (item : List ℕ) (e : Fault) → Reads name old r1 from → Reads name r1 r2 item → Fails (byte (judge_import functions)) r2 e → Fails (import_item functions) old e
import_stops_3 functions old r1 r2 from item e h1 h2 f = then_fails name (import_1 functions) old r1 from e h1 (then_fails name (import_2 functions from) r1 r2 item e h2 (stops (byte (judge_import functions)) (import_3 functions from item) r2 e f))

pub import_stops_4 : (functions : ℕ) (old r1 r2 r3 : Reader) (from : List ℕ) (item : List ℕ) (kind : Extern) (e : Fault) → Reads name old r1 from → Reads name r1 r2 item → Reads (byte (judge_import functions)) r2 r3 kind → Fails (import_desc kind) r3 e → Fails (import_item functions) old e
import_stops_4 functions old r1 r2 r3 from item kind e h1 h2 h3 f = then_fails name (import_1 functions) old r1 from e h1 (then_fails name (import_2 functions from) r1 r2 item e h2 (then_fails (byte (judge_import functions)) (import_3 functions from item) r2 r3 kind e h3 (stops (import_desc kind) (import_4 functions from item kind) r3 e f)))

pub import_done : (functions : ℕ) (old r1 r2 r3 r4 : Reader) (from : List ℕ) (item : List ℕ) (kind : Extern) (desc : ImportDesc) (v : Import) → v ≡ record { «module» = from; name = item; desc = desc } → Reads name old r1 from → Reads name r1 r2 item → Reads (byte (judge_import functions)) r2 r3 kind → Reads (import_desc kind) r3 r4 desc → Reads (import_item functions) old r4 v
import_done functions old r1 r2 r3 r4 from item kind desc v e h1 h2 h3 h4 = subst (λ (z : Import). Reads (import_item functions) old r4 z) (sym e) (then_reads name (import_1 functions) old r1 r4 from (record { «module» = from; name = item; desc = desc }) h1 (then_reads name (import_2 functions from) r1 r2 r4 item (record { «module» = from; name = item; desc = desc }) h2 (then_reads (byte (judge_import functions)) (import_3 functions from item) r2 r3 r4 kind (record { «module» = from; name = item; desc = desc }) h3 (then_reads (import_desc kind) (import_4 functions from item kind) r3 r4 r4 desc (record { «module» = from; name = item; desc = desc }) h4 (given (record { «module» = from; name = item; desc = desc }) r4)))))

pub import_proper : (functions : ℕ) → Proper (import_item functions)
import_proper functions = then_proper name (import_1 functions) name_proper (λ from. (then_proper name (import_2 functions from) name_proper (λ item. (then_proper (byte (judge_import functions)) (import_3 functions from item) (byte_proper WasmCut (judge_import functions)) (λ kind. (then_proper (import_desc kind) (import_4 functions from item kind) (desc_proper kind) (λ desc. (give_proper (record { «module» = from; name = item; desc = desc })))))))))

abbrev pub imports_1 : (count : ℕ) → Form (List Import)
imports_1 count = (imports_of count)

pub imports_goes : (old r1 new : Reader) (count : ℕ) (r : Result (List Import) Fault) → Reads u32 old r1 count → Decodes (imports_of count) r r1 new → Decodes imports r old new
imports_goes old r1 new count r h1 d = then u32 imports_1 old r1 new count r h1 d

pub imports_proper : Proper imports
imports_proper = then_proper u32 imports_1 u32_proper (λ count. (repeated_proper (λ (s : InImports). import_item s.functions) in_imports (λ s. is_zero s.left) (λ s. import_proper s.functions) (record { left = count; functions = 0 })))

abbrev pub global_2 : (kind : GlobalType) (init : List Instr) → Form GlobalDef
global_2 kind init = give (record { kind = kind; init = init })

abbrev pub global_1 : (kind : GlobalType) → Form GlobalDef
global_1 kind = expr >>= global_2 kind

pub global_stops_2 : (old r1 : Reader) (kind : GlobalType) (e : Fault) → Reads global_type old r1 kind → Fails expr r1 e → Fails global old e
global_stops_2 old r1 kind e h1 f = then_fails global_type global_1 old r1 kind e h1 (stops expr (global_2 kind) r1 e f)

pub global_done : (old r1 r2 : Reader) (kind : GlobalType) (init : List Instr) (v : GlobalDef) → v ≡ record { kind = kind; init = init } → Reads global_type old r1 kind → Reads expr r1 r2 init → Reads global old r2 v
global_done old r1 r2 kind init v e h1 h2 = subst (λ (z : GlobalDef). Reads global old r2 z) (sym e) (then_reads global_type global_1 old r1 r2 kind (record { kind = kind; init = init }) h1 (then_reads expr (global_2 kind) r1 r2 r2 init (record { kind = kind; init = init }) h2 (given (record { kind = kind; init = init }) r2)))

pub global_proper : Proper global
global_proper = then_proper global_type global_1 global_type_proper (λ kind. (then_proper expr (global_2 kind) expr_proper (λ init. (give_proper (record { kind = kind; init = init })))))

abbrev pub export_3 : (item : List ℕ) (kind : Extern) (index : ℕ) → Form Export
export_3 item kind index = give (record { name = item; kind = kind; index = index })

abbrev pub export_2 : (item : List ℕ) (kind : Extern) → Form Export
export_2 item kind = u32 >>= export_3 item kind

abbrev pub export_1 : (item : List ℕ) → Form Export
export_1 item = (byte judge_extern) >>= export_2 item

pub export_stops_2 : (old r1 : Reader) (item : List ℕ) (e : Fault) → Reads name old r1 item → Fails (byte judge_extern) r1 e → Fails export old e
export_stops_2 old r1 item e h1 f = then_fails name export_1 old r1 item e h1 (stops (byte judge_extern) (export_2 item) r1 e f)

pub export_stops_3 : (old r1 r2 : Reader) (item : List ℕ) (kind : Extern) (e : Fault) → Reads name old r1 item → Reads (byte judge_extern) r1 r2 kind → Fails u32 r2 e → Fails export old e
export_stops_3 old r1 r2 item kind e h1 h2 f = then_fails name export_1 old r1 item e h1 (then_fails (byte judge_extern) (export_2 item) r1 r2 kind e h2 (stops u32 (export_3 item kind) r2 e f))

pub export_done : (old r1 r2 r3 : Reader) (item : List ℕ) (kind : Extern) (index : ℕ) (v : Export) → v ≡ record { name = item; kind = kind; index = index } → Reads name old r1 item → Reads (byte judge_extern) r1 r2 kind → Reads u32 r2 r3 index → Reads export old r3 v
export_done old r1 r2 r3 item kind index v e h1 h2 h3 = subst (λ (z : Export). Reads export old r3 z) (sym e) (then_reads name export_1 old r1 r3 item (record { name = item; kind = kind; index = index }) h1 (then_reads (byte judge_extern) (export_2 item) r1 r2 r3 kind (record { name = item; kind = kind; index = index }) h2 (then_reads u32 (export_3 item kind) r2 r3 r3 index (record { name = item; kind = kind; index = index }) h3 (given (record { name = item; kind = kind; index = index }) r3))))

pub export_proper : Proper export
export_proper = then_proper name export_1 name_proper (λ item. (then_proper (byte judge_extern) (export_2 item) (byte_proper WasmCut judge_extern) (λ kind. (then_proper u32 (export_3 item kind) u32_proper (λ index. (give_proper (record { name = item; kind = kind; index = index })))))))

abbrev pub element_3 : (mark : Unit {0}) (offset : List Instr) (functions : List ℕ) → Form ElementSegment
element_3 mark offset functions = give (record { offset = offset; functions = functions })

abbrev pub element_2 : (mark : Unit {0}) (offset : List Instr) → Form ElementSegment
element_2 mark offset = (vec u32) >>= element_3 mark offset

abbrev pub element_1 : (mark : Unit {0}) → Form ElementSegment
element_1 mark = expr >>= element_2 mark

pub element_stops_2 : (old r1 : Reader) (mark : Unit {0}) (e : Fault) → Reads (tag 0x00 WasmType) old r1 mark → Fails expr r1 e → Fails element old e
element_stops_2 old r1 mark e h1 f = then_fails (tag 0x00 WasmType) element_1 old r1 mark e h1 (stops expr (element_2 mark) r1 e f)

pub element_stops_3 : (old r1 r2 : Reader) (mark : Unit {0}) (offset : List Instr) (e : Fault) → Reads (tag 0x00 WasmType) old r1 mark → Reads expr r1 r2 offset → Fails (vec u32) r2 e → Fails element old e
element_stops_3 old r1 r2 mark offset e h1 h2 f = then_fails (tag 0x00 WasmType) element_1 old r1 mark e h1 (then_fails expr (element_2 mark) r1 r2 offset e h2 (stops (vec u32) (element_3 mark offset) r2 e f))

pub element_done : (old r1 r2 r3 : Reader) (mark : Unit {0}) (offset : List Instr) (functions : List ℕ) (v : ElementSegment) → v ≡ record { offset = offset; functions = functions } → Reads (tag 0x00 WasmType) old r1 mark → Reads expr r1 r2 offset → Reads (vec u32) r2 r3 functions → Reads element old r3 v
element_done old r1 r2 r3 mark offset functions v e h1 h2 h3 = subst (λ (z : ElementSegment). Reads element old r3 z) (sym e) (then_reads (tag 0x00 WasmType) element_1 old r1 r3 mark (record { offset = offset; functions = functions }) h1 (then_reads expr (element_2 mark) r1 r2 r3 offset (record { offset = offset; functions = functions }) h2 (then_reads (vec u32) (element_3 mark offset) r2 r3 r3 functions (record { offset = offset; functions = functions }) h3 (given (record { offset = offset; functions = functions }) r3))))

pub element_proper : Proper element
element_proper = then_proper (tag 0x00 WasmType) element_1 (byte_proper WasmCut (judge_tag 0x00 WasmType)) (λ mark. (then_proper expr (element_2 mark) expr_proper (λ offset. (then_proper (vec u32) (element_3 mark offset) (vec_proper u32 u32_proper) (λ functions. (give_proper (record { offset = offset; functions = functions })))))))

abbrev pub segment_3 : (mark : Unit {0}) (offset : List Instr) (bytes : List ℕ) → Form DataSegment
segment_3 mark offset bytes = give (record { offset = offset; bytes = bytes })

abbrev pub segment_2 : (mark : Unit {0}) (offset : List Instr) → Form DataSegment
segment_2 mark offset = byte_vec >>= segment_3 mark offset

abbrev pub segment_1 : (mark : Unit {0}) → Form DataSegment
segment_1 mark = expr >>= segment_2 mark

pub segment_stops_2 : (old r1 : Reader) (mark : Unit {0}) (e : Fault) → Reads (tag 0x00 WasmType) old r1 mark → Fails expr r1 e → Fails segment old e
segment_stops_2 old r1 mark e h1 f = then_fails (tag 0x00 WasmType) segment_1 old r1 mark e h1 (stops expr (segment_2 mark) r1 e f)

pub segment_stops_3 : (old r1 r2 : Reader) (mark : Unit {0}) (offset : List Instr) (e : Fault) → Reads (tag 0x00 WasmType) old r1 mark → Reads expr r1 r2 offset → Fails byte_vec r2 e → Fails segment old e
segment_stops_3 old r1 r2 mark offset e h1 h2 f = then_fails (tag 0x00 WasmType) segment_1 old r1 mark e h1 (then_fails expr (segment_2 mark) r1 r2 offset e h2 (stops byte_vec (segment_3 mark offset) r2 e f))

pub segment_done : (old r1 r2 r3 : Reader) (mark : Unit {0}) (offset : List Instr) (bytes : List ℕ) (v : DataSegment) → v ≡ record { offset = offset; bytes = bytes } → Reads (tag 0x00 WasmType) old r1 mark → Reads expr r1 r2 offset → Reads byte_vec r2 r3 bytes → Reads segment old r3 v
segment_done old r1 r2 r3 mark offset bytes v e h1 h2 h3 = subst (λ (z : DataSegment). Reads segment old r3 z) (sym e) (then_reads (tag 0x00 WasmType) segment_1 old r1 r3 mark (record { offset = offset; bytes = bytes }) h1 (then_reads expr (segment_2 mark) r1 r2 r3 offset (record { offset = offset; bytes = bytes }) h2 (then_reads byte_vec (segment_3 mark offset) r2 r3 r3 bytes (record { offset = offset; bytes = bytes }) h3 (given (record { offset = offset; bytes = bytes }) r3))))

pub segment_proper : Proper segment
segment_proper = then_proper (tag 0x00 WasmType) segment_1 (byte_proper WasmCut (judge_tag 0x00 WasmType)) (λ mark. (then_proper expr (segment_2 mark) expr_proper (λ offset. (then_proper byte_vec (segment_3 mark offset) byte_vec_proper (λ bytes. (give_proper (record { offset = offset; bytes = bytes })))))))

abbrev pub local_run_2 : (room : ℕ) (count : ℕ) (value : ValType) → Form LocalRun
local_run_2 room count value = give (record { count = count; value = value })

abbrev pub local_run_1 : (room : ℕ) (count : ℕ) → Form LocalRun
local_run_1 room count = val_type >>= local_run_2 room count

pub local_run_stops_2 : (room : ℕ) (old r1 : Reader) (count : ℕ) (e : Fault) → Reads (at_most room) old r1 count → Fails val_type r1 e → Fails (local_run room) old e
local_run_stops_2 room old r1 count e h1 f = then_fails (at_most room) (local_run_1 room) old r1 count e h1 (stops val_type (local_run_2 room count) r1 e f)

pub local_run_done : (room : ℕ) (old r1 r2 : Reader) (count : ℕ) (value : ValType) (v : LocalRun) → v ≡ record { count = count; value = value } → Reads (at_most room) old r1 count → Reads val_type r1 r2 value → Reads (local_run room) old r2 v
local_run_done room old r1 r2 count value v e h1 h2 = subst (λ (z : LocalRun). Reads (local_run room) old r2 z) (sym e) (then_reads (at_most room) (local_run_1 room) old r1 r2 count (record { count = count; value = value }) h1 (then_reads val_type (local_run_2 room count) r1 r2 r2 value (record { count = count; value = value }) h2 (given (record { count = count; value = value }) r2)))

pub local_run_proper : (room : ℕ) → Proper (local_run room)
local_run_proper room = then_proper (at_most room) (local_run_1 room) (unsigned_proper 32 0 room WasmLimit) (λ count. (then_proper val_type (local_run_2 room count) (byte_proper WasmCut judge_val_type) (λ value. (give_proper (record { count = count; value = value })))))

abbrev pub body_3 : (room : ℕ) (count : ℕ) (locals : List LocalRun) (code : List Instr) → Form Body
body_3 room count locals code = give (record { locals = locals; code = code })

abbrev pub body_2 : (room : ℕ) (count : ℕ) (locals : List LocalRun) → Form Body
body_2 room count locals = expr >>= body_3 room count locals

abbrev pub body_1 : (room : ℕ) (count : ℕ) → Form Body
body_1 room count = (locals_of room count) >>= body_2 room count

pub body_stops_2 : (room : ℕ) (old r1 : Reader) (count : ℕ) (e : Fault) → Reads u32 old r1 count → Fails (locals_of room count) r1 e → Fails (body room) old e
body_stops_2 room old r1 count e h1 f = then_fails u32 (body_1 room) old r1 count e h1 (stops (locals_of room count) (body_2 room count) r1 e f)

pub body_stops_3 : (room : ℕ) (old r1 r2 : Reader) (count : ℕ) (locals : List LocalRun) (e : Fault) → Reads u32 old r1 count → Reads (locals_of room count) r1 r2 locals → Fails expr r2 e → Fails (body room) old e
body_stops_3 room old r1 r2 count locals e h1 h2 f = then_fails u32 (body_1 room) old r1 count e h1 (then_fails (locals_of room count) (body_2 room count) r1 r2 locals e h2 (stops expr (body_3 room count locals) r2 e f))

pub body_done : (room : ℕ) (old r1 r2 r3 : Reader) (count : ℕ) (locals : List LocalRun) (code : List Instr) (v : Body) → v ≡ record { locals = locals; code = code } → Reads u32 old r1 count → Reads (locals_of room count) r1 r2 locals → Reads expr r2 r3 code → Reads (body room) old r3 v
body_done room old r1 r2 r3 count locals code v e h1 h2 h3 = subst (λ (z : Body). Reads (body room) old r3 z) (sym e) (then_reads u32 (body_1 room) old r1 r3 count (record { locals = locals; code = code }) h1 (then_reads (locals_of room count) (body_2 room count) r1 r2 r3 locals (record { locals = locals; code = code }) h2 (then_reads expr (body_3 room count locals) r2 r3 r3 code (record { locals = locals; code = code }) h3 (given (record { locals = locals; code = code }) r3))))

pub body_proper : (room : ℕ) → Proper (body room)
body_proper room = then_proper u32 (body_1 room) u32_proper (λ count. (then_proper (locals_of room count) (body_2 room count) (repeated_proper (λ (s : InLocals). local_run s.room) in_locals (λ s. is_zero s.left) (λ s. local_run_proper s.room) (record { left = count; room = room })) (λ locals. (then_proper expr (body_3 room count locals) expr_proper (λ code. (give_proper (record { locals = locals; code = code })))))))

body_of_proper : (types : List FuncType) (fs : List ℕ) → Proper (body_of types fs)
body_of_proper types [] = sized_proper false (body 1024) (body_proper 1024)
body_of_proper types (f ∷ fs) = sized_proper (more_left fs) (body (room_of types f)) (body_proper (room_of types f))

abbrev pub bodies_1 : (types : List FuncType) (functions : List ℕ) (count : ℕ) → Form (List Body)
bodies_1 types functions count = (repeated (body_of types) rest_of is_none_left functions)

pub bodies_goes : (types : List FuncType) (functions : List ℕ) (old r1 new : Reader) (count : ℕ) (r : Result (List Body) Fault) → Reads (exactly (length functions)) old r1 count → Decodes (repeated (body_of types) rest_of is_none_left functions) r r1 new → Decodes (bodies types functions) r old new
bodies_goes types functions old r1 new count r h1 d = then (exactly (length functions)) (bodies_1 types functions) old r1 new count r h1 d

pub bodies_proper : (types : List FuncType) (functions : List ℕ) → Proper (bodies types functions)
bodies_proper types functions = then_proper (exactly (length functions)) (bodies_1 types functions) (unsigned_proper 32 (length functions) (length functions) WasmCount) (λ count. (repeated_proper (body_of types) rest_of is_none_left (body_of_proper types) functions))
