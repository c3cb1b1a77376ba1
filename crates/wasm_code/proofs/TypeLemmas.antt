-- Reading types.
use Rattle.std.proofs.Common.{◌≡◌, ℕ, List, Bool, Result, sym, subst}
use Rattle.sim_base.specs.declared.fault.Fault.{Fault}
use Rattle.sim_refusals.specs.Refusals.{WasmCut, WasmType}
use Rattle.wasm_binary.specs.declared.reader.Reader.{Reader}
use Rattle.wasm_binary.specs.Form.{Form, give, flag, judge_tag, ◌>>=◌}
use Rattle.wasm_binary.specs.Reads.{Reads, Fails, Decodes}
use Rattle.wasm_binary.proofs.Steps.{stops, then, then_reads, then_fails, given}
use Rattle.wasm_binary.specs.Form.{judge_flag}
use Rattle.wasm_binary.specs.Proper.{Proper}
use Rattle.wasm_binary.proofs.Exact.{give_proper, byte_proper, then_proper, vec_proper, vec_to_proper}
use Rattle.wasm_binary.specs.Leb.{u32}
use Rattle.wasm_binary.specs.Lists.{vec, vec_to, items}
use Rattle.wasm_code.specs.declared.types.ValType.{ValType}
use Rattle.wasm_code.specs.declared.types.FuncType.{FuncType}
use Rattle.wasm_code.specs.declared.types.GlobalType.{GlobalType}
use Rattle.wasm_code.specs.declared.types.Limits.{Limits}
use Rattle.wasm_code.specs.TypeText.{val_type, judge_val_type, tag, limits, table_type, global_type, func_type}
use Rattle.wasm_code.proofs.LimitsLemmas.{limits_proper}

abbrev pub global_type_2 : (value : ValType) (changeable : Bool) → Form GlobalType
global_type_2 value changeable = give (record { value = value; changeable = changeable })

abbrev pub global_type_1 : (value : ValType) → Form GlobalType
global_type_1 value = flag >>= global_type_2 value

pub global_type_stops_2 : (old r1 : Reader) (value : ValType) (e : Fault) → Reads val_type old r1 value → Fails flag r1 e → Fails global_type old e
global_type_stops_2 old r1 value e h1 f = then_fails val_type global_type_1 old r1 value e h1 (stops flag (global_type_2 value) r1 e f)

pub global_type_done : (old r1 r2 : Reader) (value : ValType) (changeable : Bool) (v : GlobalType) → v ≡ record { value = value; changeable = changeable } → Reads val_type old r1 value → Reads flag r1 r2 changeable → Reads global_type old r2 v
global_type_done old r1 r2 value changeable v e h1 h2 = subst (λ (z : GlobalType). Reads global_type old r2 z) (sym e) (then_reads val_type global_type_1 old r1 r2 value (record { value = value; changeable = changeable }) h1 (then_reads flag (global_type_2 value) r1 r2 r2 changeable (record { value = value; changeable = changeable }) h2 (given (record { value = value; changeable = changeable }) r2)))

pub global_type_proper : Proper global_type
global_type_proper = then_proper val_type global_type_1 (byte_proper WasmCut judge_val_type) (λ value. (then_proper flag (global_type_2 value) (byte_proper WasmCut judge_flag) (λ changeable. (give_proper (record { value = value; changeable = changeable })))))

abbrev pub func_type_3 : (mark : Unit {0}) (params : List ValType) (results : List ValType) → Form FuncType
func_type_3 mark params results = give (record { params = params; results = results })

abbrev pub func_type_2 : (mark : Unit {0}) (params : List ValType) → Form FuncType
func_type_2 mark params = (vec val_type) >>= func_type_3 mark params

abbrev pub func_type_1 : (mark : Unit {0}) → Form FuncType
func_type_1 mark = (vec_to 16 val_type) >>= func_type_2 mark

pub func_type_stops_2 : (old r1 : Reader) (mark : Unit {0}) (e : Fault) → Reads (tag 0x60 WasmType) old r1 mark → Fails (vec_to 16 val_type) r1 e → Fails func_type old e
func_type_stops_2 old r1 mark e h1 f = then_fails (tag 0x60 WasmType) func_type_1 old r1 mark e h1 (stops (vec_to 16 val_type) (func_type_2 mark) r1 e f)

pub func_type_stops_3 : (old r1 r2 : Reader) (mark : Unit {0}) (params : List ValType) (e : Fault) → Reads (tag 0x60 WasmType) old r1 mark → Reads (vec_to 16 val_type) r1 r2 params → Fails (vec val_type) r2 e → Fails func_type old e
func_type_stops_3 old r1 r2 mark params e h1 h2 f = then_fails (tag 0x60 WasmType) func_type_1 old r1 mark e h1 (then_fails (vec_to 16 val_type) (func_type_2 mark) r1 r2 params e h2 (stops (vec val_type) (func_type_3 mark params) r2 e f))

pub func_type_done : (old r1 r2 r3 : Reader) (mark : Unit {0}) (params : List ValType) (results : List ValType) (v : FuncType) → v ≡ record { params = params; results = results } → Reads (tag 0x60 WasmType) old r1 mark → Reads (vec_to 16 val_type) r1 r2 params → Reads (vec val_type) r2 r3 results → Reads func_type old r3 v
func_type_done old r1 r2 r3 mark params results v e h1 h2 h3 = subst (λ (z : FuncType). Reads func_type old r3 z) (sym e) (then_reads (tag 0x60 WasmType) func_type_1 old r1 r3 mark (record { params = params; results = results }) h1 (then_reads (vec_to 16 val_type) (func_type_2 mark) r1 r2 r3 params (record { params = params; results = results }) h2 (then_reads (vec val_type) (func_type_3 mark params) r2 r3 r3 results (record { params = params; results = results }) h3 (given (record { params = params; results = results }) r3))))

pub func_type_proper : Proper func_type
func_type_proper = then_proper (tag 0x60 WasmType) func_type_1 (byte_proper WasmCut (judge_tag 0x60 WasmType)) (λ mark. (then_proper (vec_to 16 val_type) (func_type_2 mark) (vec_to_proper 16 val_type (byte_proper WasmCut judge_val_type)) (λ params. (then_proper (vec val_type) (func_type_3 mark params) (vec_proper val_type (byte_proper WasmCut judge_val_type)) (λ results. (give_proper (record { params = params; results = results })))))))

abbrev pub table_type_1 : (mark : Unit {0}) → Form Limits
table_type_1 mark = limits

pub table_type_goes : (old r1 new : Reader) (mark : Unit {0}) (r : Result Limits Fault) → Reads (tag 0x70 WasmType) old r1 mark → Decodes limits r r1 new → Decodes table_type r old new
table_type_goes old r1 new mark r h1 d = then (tag 0x70 WasmType) table_type_1 old r1 new mark r h1 d

pub table_type_proper : Proper table_type
table_type_proper = then_proper (tag 0x70 WasmType) table_type_1 (byte_proper WasmCut (judge_tag 0x70 WasmType)) (λ mark. limits_proper)

abbrev pub tables_1 : (count : ℕ) → Form (List Limits)
tables_1 count = items table_type count

pub tables_goes : (old r1 new : Reader) (count : ℕ) (r : Result (List Limits) Fault) → Reads u32 old r1 count → Decodes (items table_type count) r r1 new → Decodes (vec table_type) r old new
tables_goes old r1 new count r h1 d = then u32 tables_1 old r1 new count r h1 d
