-- Worked calls: what the definition answers, by computing it.
use Rattle.std.specs.Prelude.{◌≡◌, ℕ, List, [], ◌∷◌, Some, None, Result, Ok, Err, replicate, refl}
use Rattle.wasm_num.specs.declared.trap.Trap.{Trap}
use Rattle.wasm_num.specs.declared.trap.Trap.TheVariants as traps
use Rattle.wasm_num.specs.declared.value.Value.{Value}
use Rattle.wasm_num.specs.declared.value.Value.TheVariants.{I32, I64, F32}
use Rattle.wasm_num.specs.Mem.{Mem, put}
use Rattle.wasm_code.specs.declared.types.ValType.{ValType}
use Rattle.wasm_code.specs.declared.types.ValType.TheVariants as types
use Rattle.wasm_code.specs.declared.instr.Instr.{Instr}
use Rattle.wasm_code.specs.declared.instr.Instr.TheVariants as instrs
use Rattle.wasm_code.specs.declared.operators.Plain.TheVariants as plains
use Rattle.wasm_code.specs.declared.operators.Division.TheVariants as divisions
use Rattle.wasm_code.specs.declared.operators.Binary.TheVariants as binaries
use Rattle.wasm_code.specs.declared.operators.Unary32.TheVariants as words
use Rattle.wasm_code.specs.declared.operators.Unary64.TheVariants as longs
use Rattle.wasm_code.specs.declared.operators.UnaryOp.TheVariants as unaries
use Rattle.wasm_code.specs.declared.operators.BinaryOp.TheVariants as pairs
use Rattle.wasm_code.specs.declared.operators.LoadOp.TheVariants as loads
use Rattle.wasm_code.specs.declared.operators.StoreOp.TheVariants as stores
use Rattle.wasm_code.specs.declared.instr.FloatInstr.TheVariants as floats
use Rattle.wasm_code.specs.Code.{Block, Loop, If, Code, Done, Then, In, Both}
use Rattle.wasm_semantics.specs.Eval.{Program, Func, State, Answer, End, Gives, Fails, Wrong, call}

-- operators as instructions
abbrev i32_eqz : Instr
i32_eqz = instrs.Unary (unaries.I32 words.Eqz)

abbrev i32_wrap_i64 : Instr
i32_wrap_i64 = instrs.Unary (unaries.I64 longs.Wrap)

abbrev i64_extend_i32_u : Instr
i64_extend_i32_u = instrs.Unary (unaries.I32 words.ExtendU)

abbrev i32_ge_u : Instr
i32_ge_u = instrs.Binary (pairs.I32 (binaries.Plain plains.GeU))

abbrev i32_add : Instr
i32_add = instrs.Binary (pairs.I32 (binaries.Plain plains.Add))

abbrev i32_sub : Instr
i32_sub = instrs.Binary (pairs.I32 (binaries.Plain plains.Sub))

abbrev i32_mul : Instr
i32_mul = instrs.Binary (pairs.I32 (binaries.Plain plains.Mul))

abbrev i32_div_u : Instr
i32_div_u = instrs.Binary (pairs.I32 (binaries.Division divisions.DivU))

abbrev i32_rem_u : Instr
i32_rem_u = instrs.Binary (pairs.I32 (binaries.Division divisions.RemU))

abbrev i64_add : Instr
i64_add = instrs.Binary (pairs.I64 (binaries.Plain plains.Add))

abbrev i64_sub : Instr
i64_sub = instrs.Binary (pairs.I64 (binaries.Plain plains.Sub))

abbrev i64_rem_s : Instr
i64_rem_s = instrs.Binary (pairs.I64 (binaries.Division divisions.RemS))

-- no function is imported
abbrev host : Unit {0} → ℕ → List Value → Mem → Answer (Unit {0})
host h f args m = record { answer = Ok None; host = tt; memory = m }

abbrev no_memory : Mem
no_memory = record { bytes = []; limit = 0 }

-- a function of these parameters, results, declared locals and body
abbrev function : List ValType → List ValType → List ValType → Code → Func
function params results locals body = record { signature = record { params = params; results = results }; locals = locals; body = body }

-- a call of a function with its operands and units, and what it is to answer
abbrev Row : Type 0
Row = ℕ × List Value × ℕ × Result (List Value) Trap

abbrev wanted : List Row → List (Result (List Value) Trap)
wanted [] = []
wanted ((f, args, units, answer) ∷ rows) = answer ∷ wanted rows

-- the answer of a call, and those of the calls behind it in the state that it leaves
abbrev told : (State (Unit {0}) → List (Result (List Value) Trap)) → End (Unit {0}) → List (Result (List Value) Trap)
told behind (Gives vs s) = Ok vs ∷ behind s
told behind (Fails t s) = Err t ∷ behind s
told behind Wrong = []

abbrev answers_in : Program → List Row → State (Unit {0}) → List (Result (List Value) Trap)
answers_in p [] s = []
answers_in p ((f, args, units, answer) ∷ rows) s = told (answers_in p rows) (call host p 256 f args (record s { fuel = units }))

abbrev answers : Program → List Value → Mem → List Row → List (Result (List Value) Trap)
answers p globals memory rows = answers_in p rows (record { locals = []; globals = globals; memory = memory; host = tt; fuel = 0 })

abbrev sum : Program
sum = record {
  types = record { params = []; results = types.I32 ∷ [] } ∷ [];
  imports = [];
  funcs =
      function [] (types.I32 ∷ []) []
      (Then (instrs.I32Const 1) (Then (instrs.I32Const 2) (Then i32_add Done))) ∷
      [];
  table = [];
}

abbrev sum_rows : List Row
sum_rows =
    (0, [], 3, Ok (I32 3 ∷ [])) ∷
    (0, [], 100, Ok (I32 3 ∷ [])) ∷
    (0, [], 2, Err traps.Budget) ∷
    (0, [], 0, Err traps.Budget) ∷
    []

sum_answers : answers sum [] no_memory sum_rows ≡ wanted sum_rows
sum_answers = refl

abbrev blocks : Program
blocks = record {
  types = record { params = []; results = [] } ∷ record { params = []; results = types.I32 ∷ [] } ∷ [];
  imports = [];
  funcs =
      function [] [] []
      (Done) ∷
      function [] [] []
      (Then instrs.Nop (Then instrs.Nop Done)) ∷
      function [] [] []
      (In Block None (Then instrs.Nop Done) Done) ∷
      function [] [] []
      (In Block None (Then (instrs.Br 0) (Then instrs.Nop Done)) Done) ∷
      function [] [] []
      (In Block None (In Block None (Then (instrs.Br 1) (Then instrs.Nop Done)) (Then instrs.Nop Done)) (Then instrs.Nop Done)) ∷
      function [] (types.I32 ∷ []) []
      (In Block (Some types.I32) (Then (instrs.I32Const 4) Done) Done) ∷
      [];
  table = [];
}

abbrev blocks_rows : List Row
blocks_rows =
    (0, [], 0, Ok []) ∷
    (1, [], 2, Ok []) ∷
    (1, [], 1, Err traps.Budget) ∷
    (2, [], 2, Ok []) ∷
    (2, [], 1, Err traps.Budget) ∷
    (3, [], 2, Ok []) ∷
    (3, [], 1, Err traps.Budget) ∷
    (4, [], 4, Ok []) ∷
    (4, [], 3, Err traps.Budget) ∷
    (5, [], 2, Ok (I32 4 ∷ [])) ∷
    (5, [], 1, Err traps.Budget) ∷
    []

blocks_answers : answers blocks [] no_memory blocks_rows ≡ wanted blocks_rows
blocks_answers = refl

abbrev if_else : Program
if_else = record {
  types = record { params = types.I32 ∷ []; results = types.I32 ∷ [] } ∷ record { params = types.I32 ∷ []; results = [] } ∷ [];
  imports = [];
  funcs =
      function (types.I32 ∷ []) (types.I32 ∷ []) []
      (Then (instrs.LocalGet 0) (Both (Some types.I32) (Then (instrs.I32Const 10) Done) (Then (instrs.I32Const 20) Done) Done)) ∷
      function (types.I32 ∷ []) [] []
      (Then (instrs.LocalGet 0) (In If None (Then instrs.Unreachable Done) Done)) ∷
      function (types.I32 ∷ []) [] []
      (Then (instrs.LocalGet 0) (Both None Done (Then instrs.Nop Done) Done)) ∷
      [];
  table = [];
}

abbrev if_else_rows : List Row
if_else_rows =
    (0, I32 1 ∷ [], 3, Ok (I32 10 ∷ [])) ∷
    (0, I32 1 ∷ [], 2, Err traps.Budget) ∷
    (0, I32 0 ∷ [], 3, Ok (I32 20 ∷ [])) ∷
    (0, I32 0 ∷ [], 2, Err traps.Budget) ∷
    (0, I32 4294967295 ∷ [], 3, Ok (I32 10 ∷ [])) ∷
    (1, I32 0 ∷ [], 2, Ok []) ∷
    (1, I32 0 ∷ [], 1, Err traps.Budget) ∷
    (1, I32 7 ∷ [], 3, Err traps.Unreachable) ∷
    (1, I32 7 ∷ [], 2, Err traps.Budget) ∷
    (2, I32 7 ∷ [], 2, Ok []) ∷
    (2, I32 0 ∷ [], 3, Ok []) ∷
    (2, I32 0 ∷ [], 2, Err traps.Budget) ∷
    []

if_else_answers : answers if_else [] no_memory if_else_rows ≡ wanted if_else_rows
if_else_answers = refl

abbrev countdown : Program
countdown = record {
  types = record { params = types.I32 ∷ []; results = [] } ∷ [];
  imports = [];
  funcs =
      function (types.I32 ∷ []) [] []
      (In Loop None (Then (instrs.LocalGet 0) (Then (instrs.I32Const 1) (Then i32_sub (Then (instrs.LocalTee 0) (Then (instrs.BrIf 0) Done))))) Done) ∷
      [];
  table = [];
}

abbrev countdown_rows : List Row
countdown_rows =
    (0, I32 1 ∷ [], 6, Ok []) ∷
    (0, I32 1 ∷ [], 5, Err traps.Budget) ∷
    (0, I32 3 ∷ [], 16, Ok []) ∷
    (0, I32 3 ∷ [], 15, Err traps.Budget) ∷
    (0, I32 1000 ∷ [], 5001, Ok []) ∷
    (0, I32 1000 ∷ [], 5000, Err traps.Budget) ∷
    []

countdown_answers : answers countdown [] no_memory countdown_rows ≡ wanted countdown_rows
countdown_answers = refl

abbrev nested_loops : Program
nested_loops = record {
  types = record { params = []; results = types.I32 ∷ [] } ∷ [];
  imports = [];
  funcs =
      function [] (types.I32 ∷ []) (types.I32 ∷ types.I32 ∷ types.I32 ∷ [])
      (Then (instrs.I32Const 3) (Then (instrs.LocalSet 0) (In Loop None (Then (instrs.I32Const 2) (Then (instrs.LocalSet 1) (Then instrs.Nop (In Loop None (Then (instrs.LocalGet 2) (Then (instrs.I32Const 1) (Then i32_add (Then (instrs.LocalSet 2) (Then (instrs.LocalGet 1) (Then (instrs.I32Const 1) (Then i32_sub (Then (instrs.LocalTee 1) (Then (instrs.BrIf 0) Done))))))))) (Then (instrs.LocalGet 0) (Then (instrs.I32Const 1) (Then i32_sub (Then (instrs.LocalTee 0) (Then (instrs.BrIf 0) Done))))))))) (Then (instrs.LocalGet 2) Done)))) ∷
      [];
  table = [];
}

abbrev nested_loops_rows : List Row
nested_loops_rows =
    (0, [], 85, Ok (I32 6 ∷ [])) ∷
    (0, [], 84, Err traps.Budget) ∷
    []

nested_loops_answers : answers nested_loops [] no_memory nested_loops_rows ≡ wanted nested_loops_rows
nested_loops_answers = refl

abbrev traps_and_units : Program
traps_and_units = record {
  types = record { params = []; results = [] } ∷ record { params = []; results = types.I32 ∷ [] } ∷ [];
  imports = [];
  funcs =
      function [] [] []
      (Then instrs.Unreachable Done) ∷
      function [] (types.I32 ∷ []) []
      (Then (instrs.I32Const 1) (Then (instrs.I32Const 0) (Then i32_div_u Done))) ∷
      function [] (types.I32 ∷ []) []
      (Then (instrs.I32Const 4294967295) (Then (instrs.Load loads.I32Load (record { align = 2; offset = 0 })) Done)) ∷
      [];
  table = [];
}

abbrev traps_and_units_rows : List Row
traps_and_units_rows =
    (0, [], 1, Err traps.Unreachable) ∷
    (0, [], 0, Err traps.Budget) ∷
    (1, [], 3, Err traps.DivideByZero) ∷
    (1, [], 2, Err traps.Budget) ∷
    (2, [], 2, Err traps.MemoryBounds) ∷
    (2, [], 1, Err traps.Budget) ∷
    []

traps_and_units_answers : answers traps_and_units [] (record { bytes = replicate 65536 0; limit = 64 }) traps_and_units_rows ≡ wanted traps_and_units_rows
traps_and_units_answers = refl

abbrev br_table : Program
br_table = record {
  types = record { params = types.I32 ∷ []; results = types.I32 ∷ [] } ∷ [];
  imports = [];
  funcs =
      function (types.I32 ∷ []) (types.I32 ∷ []) []
      (In Block None (In Block None (In Block None (In Block None (Then (instrs.LocalGet 0) (Then (instrs.BrTable (2 ∷ 0 ∷ 1 ∷ []) 3) Done)) (Then (instrs.I32Const 10) (Then instrs.Return Done))) (Then (instrs.I32Const 11) (Then instrs.Return Done))) (Then (instrs.I32Const 12) (Then instrs.Return Done))) (Then (instrs.I32Const 13) Done)) ∷
      [];
  table = [];
}

abbrev br_table_rows : List Row
br_table_rows =
    (0, I32 0 ∷ [], 100, Ok (I32 12 ∷ [])) ∷
    (0, I32 1 ∷ [], 100, Ok (I32 10 ∷ [])) ∷
    (0, I32 2 ∷ [], 100, Ok (I32 11 ∷ [])) ∷
    (0, I32 3 ∷ [], 100, Ok (I32 13 ∷ [])) ∷
    (0, I32 4 ∷ [], 100, Ok (I32 13 ∷ [])) ∷
    (0, I32 4294967295 ∷ [], 100, Ok (I32 13 ∷ [])) ∷
    (0, I32 0 ∷ [], 8, Ok (I32 12 ∷ [])) ∷
    (0, I32 0 ∷ [], 7, Err traps.Budget) ∷
    (0, I32 3 ∷ [], 7, Ok (I32 13 ∷ [])) ∷
    (0, I32 3 ∷ [], 6, Err traps.Budget) ∷
    []

br_table_answers : answers br_table [] no_memory br_table_rows ≡ wanted br_table_rows
br_table_answers = refl

abbrev br_table_of_one : Program
br_table_of_one = record {
  types = record { params = types.I32 ∷ []; results = types.I32 ∷ [] } ∷ [];
  imports = [];
  funcs =
      function (types.I32 ∷ []) (types.I32 ∷ []) []
      (In Block (Some types.I32) (Then (instrs.I32Const 5) (Then (instrs.LocalGet 0) (Then (instrs.BrTable [] 0) Done))) (Then (instrs.I32Const 1) (Then i32_add Done))) ∷
      [];
  table = [];
}

abbrev br_table_of_one_rows : List Row
br_table_of_one_rows =
    (0, I32 0 ∷ [], 100, Ok (I32 6 ∷ [])) ∷
    (0, I32 2147483648 ∷ [], 100, Ok (I32 6 ∷ [])) ∷
    []

br_table_of_one_answers : answers br_table_of_one [] no_memory br_table_of_one_rows ≡ wanted br_table_of_one_rows
br_table_of_one_answers = refl

abbrev branch_leaves_one : Program
branch_leaves_one = record {
  types = record { params = []; results = types.I32 ∷ [] } ∷ record { params = []; results = types.I64 ∷ [] } ∷ record { params = types.I32 ∷ []; results = types.I32 ∷ [] } ∷ [];
  imports = [];
  funcs =
      function [] (types.I32 ∷ []) []
      (In Block (Some types.I32) (Then (instrs.I32Const 1) (Then (instrs.I32Const 2) (Then (instrs.I32Const 3) (Then (instrs.Br 0) Done)))) Done) ∷
      function [] (types.I64 ∷ []) []
      (Then (instrs.I32Const 7) (Then (instrs.I64Const 8) (Then (instrs.I32Const 9) (Then instrs.Drop (Then instrs.Return Done))))) ∷
      function (types.I32 ∷ []) (types.I32 ∷ []) []
      (Then (instrs.I32Const 100) (In Block (Some types.I32) (Then (instrs.I32Const 1) (Then (instrs.I32Const 2) (Then (instrs.LocalGet 0) (Then (instrs.BrIf 0) (Then instrs.Drop Done))))) (Then i32_add Done))) ∷
      function [] (types.I32 ∷ []) []
      (Then (instrs.I32Const 1) (In Loop (Some types.I32) (Then (instrs.I32Const 2) Done) (Then i32_sub Done))) ∷
      [];
  table = [];
}

abbrev branch_leaves_one_rows : List Row
branch_leaves_one_rows =
    (0, [], 100, Ok (I32 3 ∷ [])) ∷
    (1, [], 100, Ok (I64 8 ∷ [])) ∷
    (2, I32 1 ∷ [], 100, Ok (I32 102 ∷ [])) ∷
    (2, I32 0 ∷ [], 100, Ok (I32 101 ∷ [])) ∷
    (3, [], 100, Ok (I32 4294967295 ∷ [])) ∷
    []

branch_leaves_one_answers : answers branch_leaves_one [] no_memory branch_leaves_one_rows ≡ wanted branch_leaves_one_rows
branch_leaves_one_answers = refl

abbrev branch_out_of_loops : Program
branch_out_of_loops = record {
  types = record { params = types.I32 ∷ []; results = types.I32 ∷ [] } ∷ [];
  imports = [];
  funcs =
      function (types.I32 ∷ []) (types.I32 ∷ []) (types.I32 ∷ [])
      (In Block None (In Loop None (In Loop None (Then (instrs.LocalGet 1) (Then (instrs.I32Const 1) (Then i32_add (Then (instrs.LocalTee 1) (Then (instrs.LocalGet 0) (Then i32_ge_u (Then (instrs.BrIf 2) (Then (instrs.LocalGet 1) (Then (instrs.I32Const 3) (Then i32_rem_u (Then (instrs.BrIf 0) Done))))))))))) (Then (instrs.Br 0) Done)) Done) (Then (instrs.LocalGet 1) Done)) ∷
      [];
  table = [];
}

abbrev branch_out_of_loops_rows : List Row
branch_out_of_loops_rows =
    (0, I32 10 ∷ [], 1000, Ok (I32 10 ∷ [])) ∷
    (0, I32 0 ∷ [], 1000, Ok (I32 1 ∷ [])) ∷
    []

branch_out_of_loops_answers : answers branch_out_of_loops [] no_memory branch_out_of_loops_rows ≡ wanted branch_out_of_loops_rows
branch_out_of_loops_answers = refl

abbrev selects : Program
selects = record {
  types = record { params = types.I32 ∷ []; results = types.I64 ∷ [] } ∷ record { params = types.I32 ∷ []; results = types.I32 ∷ [] } ∷ [];
  imports = [];
  funcs =
      function (types.I32 ∷ []) (types.I64 ∷ []) []
      (Then (instrs.I64Const 1) (Then (instrs.I64Const 2) (Then (instrs.LocalGet 0) (Then instrs.Select Done)))) ∷
      function (types.I32 ∷ []) (types.I32 ∷ []) []
      (Then (instrs.I32Const 1) (Then (instrs.I32Const 2) (Then (instrs.LocalGet 0) (Then instrs.Select Done)))) ∷
      [];
  table = [];
}

abbrev selects_rows : List Row
selects_rows =
    (0, I32 0 ∷ [], 4, Ok (I64 2 ∷ [])) ∷
    (0, I32 1 ∷ [], 4, Ok (I64 1 ∷ [])) ∷
    (1, I32 2147483648 ∷ [], 4, Ok (I32 1 ∷ [])) ∷
    (1, I32 0 ∷ [], 4, Ok (I32 2 ∷ [])) ∷
    []

selects_answers : answers selects [] no_memory selects_rows ≡ wanted selects_rows
selects_answers = refl

abbrev endless_recursion : Program
endless_recursion = record {
  types = record { params = []; results = [] } ∷ [];
  imports = [];
  funcs =
      function [] [] []
      (Then (instrs.Call 0) Done) ∷
      [];
  table = [];
}

abbrev endless_recursion_rows : List Row
endless_recursion_rows =
    (0, [], 256, Err traps.Exhausted) ∷
    (0, [], 255, Err traps.Budget) ∷
    (0, [], 100000, Err traps.Exhausted) ∷
    []

endless_recursion_answers : answers endless_recursion [] no_memory endless_recursion_rows ≡ wanted endless_recursion_rows
endless_recursion_answers = refl

abbrev depth : Program
depth = record {
  types = record { params = types.I32 ∷ []; results = [] } ∷ [];
  imports = [];
  funcs =
      function (types.I32 ∷ []) [] []
      (Then (instrs.LocalGet 0) (In If None (Then (instrs.LocalGet 0) (Then (instrs.I32Const 1) (Then i32_sub (Then (instrs.Call 0) Done)))) Done)) ∷
      [];
  table = [];
}

abbrev depth_rows : List Row
depth_rows =
    (0, I32 255 ∷ [], 100000, Ok []) ∷
    (0, I32 256 ∷ [], 100000, Err traps.Exhausted) ∷
    (0, I32 255 ∷ [], 1532, Ok []) ∷
    (0, I32 255 ∷ [], 1276, Err traps.Budget) ∷
    []

depth_answers : answers depth [] no_memory depth_rows ≡ wanted depth_rows
depth_answers = refl

abbrev calls : Program
calls = record {
  types = record { params = types.I32 ∷ types.I64 ∷ []; results = types.I64 ∷ [] } ∷ record { params = []; results = types.I64 ∷ [] } ∷ record { params = types.I32 ∷ []; results = types.I32 ∷ [] } ∷ record { params = []; results = types.I32 ∷ [] } ∷ [];
  imports = [];
  funcs =
      function (types.I32 ∷ types.I64 ∷ []) (types.I64 ∷ []) []
      (Then (instrs.LocalGet 1) (Then (instrs.LocalGet 0) (Then i64_extend_i32_u (Then i64_sub Done)))) ∷
      function [] (types.I64 ∷ []) []
      (Then (instrs.I32Const 3) (Then (instrs.I64Const 10) (Then (instrs.Call 0) Done))) ∷
      function (types.I32 ∷ []) (types.I32 ∷ []) (types.I32 ∷ types.I64 ∷ [])
      (Then (instrs.LocalGet 1) (Then (instrs.LocalGet 2) (Then i32_wrap_i64 (Then i32_add (Then (instrs.LocalGet 0) (Then (instrs.I32Const 5) (Then (instrs.LocalSet 0) (Then (instrs.I64Const 77) (Then (instrs.LocalSet 2) (Then (instrs.LocalGet 0) (Then (instrs.LocalSet 1) (Then i32_add Done)))))))))))) ∷
      function (types.I32 ∷ []) (types.I32 ∷ []) []
      (Then (instrs.LocalGet 0) (Then i32_eqz (In If None (Then (instrs.I32Const 1) (Then instrs.Return Done)) (Then (instrs.LocalGet 0) (Then (instrs.I32Const 1) (Then i32_sub (Then (instrs.Call 3) (Then (instrs.LocalGet 0) (Then i32_mul Done))))))))) ∷
      function [] (types.I32 ∷ []) []
      (Then (instrs.I32Const 9) (Then (instrs.I32Const 4) (Then (instrs.Call 5) (Then i32_add Done)))) ∷
      function (types.I32 ∷ []) (types.I32 ∷ []) []
      (Then (instrs.LocalGet 0) (Then (instrs.I32Const 100) (Then i32_add Done))) ∷
      [];
  table = [];
}

abbrev calls_rows : List Row
calls_rows =
    (0, I32 3 ∷ I64 10 ∷ [], 4, Ok (I64 7 ∷ [])) ∷
    (1, [], 7, Ok (I64 7 ∷ [])) ∷
    (1, [], 6, Err traps.Budget) ∷
    (2, I32 8 ∷ [], 100, Ok (I32 8 ∷ [])) ∷
    (2, I32 9 ∷ [], 100, Ok (I32 9 ∷ [])) ∷
    (3, I32 5 ∷ [], 1000, Ok (I32 120 ∷ [])) ∷
    (3, I32 12 ∷ [], 1000, Ok (I32 479001600 ∷ [])) ∷
    (4, [], 100, Ok (I32 113 ∷ [])) ∷
    []

calls_answers : answers calls [] no_memory calls_rows ≡ wanted calls_rows
calls_answers = refl

abbrev through_the_table : Program
through_the_table = record {
  types = record { params = []; results = [] } ∷ record { params = types.I32 ∷ types.I32 ∷ []; results = types.I32 ∷ [] } ∷ record { params = types.I32 ∷ []; results = types.I32 ∷ [] } ∷ record { params = types.I32 ∷ []; results = [] } ∷ [];
  imports = [];
  funcs =
      function (types.I32 ∷ types.I32 ∷ []) (types.I32 ∷ []) []
      (Then (instrs.LocalGet 0) (Then (instrs.LocalGet 1) (Then i32_sub Done))) ∷
      function [] [] []
      (Done) ∷
      function (types.I32 ∷ []) (types.I32 ∷ []) []
      (Then (instrs.I32Const 50) (Then (instrs.I32Const 8) (Then (instrs.LocalGet 0) (Then (instrs.CallIndirect 1) Done)))) ∷
      function (types.I32 ∷ []) [] []
      (Then (instrs.LocalGet 0) (Then (instrs.CallIndirect 0) Done)) ∷
      [];
  table = Some 0 ∷ Some 1 ∷ None ∷ Some 0 ∷ [];
}

abbrev through_the_table_rows : List Row
through_the_table_rows =
    (2, I32 0 ∷ [], 100, Ok (I32 42 ∷ [])) ∷
    (2, I32 3 ∷ [], 100, Ok (I32 42 ∷ [])) ∷
    (2, I32 2 ∷ [], 100, Err traps.NoElement) ∷
    (2, I32 4 ∷ [], 100, Err traps.TableBounds) ∷
    (2, I32 4294967295 ∷ [], 100, Err traps.TableBounds) ∷
    (2, I32 1 ∷ [], 100, Err traps.TypeMismatch) ∷
    (3, I32 0 ∷ [], 100, Err traps.TypeMismatch) ∷
    (3, I32 1 ∷ [], 2, Ok []) ∷
    (3, I32 4 ∷ [], 1, Err traps.Budget) ∷
    (2, I32 0 ∷ [], 7, Ok (I32 42 ∷ [])) ∷
    (2, I32 0 ∷ [], 6, Err traps.Budget) ∷
    []

through_the_table_answers : answers through_the_table [] no_memory through_the_table_rows ≡ wanted through_the_table_rows
through_the_table_answers = refl

abbrev equal_types : Program
equal_types = record {
  types = record { params = []; results = types.I32 ∷ [] } ∷ record { params = []; results = types.I32 ∷ [] } ∷ [];
  imports = [];
  funcs =
      function [] (types.I32 ∷ []) []
      (Then (instrs.I32Const 6) Done) ∷
      function [] (types.I32 ∷ []) []
      (Then (instrs.I32Const 0) (Then (instrs.CallIndirect 1) Done)) ∷
      [];
  table = Some 0 ∷ [];
}

abbrev equal_types_rows : List Row
equal_types_rows =
    (1, [], 3, Ok (I32 6 ∷ [])) ∷
    []

equal_types_answers : answers equal_types [] no_memory equal_types_rows ≡ wanted equal_types_rows
equal_types_answers = refl

abbrev growth_to_the_greatest : Program
growth_to_the_greatest = record {
  types = record { params = types.I32 ∷ []; results = types.I32 ∷ [] } ∷ record { params = []; results = types.I32 ∷ [] } ∷ record { params = types.I32 ∷ []; results = [] } ∷ [];
  imports = [];
  funcs =
      function (types.I32 ∷ []) (types.I32 ∷ []) []
      (Then (instrs.LocalGet 0) (Then instrs.MemoryGrow Done)) ∷
      function [] (types.I32 ∷ []) []
      (Then instrs.MemorySize Done) ∷
      function (types.I32 ∷ []) [] []
      (Then (instrs.LocalGet 0) (Then (instrs.I32Const 1) (Then (instrs.Store stores.I32Store8 (record { align = 0; offset = 0 })) Done))) ∷
      [];
  table = [];
}

abbrev growth_to_the_greatest_rows : List Row
growth_to_the_greatest_rows =
    (0, I32 0 ∷ [], 100, Ok (I32 1 ∷ [])) ∷
    (0, I32 3 ∷ [], 100, Ok (I32 4294967295 ∷ [])) ∷
    (0, I32 4294967295 ∷ [], 100, Ok (I32 4294967295 ∷ [])) ∷
    (1, [], 100, Ok (I32 1 ∷ [])) ∷
    (2, I32 65536 ∷ [], 100, Err traps.MemoryBounds) ∷
    (0, I32 2 ∷ [], 100, Ok (I32 1 ∷ [])) ∷
    (2, I32 65536 ∷ [], 100, Ok []) ∷
    (0, I32 1 ∷ [], 100, Ok (I32 4294967295 ∷ [])) ∷
    (0, I32 0 ∷ [], 100, Ok (I32 3 ∷ [])) ∷
    []

growth_to_the_greatest_answers : answers growth_to_the_greatest [] (record { bytes = replicate 65536 0; limit = 3 }) growth_to_the_greatest_rows ≡ wanted growth_to_the_greatest_rows
growth_to_the_greatest_answers = refl

abbrev ends_of_memory : Program
ends_of_memory = record {
  types = record { params = types.I32 ∷ []; results = types.I32 ∷ [] } ∷ record { params = types.I32 ∷ []; results = types.I64 ∷ [] } ∷ record { params = types.I32 ∷ []; results = [] } ∷ [];
  imports = [];
  funcs =
      function (types.I32 ∷ []) (types.I32 ∷ []) []
      (Then (instrs.LocalGet 0) (Then (instrs.Load loads.I32Load (record { align = 2; offset = 0 })) Done)) ∷
      function (types.I32 ∷ []) (types.I64 ∷ []) []
      (Then (instrs.LocalGet 0) (Then (instrs.Load loads.I64Load (record { align = 3; offset = 8 })) Done)) ∷
      function (types.I32 ∷ []) (types.I32 ∷ []) []
      (Then (instrs.LocalGet 0) (Then (instrs.Load loads.I32Load8U (record { align = 0; offset = 4294967295 })) Done)) ∷
      function (types.I32 ∷ []) [] []
      (Then (instrs.LocalGet 0) (Then (instrs.I32Const 1684234849) (Then (instrs.Store stores.I32Store (record { align = 2; offset = 0 })) Done))) ∷
      function (types.I32 ∷ []) [] []
      (Then (instrs.LocalGet 0) (Then (instrs.I64Const 18446744073709551615) (Then (instrs.Store stores.I64Store16 (record { align = 1; offset = 65535 })) Done))) ∷
      function (types.I32 ∷ []) (types.I32 ∷ []) []
      (Then (instrs.LocalGet 0) (Then (instrs.Load loads.I32Load16U (record { align = 1; offset = 0 })) Done)) ∷
      [];
  table = [];
}

abbrev ends_of_memory_rows : List Row
ends_of_memory_rows =
    (0, I32 65532 ∷ [], 100, Ok (I32 0 ∷ [])) ∷
    (0, I32 65533 ∷ [], 100, Err traps.MemoryBounds) ∷
    (0, I32 4294967295 ∷ [], 100, Err traps.MemoryBounds) ∷
    (1, I32 65520 ∷ [], 100, Ok (I64 0 ∷ [])) ∷
    (1, I32 65521 ∷ [], 100, Err traps.MemoryBounds) ∷
    (1, I32 4294967295 ∷ [], 100, Err traps.MemoryBounds) ∷
    (2, I32 0 ∷ [], 100, Err traps.MemoryBounds) ∷
    (2, I32 1 ∷ [], 100, Err traps.MemoryBounds) ∷
    (4, I32 0 ∷ [], 100, Err traps.MemoryBounds) ∷
    (3, I32 65533 ∷ [], 100, Err traps.MemoryBounds) ∷
    (5, I32 65534 ∷ [], 100, Ok (I32 0 ∷ [])) ∷
    (3, I32 65532 ∷ [], 100, Ok []) ∷
    (0, I32 65532 ∷ [], 100, Ok (I32 1684234849 ∷ [])) ∷
    (5, I32 65534 ∷ [], 100, Ok (I32 25699 ∷ [])) ∷
    []

ends_of_memory_answers : answers ends_of_memory [] (record { bytes = replicate 65536 0; limit = 64 }) ends_of_memory_rows ≡ wanted ends_of_memory_rows
ends_of_memory_answers = refl

abbrev widths : Program
widths = record {
  types = record { params = []; results = types.I32 ∷ [] } ∷ record { params = []; results = types.I64 ∷ [] } ∷ [];
  imports = [];
  funcs =
      function [] (types.I32 ∷ []) []
      (Then (instrs.I32Const 16) (Then (instrs.Load loads.I32Load8S (record { align = 0; offset = 0 })) Done)) ∷
      function [] (types.I32 ∷ []) []
      (Then (instrs.I32Const 16) (Then (instrs.Load loads.I32Load8U (record { align = 0; offset = 0 })) Done)) ∷
      function [] (types.I32 ∷ []) []
      (Then (instrs.I32Const 16) (Then (instrs.Load loads.I32Load16S (record { align = 1; offset = 0 })) Done)) ∷
      function [] (types.I32 ∷ []) []
      (Then (instrs.I32Const 17) (Then (instrs.Load loads.I32Load16U (record { align = 1; offset = 0 })) Done)) ∷
      function [] (types.I64 ∷ []) []
      (Then (instrs.I32Const 17) (Then (instrs.Load loads.I64Load8S (record { align = 0; offset = 0 })) Done)) ∷
      function [] (types.I64 ∷ []) []
      (Then (instrs.I32Const 17) (Then (instrs.Load loads.I64Load8U (record { align = 0; offset = 0 })) Done)) ∷
      function [] (types.I64 ∷ []) []
      (Then (instrs.I32Const 20) (Then (instrs.Load loads.I64Load16S (record { align = 1; offset = 0 })) Done)) ∷
      function [] (types.I64 ∷ []) []
      (Then (instrs.I32Const 20) (Then (instrs.Load loads.I64Load16U (record { align = 1; offset = 0 })) Done)) ∷
      function [] (types.I64 ∷ []) []
      (Then (instrs.I32Const 20) (Then (instrs.Load loads.I64Load32S (record { align = 2; offset = 0 })) Done)) ∷
      function [] (types.I64 ∷ []) []
      (Then (instrs.I32Const 20) (Then (instrs.Load loads.I64Load32U (record { align = 2; offset = 0 })) Done)) ∷
      function [] (types.I32 ∷ []) []
      (Then (instrs.I32Const 16) (Then (instrs.Load loads.I32Load (record { align = 2; offset = 0 })) Done)) ∷
      function [] (types.I64 ∷ []) []
      (Then (instrs.I32Const 16) (Then (instrs.Load loads.I64Load (record { align = 3; offset = 0 })) Done)) ∷
      function [] (types.I64 ∷ []) []
      (Then (instrs.I32Const 32) (Then (instrs.I64Const 81985529216486895) (Then (instrs.Store stores.I64Store32 (record { align = 2; offset = 0 })) (Then (instrs.I32Const 32) (Then (instrs.Load loads.I64Load (record { align = 3; offset = 0 })) Done))))) ∷
      function [] (types.I64 ∷ []) []
      (Then (instrs.I32Const 40) (Then (instrs.I64Const 18446744073709551614) (Then (instrs.Store stores.I64Store (record { align = 3; offset = 0 })) (Then (instrs.I32Const 40) (Then (instrs.I32Const 0) (Then (instrs.Store stores.I32Store8 (record { align = 0; offset = 0 })) (Then (instrs.I32Const 43) (Then (instrs.I64Const 291) (Then (instrs.Store stores.I64Store8 (record { align = 0; offset = 0 })) (Then (instrs.I32Const 45) (Then (instrs.I32Const 74565) (Then (instrs.Store stores.I32Store16 (record { align = 1; offset = 0 })) (Then (instrs.I32Const 40) (Then (instrs.Load loads.I64Load (record { align = 3; offset = 0 })) Done)))))))))))))) ∷
      [];
  table = [];
}

abbrev widths_rows : List Row
widths_rows =
    (0, [], 100, Ok (I32 4294967168 ∷ [])) ∷
    (1, [], 100, Ok (I32 128 ∷ [])) ∷
    (2, [], 100, Ok (I32 4294967168 ∷ [])) ∷
    (3, [], 100, Ok (I32 32767 ∷ [])) ∷
    (4, [], 100, Ok (I64 18446744073709551615 ∷ [])) ∷
    (5, [], 100, Ok (I64 255 ∷ [])) ∷
    (6, [], 100, Ok (I64 18446744073709518848 ∷ [])) ∷
    (7, [], 100, Ok (I64 32768 ∷ [])) ∷
    (8, [], 100, Ok (I64 18446744073709518848 ∷ [])) ∷
    (9, [], 100, Ok (I64 4294934528 ∷ [])) ∷
    (10, [], 100, Ok (I32 25165696 ∷ [])) ∷
    (11, [], 100, Ok (I64 18446603336246361984 ∷ [])) ∷
    (12, [], 100, Ok (I64 2309737967 ∷ [])) ∷
    (13, [], 100, Ok (I64 18384615065979453184 ∷ [])) ∷
    []

widths_answers : answers widths [] (record { bytes = put 16 (128 ∷ 255 ∷ 127 ∷ 1 ∷ 0 ∷ 128 ∷ 255 ∷ 255 ∷ []) (replicate 65536 0); limit = 64 }) widths_rows ≡ wanted widths_rows
widths_answers = refl

abbrev globals : Program
globals = record {
  types = record { params = []; results = types.I32 ∷ [] } ∷ record { params = []; results = types.I64 ∷ [] } ∷ record { params = types.I64 ∷ []; results = [] } ∷ [];
  imports = [];
  funcs =
      function [] (types.I32 ∷ []) []
      (Then (instrs.GlobalGet 0) (Then (instrs.I32Const 1) (Then i32_add (Then (instrs.GlobalSet 0) (Then (instrs.GlobalGet 0) Done))))) ∷
      function [] (types.I64 ∷ []) []
      (Then (instrs.GlobalGet 1) (Then (instrs.GlobalGet 2) (Then i64_add Done))) ∷
      function (types.I64 ∷ []) [] []
      (Then (instrs.LocalGet 0) (Then (instrs.GlobalSet 2) Done)) ∷
      [];
  table = [];
}

abbrev globals_rows : List Row
globals_rows =
    (0, [], 100, Ok (I32 6 ∷ [])) ∷
    (0, [], 100, Ok (I32 7 ∷ [])) ∷
    (0, [], 3, Err traps.Budget) ∷
    (0, [], 4, Err traps.Budget) ∷
    (0, [], 100, Ok (I32 9 ∷ [])) ∷
    (1, [], 100, Ok (I64 18446744073709551613 ∷ [])) ∷
    (2, I64 4 ∷ [], 100, Ok []) ∷
    (1, [], 100, Ok (I64 1 ∷ [])) ∷
    []

globals_answers : answers globals (I32 5 ∷ I64 18446744073709551613 ∷ I64 0 ∷ []) no_memory globals_rows ≡ wanted globals_rows
globals_answers = refl

abbrev segments : Program
segments = record {
  types = record { params = []; results = types.I32 ∷ [] } ∷ record { params = types.I32 ∷ []; results = types.I32 ∷ [] } ∷ [];
  imports = [];
  funcs =
      function [] (types.I32 ∷ []) []
      (Then (instrs.I32Const 4) (Then (instrs.Load loads.I32Load (record { align = 2; offset = 0 })) Done)) ∷
      function [] (types.I32 ∷ []) []
      (Then (instrs.I32Const 8) (Then (instrs.Load loads.I32Load (record { align = 2; offset = 0 })) Done)) ∷
      function (types.I32 ∷ []) (types.I32 ∷ []) []
      (Then (instrs.LocalGet 0) (Then (instrs.CallIndirect 0) Done)) ∷
      [];
  table = Some 0 ∷ Some 1 ∷ Some 0 ∷ [];
}

abbrev segments_rows : List Row
segments_rows =
    (0, [], 100, Ok (I32 1498964577 ∷ [])) ∷
    (1, [], 100, Ok (I32 90 ∷ [])) ∷
    (2, I32 0 ∷ [], 100, Ok (I32 1498964577 ∷ [])) ∷
    (2, I32 1 ∷ [], 100, Ok (I32 90 ∷ [])) ∷
    (2, I32 2 ∷ [], 100, Ok (I32 1498964577 ∷ [])) ∷
    []

segments_answers : answers segments [] (record { bytes = put 6 (88 ∷ 89 ∷ 90 ∷ []) (put 4 (97 ∷ 98 ∷ 99 ∷ 100 ∷ []) (replicate 65536 0)); limit = 64 }) segments_rows ≡ wanted segments_rows
segments_answers = refl

abbrev endless_loop : Program
endless_loop = record {
  types = record { params = []; results = [] } ∷ record { params = []; results = types.I32 ∷ [] } ∷ [];
  imports = [];
  funcs =
      function [] [] []
      (In Loop None (Then (instrs.Br 0) Done) Done) ∷
      function [] [] []
      (In Loop None (Then (instrs.Br 0) Done) (Then instrs.Unreachable Done)) ∷
      function [] (types.I32 ∷ []) []
      (In Loop (Some types.I32) (Then (instrs.Br 0) Done) Done) ∷
      [];
  table = [];
}

abbrev endless_loop_rows : List Row
endless_loop_rows =
    (2, [], 1, Err traps.Budget) ∷
    []

endless_loop_answers : answers endless_loop [] no_memory endless_loop_rows ≡ wanted endless_loop_rows
endless_loop_answers = refl

abbrev two_that_call_each_other : Program
two_that_call_each_other = record {
  types = record { params = []; results = [] } ∷ [];
  imports = [];
  funcs =
      function [] [] []
      (Then (instrs.Call 1) Done) ∷
      function [] [] []
      (Then (instrs.Call 0) Done) ∷
      [];
  table = [];
}

abbrev two_that_call_each_other_rows : List Row
two_that_call_each_other_rows =
    (0, [], 100000, Err traps.Exhausted) ∷
    (1, [], 255, Err traps.Budget) ∷
    []

two_that_call_each_other_answers : answers two_that_call_each_other [] no_memory two_that_call_each_other_rows ≡ wanted two_that_call_each_other_rows
two_that_call_each_other_answers = refl

abbrev division_by_zero : Program
division_by_zero = record {
  types = record { params = types.I64 ∷ []; results = types.I64 ∷ [] } ∷ [];
  imports = [];
  funcs =
      function (types.I64 ∷ []) (types.I64 ∷ []) []
      (Then (instrs.I64Const 1) (Then (instrs.LocalGet 0) (Then i64_rem_s Done))) ∷
      [];
  table = [];
}

abbrev division_by_zero_rows : List Row
division_by_zero_rows =
    (0, I64 0 ∷ [], 100, Err traps.DivideByZero) ∷
    (0, I64 18446744073709551615 ∷ [], 100, Ok (I64 0 ∷ [])) ∷
    []

division_by_zero_answers : answers division_by_zero [] no_memory division_by_zero_rows ≡ wanted division_by_zero_rows
division_by_zero_answers = refl

-- a memory that begins with eight bytes
abbrev eight_bytes : Mem
eight_bytes = record { bytes = 1 ∷ 2 ∷ 3 ∷ 4 ∷ 5 ∷ 6 ∷ 7 ∷ 8 ∷ replicate 192 0; limit = 1 }

abbrev three_words : List ValType
three_words = types.I32 ∷ types.I32 ∷ types.I32 ∷ []

abbrev copies : Program
copies = record {
  types = record { params = three_words; results = [] } ∷ record { params = types.I32 ∷ []; results = types.I32 ∷ [] } ∷ [];
  imports = [];
  funcs =
      function three_words [] []
      (Then (instrs.LocalGet 0) (Then (instrs.LocalGet 1) (Then (instrs.LocalGet 2) (Then instrs.MemoryCopy Done)))) ∷
      function three_words [] []
      (Then (instrs.LocalGet 0) (Then (instrs.LocalGet 1) (Then (instrs.LocalGet 2) (Then instrs.MemoryFill Done)))) ∷
      function (types.I32 ∷ []) (types.I32 ∷ []) []
      (Then (instrs.LocalGet 0) (Then (instrs.Load loads.I32Load (record { align = 2; offset = 0 })) Done)) ∷
      [];
  table = [];
}

-- bytes 1, 1, 2, 3, and then fills; traps write nothing
abbrev copies_rows : List Row
copies_rows =
    (0, I32 1 ∷ I32 0 ∷ I32 3 ∷ [], 4, Ok []) ∷
    (2, I32 0 ∷ [], 2, Ok (I32 50462977 ∷ [])) ∷
    (0, I32 0 ∷ I32 1 ∷ I32 3 ∷ [], 3, Err traps.Budget) ∷
    (0, I32 200 ∷ I32 0 ∷ I32 0 ∷ [], 4, Ok []) ∷
    (0, I32 0 ∷ I32 201 ∷ I32 0 ∷ [], 4, Err traps.MemoryBounds) ∷
    (0, I32 137 ∷ I32 0 ∷ I32 64 ∷ [], 4, Err traps.MemoryBounds) ∷
    (0, I32 136 ∷ I32 0 ∷ I32 64 ∷ [], 4, Err traps.Budget) ∷
    (2, I32 136 ∷ [], 2, Ok (I32 0 ∷ [])) ∷
    (0, I32 136 ∷ I32 0 ∷ I32 64 ∷ [], 5, Ok []) ∷
    (2, I32 136 ∷ [], 2, Ok (I32 50462977 ∷ [])) ∷
    (1, I32 0 ∷ I32 511 ∷ I32 64 ∷ [], 4, Err traps.Budget) ∷
    (1, I32 0 ∷ I32 511 ∷ I32 64 ∷ [], 5, Ok []) ∷
    (2, I32 60 ∷ [], 2, Ok (I32 4294967295 ∷ [])) ∷
    (2, I32 61 ∷ [], 2, Ok (I32 16777215 ∷ [])) ∷
    (1, I32 201 ∷ I32 0 ∷ I32 0 ∷ [], 4, Err traps.MemoryBounds) ∷
    []

copies_answers : answers copies [] eight_bytes copies_rows ≡ wanted copies_rows
copies_answers = refl

abbrev float_code : Program
float_code = record {
  types = record { params = []; results = [] } ∷ [];
  imports = [];
  funcs =
      function [] [] []
      (Then (instrs.Float (floats.F32Const 0)) (Then instrs.Drop Done)) ∷
      function [] [] (types.I32 ∷ types.F64 ∷ [])
      (Then (instrs.LocalGet 0) (Then instrs.Drop (Then (instrs.LocalGet 1) (Then instrs.Drop Done)))) ∷
      function [] [] []
      (Then (instrs.GlobalGet 0) (Then instrs.Drop Done)) ∷
      function [] [] (types.F32 ∷ [])
      (Then instrs.Nop Done) ∷
      [];
  table = [];
}

abbrev float_code_rows : List Row
float_code_rows =
    (0, [], 0, Err traps.Budget) ∷
    (0, [], 1, Err traps.Float) ∷
    (1, [], 2, Err traps.Budget) ∷
    (1, [], 3, Err traps.Float) ∷
    (2, [], 1, Err traps.Float) ∷
    (3, [], 1, Ok []) ∷
    []

float_code_answers : answers float_code (F32 0 ∷ []) no_memory float_code_rows ≡ wanted float_code_rows
float_code_answers = refl
