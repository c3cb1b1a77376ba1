-- The host that the modules of the rows import from.
use Rattle.std.specs.Prelude.{ℕ, zero, suc, ◌+◌, ◌*◌, ◌%◌, ◌^◌, List, [], ◌∷◌, Bool, true, false, Option, Some, None, Result, Ok, Err, if◌then◌else◌}
use Rattle.std.specs.Int.{w8}
use Rattle.wasm_num.specs.declared.trap.Trap.{Trap}
use Rattle.wasm_num.specs.declared.trap.Trap.TheVariants as traps
use Rattle.wasm_num.specs.declared.value.Value.{Value}
use Rattle.wasm_num.specs.declared.value.Value.TheVariants.{I32, I64}
use Rattle.wasm_num.specs.Mem.{Mem, is_inside, stored}
use Rattle.wasm_code.specs.declared.operators.StoreOp.TheVariants as stores
use Rattle.wasm_code.specs.declared.types.ValType.TheVariants as types
use Rattle.wasm_code.specs.declared.types.FuncType.{FuncType}
use Rattle.wasm_semantics.specs.Eval.{Answer}

abbrev pub imports_of : Bool → List FuncType
imports_of false = []
imports_of true =
    record { params = []; results = types.I32 ∷ [] } ∷
    record { params = types.I32 ∷ []; results = [] } ∷
    record { params = []; results = [] } ∷
    record { params = types.I64 ∷ []; results = types.I64 ∷ [] } ∷
    []

-- what a call answers, which is so many of them, this one with them
abbrev pub answer : ℕ → List Value → ℕ → Mem → Result (Option Value) Trap
answer zero [] count m = Ok (Some (I32 count))
answer (suc zero) (I32 a ∷ []) count m = if is_inside w8 m a then Ok None else Err traps.HostAddress
answer (suc (suc (suc zero))) (I64 n ∷ []) count m = Ok (Some (I64 (n * 2 % 2 ^ 64)))
answer _ _ count m = Err traps.HostLimit

-- the memory that it leaves
abbrev pub after : ℕ → List Value → Mem → Mem
after (suc zero) (I32 a ∷ []) m = stored stores.I32Store8 m a (I32 90)
after _ _ m = m

abbrev pub next : ℕ → ℕ
next count = (count + 1) % 2 ^ 32

abbrev pub answers : ℕ → ℕ → List Value → Mem → Answer ℕ
answers count import args m = record { answer = answer import args (next count) m; host = next count; memory = after import args m }
