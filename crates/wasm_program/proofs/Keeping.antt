-- What every call of a host keeps, evaluation keeps.
use Rattle.std.proofs.Common.{◌≡◌, ℕ, zero, suc, ◌+◌, ◌-◌, ◌/◌, ◌%◌, List, [], ◌∷◌, ◌++◌, Option, None, Some, Result, Ok, Err, Bool, true, false}
use Rattle.std.specs.Prelude.{slice_get, length, take, drop, reverse, if◌then◌else◌, nat_le}
use Rattle.wasm_num.specs.declared.trap.Trap.{Trap}
use Rattle.wasm_num.specs.declared.trap.Trap.TheVariants as traps
use Rattle.wasm_num.specs.declared.value.Value.{Value}
use Rattle.wasm_num.specs.declared.value.Value.TheVariants.{I32, I64, F32, F64}
use Rattle.wasm_num.specs.Mem.{Mem, load, stored, is_inside, store_width, has, can_copy, copied, filled}
use Rattle.wasm_num.specs.Numeric.{binary}
use Rattle.wasm_code.specs.declared.types.FuncType.{FuncType}
use Rattle.wasm_code.specs.declared.instr.Instr.{Instr}
use Rattle.wasm_code.specs.declared.instr.Instr.TheVariants as instrs
use Rattle.wasm_code.specs.declared.operators.StoreOp.{StoreOp}
use Rattle.wasm_code.specs.Code.{Block, Loop, If, Code, Done, Then, In, Both}
use Rattle.wasm_semantics.specs.Eval.{Program, Func, func_types, same_signature, State, Outcome, Falls, Branches, Returns, Traps, Stuck, End, Gives, Fails, Wrong, Answer, Next, Calls, unit_of, settled, pushed, branch_if, branch_table, ended, called, of_type, through, call_indirect, memory_copy, memory_fill, taking, is_float, does, block_exit, loop_exit, chosen, eval, arity, body_exit, answered, made, of_index, call}

module _ {S X : Type 0} (kept : S → X) (x : X) where
  abbrev pub Keeps : Outcome S → Type 0
  Keeps (Falls vs s) = kept s.host ≡ x
  Keeps (Branches l vs s) = kept s.host ≡ x
  Keeps (Returns vs s) = kept s.host ≡ x
  Keeps (Traps t s) = kept s.host ≡ x
  Keeps Stuck = Unit {0}

  abbrev pub KeepsEnd : End S → Type 0
  KeepsEnd (Gives vs s) = kept s.host ≡ x
  KeepsEnd (Fails t s) = kept s.host ≡ x
  KeepsEnd Wrong = Unit {0}

  abbrev pub KeepsNext : Next S → Type 0
  KeepsNext go = (vs : List Value) (s : State S) → kept s.host ≡ x → Keeps (go vs s)

  abbrev pub KeepCalls : Calls S → Type 0
  KeepCalls calls = (f : ℕ) (args : List Value) (s : State S) → kept s.host ≡ x → KeepsEnd (calls f args s)

  unit_keeps : (f : ℕ) (s : State S) (go : State S → Outcome S) → kept s.host ≡ x → ((t : State S) → kept t.host ≡ x → Keeps (go t)) → Keeps (unit_of f s go)
  unit_keeps zero s go h k = h
  unit_keeps (suc f) s go h k = k (record s { fuel = f }) h

  settled_keeps : (r : Result Value Trap) (vs : List Value) (s : State S) (go : Next S) → kept s.host ≡ x → KeepsNext go → Keeps (settled r vs s go)
  settled_keeps (Ok v) vs s go h k = k (v ∷ vs) s h
  settled_keeps (Err t) vs s go h k = h

  pushed_keeps : (o : Option Value) (vs : List Value) (s : State S) (go : Next S) → kept s.host ≡ x → KeepsNext go → Keeps (pushed o vs s go)
  pushed_keeps (Some v) vs s go h k = by (is_float v)
    where
      by : (b : Bool) → Keeps (if b then Traps traps.Float s else go (v ∷ vs) s)
      by true = h
      by false = k (v ∷ vs) s h
  pushed_keeps None vs s go h k = tt

  branch_if_keeps : (l : ℕ) (vs : List Value) (s : State S) (go : Next S) → kept s.host ≡ x → KeepsNext go → Keeps (branch_if l vs s go)
  branch_if_keeps l [] s go h k = tt
  branch_if_keeps l (I64 n ∷ vs) s go h k = tt
  branch_if_keeps l (F32 n ∷ vs) s go h k = tt
  branch_if_keeps l (F64 n ∷ vs) s go h k = tt
  branch_if_keeps l (I32 zero ∷ vs) s go h k = k vs s h
  branch_if_keeps l (I32 (suc c) ∷ vs) s go h k = h

  branch_table_keeps : (ls : List ℕ) (d : ℕ) (vs : List Value) (s : State S) → kept s.host ≡ x → Keeps (branch_table ls d vs s)
  branch_table_keeps ls d [] s h = tt
  branch_table_keeps ls d (I64 n ∷ vs) s h = tt
  branch_table_keeps ls d (F32 n ∷ vs) s h = tt
  branch_table_keeps ls d (F64 n ∷ vs) s h = tt
  branch_table_keeps ls d (I32 n ∷ vs) s h = h

  ended_keeps : (e : End S) (locals vs : List Value) (go : Next S) → KeepsEnd e → KeepsNext go → Keeps (ended e locals vs go)
  ended_keeps (Gives rs s) locals vs go h k = k (rs ++ vs) (record s { locals = locals }) h
  ended_keeps (Fails t s) locals vs go h k = h
  ended_keeps Wrong locals vs go h k = tt

  taking_keeps : (n : ℕ) (s : State S) (go : State S → Outcome S) → kept s.host ≡ x → ((t : State S) → kept t.host ≡ x → Keeps (go t)) → Keeps (taking n s go)
  taking_keeps n s go h k = by (nat_le n s.fuel)
    where
      by : (b : Bool) → Keeps (if b then go (record s { fuel = s.fuel - n }) else Traps traps.Budget s)
      by true = k (record s { fuel = s.fuel - n }) h
      by false = h

  bounded_keeps : (b : Bool) (o : Outcome S) (s : State S) → kept s.host ≡ x → Keeps o → Keeps (if b then o else Traps traps.MemoryBounds s)
  bounded_keeps true o s h k = k
  bounded_keeps false o s h k = h

  copy_keeps : (vs : List Value) (s : State S) (go : Next S) → kept s.host ≡ x → KeepsNext go → Keeps (memory_copy vs s go)
  copy_keeps [] s go h k = tt
  copy_keeps (I64 z ∷ vs) s go h k = tt
  copy_keeps (F32 z ∷ vs) s go h k = tt
  copy_keeps (F64 z ∷ vs) s go h k = tt
  copy_keeps (I32 n ∷ []) s go h k = tt
  copy_keeps (I32 n ∷ I64 z ∷ vs) s go h k = tt
  copy_keeps (I32 n ∷ F32 z ∷ vs) s go h k = tt
  copy_keeps (I32 n ∷ F64 z ∷ vs) s go h k = tt
  copy_keeps (I32 n ∷ I32 origin ∷ []) s go h k = tt
  copy_keeps (I32 n ∷ I32 origin ∷ I64 z ∷ vs) s go h k = tt
  copy_keeps (I32 n ∷ I32 origin ∷ F32 z ∷ vs) s go h k = tt
  copy_keeps (I32 n ∷ I32 origin ∷ F64 z ∷ vs) s go h k = tt
  copy_keeps (I32 n ∷ I32 origin ∷ I32 to ∷ vs) s go h k =
      bounded_keeps (can_copy s.memory to origin n) (taking (n / 64) s (λ t. go vs (record t { memory = copied s.memory to origin n }))) s h
      (taking_keeps (n / 64) s (λ t. go vs (record t { memory = copied s.memory to origin n })) h (λ t j. k vs (record t { memory = copied s.memory to origin n }) j))

  fill_keeps : (vs : List Value) (s : State S) (go : Next S) → kept s.host ≡ x → KeepsNext go → Keeps (memory_fill vs s go)
  fill_keeps [] s go h k = tt
  fill_keeps (I64 z ∷ vs) s go h k = tt
  fill_keeps (F32 z ∷ vs) s go h k = tt
  fill_keeps (F64 z ∷ vs) s go h k = tt
  fill_keeps (I32 n ∷ []) s go h k = tt
  fill_keeps (I32 n ∷ I64 z ∷ vs) s go h k = tt
  fill_keeps (I32 n ∷ F32 z ∷ vs) s go h k = tt
  fill_keeps (I32 n ∷ F64 z ∷ vs) s go h k = tt
  fill_keeps (I32 n ∷ I32 value ∷ []) s go h k = tt
  fill_keeps (I32 n ∷ I32 value ∷ I64 z ∷ vs) s go h k = tt
  fill_keeps (I32 n ∷ I32 value ∷ F32 z ∷ vs) s go h k = tt
  fill_keeps (I32 n ∷ I32 value ∷ F64 z ∷ vs) s go h k = tt
  fill_keeps (I32 n ∷ I32 value ∷ I32 to ∷ vs) s go h k =
      bounded_keeps (has s.memory to n) (taking (n / 64) s (λ t. go vs (record t { memory = filled s.memory to (value % 256) n }))) s h
      (taking_keeps (n / 64) s (λ t. go vs (record t { memory = filled s.memory to (value % 256) n })) h (λ t j. k vs (record t { memory = filled s.memory to (value % 256) n }) j))

  module _ (calls : Calls S) (keep : KeepCalls calls) (p : Program) where
    called_keeps : (t : Option FuncType) (f : ℕ) (vs : List Value) (s : State S) (go : Next S) → kept s.host ≡ x → KeepsNext go → Keeps (called calls t f vs s go)
    called_keeps None f vs s go h k = tt
    called_keeps (Some t) f vs s go h k = ended_keeps (calls f (reverse (take (length t.params) vs)) s) s.locals (drop (length t.params) vs) go (keep f _ s h) k

    if_keeps : (b : Bool) (t : FuncType) (f : ℕ) (vs : List Value) (s : State S) (go : Next S) → kept s.host ≡ x → KeepsNext go → Keeps (if b then called calls (Some t) f vs s go else Traps traps.TypeMismatch s)
    if_keeps true t f vs s go h k = called_keeps (Some t) f vs s go h k
    if_keeps false t f vs s go h k = h

    of_type_keeps : (t : FuncType) (u : Option FuncType) (f : ℕ) (vs : List Value) (s : State S) (go : Next S) → kept s.host ≡ x → KeepsNext go → Keeps (of_type calls t u f vs s go)
    of_type_keeps t None f vs s go h k = tt
    of_type_keeps t (Some u) f vs s go h k = if_keeps (same_signature u t) u f vs s go h k

    through_keeps : (t : FuncType) (o : Option (Option ℕ)) (vs : List Value) (s : State S) (go : Next S) → kept s.host ≡ x → KeepsNext go → Keeps (through calls p t o vs s go)
    through_keeps t None vs s go h k = h
    through_keeps t (Some None) vs s go h k = h
    through_keeps t (Some (Some f)) vs s go h k = of_type_keeps t (slice_get (func_types p) f) f vs s go h k

    indirect_keeps : (t : Option FuncType) (vs : List Value) (s : State S) (go : Next S) → kept s.host ≡ x → KeepsNext go → Keeps (call_indirect calls p t vs s go)
    indirect_keeps None vs s go h k = tt
    indirect_keeps (Some t) [] s go h k = tt
    indirect_keeps (Some t) (I64 n ∷ vs) s go h k = tt
    indirect_keeps (Some t) (F32 n ∷ vs) s go h k = tt
    indirect_keeps (Some t) (F64 n ∷ vs) s go h k = tt
    indirect_keeps (Some t) (I32 i ∷ vs) s go h k = through_keeps t (slice_get p.table i) vs s go h k

    put_keeps : (b : Bool) (op : StoreOp) (at : ℕ) (v : Value) (vs : List Value) (s : State S) (go : Next S) → kept s.host ≡ x → KeepsNext go → Keeps (if b then go vs (record s { memory = stored op s.memory at v }) else Traps traps.MemoryBounds s)
    put_keeps true op at v vs s go h k = k vs _ h
    put_keeps false op at v vs s go h k = h

    does_keeps : (i : Instr) (vs : List Value) (s : State S) (go : Next S) → kept s.host ≡ x → KeepsNext go → Keeps (does calls p i vs s go)
    does_keeps instrs.Unreachable vs s go h k = h
    does_keeps instrs.Nop vs s go h k = k vs s h
    does_keeps (instrs.Block r) vs s go h k = tt
    does_keeps (instrs.Loop r) vs s go h k = tt
    does_keeps (instrs.If r) vs s go h k = tt
    does_keeps instrs.Else vs s go h k = tt
    does_keeps instrs.End vs s go h k = tt
    does_keeps (instrs.Br l) vs s go h k = h
    does_keeps (instrs.BrIf l) vs s go h k = branch_if_keeps l vs s go h k
    does_keeps (instrs.BrTable ls l) vs s go h k = branch_table_keeps ls l vs s h
    does_keeps instrs.Return vs s go h k = h
    does_keeps (instrs.Call f) vs s go h k = called_keeps (slice_get (func_types p) f) f vs s go h k
    does_keeps (instrs.CallIndirect t) vs s go h k = indirect_keeps (slice_get p.types t) vs s go h k
    does_keeps instrs.Drop [] s go h k = tt
    does_keeps instrs.Drop (v ∷ vs) s go h k = k vs s h
    does_keeps instrs.Select [] s go h k = tt
    does_keeps instrs.Select (I64 n ∷ vs) s go h k = tt
    does_keeps instrs.Select (F32 n ∷ vs) s go h k = tt
    does_keeps instrs.Select (F64 n ∷ vs) s go h k = tt
    does_keeps instrs.Select (I32 zero ∷ []) s go h k = tt
    does_keeps instrs.Select (I32 zero ∷ b ∷ []) s go h k = tt
    does_keeps instrs.Select (I32 zero ∷ b ∷ a ∷ vs) s go h k = k (b ∷ vs) s h
    does_keeps instrs.Select (I32 (suc c) ∷ []) s go h k = tt
    does_keeps instrs.Select (I32 (suc c) ∷ b ∷ []) s go h k = tt
    does_keeps instrs.Select (I32 (suc c) ∷ b ∷ a ∷ vs) s go h k = k (a ∷ vs) s h
    does_keeps (instrs.LocalGet i) vs s go h k = pushed_keeps (slice_get s.locals i) vs s go h k
    does_keeps (instrs.LocalSet i) [] s go h k = tt
    does_keeps (instrs.LocalSet i) (v ∷ vs) s go h k = k vs _ h
    does_keeps (instrs.LocalTee i) [] s go h k = tt
    does_keeps (instrs.LocalTee i) (v ∷ vs) s go h k = k (v ∷ vs) _ h
    does_keeps (instrs.GlobalGet i) vs s go h k = pushed_keeps (slice_get s.globals i) vs s go h k
    does_keeps (instrs.GlobalSet i) [] s go h k = tt
    does_keeps (instrs.GlobalSet i) (v ∷ vs) s go h k = k vs _ h
    does_keeps (instrs.Load op m) [] s go h k = tt
    does_keeps (instrs.Load op m) (I64 n ∷ vs) s go h k = tt
    does_keeps (instrs.Load op m) (F32 n ∷ vs) s go h k = tt
    does_keeps (instrs.Load op m) (F64 n ∷ vs) s go h k = tt
    does_keeps (instrs.Load op m) (I32 n ∷ vs) s go h k = settled_keeps (load op s.memory (n + m.offset)) vs s go h k
    does_keeps (instrs.Store op m) [] s go h k = tt
    does_keeps (instrs.Store op m) (v ∷ []) s go h k = tt
    does_keeps (instrs.Store op m) (v ∷ I64 n ∷ vs) s go h k = tt
    does_keeps (instrs.Store op m) (v ∷ F32 n ∷ vs) s go h k = tt
    does_keeps (instrs.Store op m) (v ∷ F64 n ∷ vs) s go h k = tt
    does_keeps (instrs.Store op m) (v ∷ I32 n ∷ vs) s go h k = put_keeps (is_inside (store_width op) s.memory (n + m.offset)) op (n + m.offset) v vs s go h k
    does_keeps instrs.MemorySize vs s go h k = k _ s h
    does_keeps instrs.MemoryGrow [] s go h k = tt
    does_keeps instrs.MemoryGrow (I64 n ∷ vs) s go h k = tt
    does_keeps instrs.MemoryGrow (F32 n ∷ vs) s go h k = tt
    does_keeps instrs.MemoryGrow (F64 n ∷ vs) s go h k = tt
    does_keeps instrs.MemoryGrow (I32 n ∷ vs) s go h k = k _ _ h
    does_keeps instrs.MemoryCopy vs s go h k = copy_keeps vs s go h k
    does_keeps instrs.MemoryFill vs s go h k = fill_keeps vs s go h k
    does_keeps (instrs.Float f) vs s go h k = h
    does_keeps (instrs.I32Const n) vs s go h k = k _ s h
    does_keeps (instrs.I64Const n) vs s go h k = k _ s h
    does_keeps (instrs.Unary op) [] s go h k = tt
    does_keeps (instrs.Unary op) (a ∷ vs) s go h k = k _ s h
    does_keeps (instrs.Binary op) [] s go h k = tt
    does_keeps (instrs.Binary op) (b ∷ []) s go h k = tt
    does_keeps (instrs.Binary op) (b ∷ a ∷ vs) s go h k = settled_keeps (binary op a b) vs s go h k

    block_keeps : (rest : Next S) (keep : ℕ) (below : List Value) (o : Outcome S) → KeepsNext rest → Keeps o → Keeps (block_exit rest keep below o)
    block_keeps rest n below (Falls vs s) k h = k _ s h
    block_keeps rest n below (Branches zero vs s) k h = k _ s h
    block_keeps rest n below (Branches (suc l) vs s) k h = h
    block_keeps rest n below (Returns vs s) k h = h
    block_keeps rest n below (Traps t s) k h = h
    block_keeps rest n below Stuck k h = tt

    loop_keeps : (rest : Next S) (again : State S → Outcome S) (below : List Value) (n : ℕ) (o : Outcome S) → KeepsNext rest → ((s : State S) → kept s.host ≡ x → Keeps (again s)) → Keeps o → Keeps (loop_exit rest again below o n)
    loop_keeps rest again below n (Falls vs s) k a h = k _ s h
    loop_keeps rest again below zero (Branches zero vs s) k a h = tt
    loop_keeps rest again below (suc n) (Branches zero vs s) k a h = loop_keeps rest again below n (again s) k a (a s h)
    loop_keeps rest again below n (Branches (suc l) vs s) k a h = h
    loop_keeps rest again below n (Returns vs s) k a h = h
    loop_keeps rest again below n (Traps t s) k a h = h
    loop_keeps rest again below n Stuck k a h = tt

    chosen_keeps : (vs : List Value) (s : State S) (first second : Next S) → kept s.host ≡ x → KeepsNext first → KeepsNext second → Keeps (chosen vs s first second)
    chosen_keeps [] s first second h a b = tt
    chosen_keeps (I64 n ∷ vs) s first second h a b = tt
    chosen_keeps (F32 n ∷ vs) s first second h a b = tt
    chosen_keeps (F64 n ∷ vs) s first second h a b = tt
    chosen_keeps (I32 zero ∷ vs) s first second h a b = b vs s h
    chosen_keeps (I32 (suc c) ∷ vs) s first second h a b = a vs s h

    eval_keeps : (e : Code) → KeepsNext (eval calls p e)
    eval_keeps Done vs s h = h
    eval_keeps (Then i e) vs s h = unit_keeps s.fuel s _ h (λ t j. does_keeps i vs t (eval calls p e) j (eval_keeps e))
    eval_keeps (In Block r a e) vs s h = unit_keeps s.fuel s _ h (λ t j. block_keeps (eval calls p e) (arity r) vs (eval calls p a [] t) (eval_keeps e) (eval_keeps a [] t j))
    eval_keeps (In Loop r a e) vs s h = unit_keeps s.fuel s _ h (λ t j. loop_keeps (eval calls p e) (eval calls p a []) vs t.fuel (eval calls p a [] t) (eval_keeps e) (eval_keeps a []) (eval_keeps a [] t j))
    eval_keeps (In If r a e) vs s h =
        unit_keeps s.fuel s _ h (λ t j. chosen_keeps vs t (λ ws u. block_exit (eval calls p e) (arity r) ws (eval calls p a [] u)) (eval calls p e) j
        (λ ws u i. block_keeps (eval calls p e) (arity r) ws (eval calls p a [] u) (eval_keeps e) (eval_keeps a [] u i)) (eval_keeps e))
    eval_keeps (Both r a b e) vs s h =
        unit_keeps s.fuel s _ h (λ t j. chosen_keeps vs t (λ ws u. block_exit (eval calls p e) (arity r) ws (eval calls p a [] u)) (λ ws u. block_exit (eval calls p e) (arity r) ws (eval calls p b [] u)) j
        (λ ws u i. block_keeps (eval calls p e) (arity r) ws (eval calls p a [] u) (eval_keeps e) (eval_keeps a [] u i))
        (λ ws u i. block_keeps (eval calls p e) (arity r) ws (eval calls p b [] u) (eval_keeps e) (eval_keeps b [] u i)))

  pub exit_keeps : (n : ℕ) (o : Outcome S) → Keeps o → KeepsEnd (body_exit n o)
  exit_keeps n (Falls vs s) h = h
  exit_keeps n (Branches zero vs s) h = h
  exit_keeps n (Branches (suc l) vs s) h = tt
  exit_keeps n (Returns vs s) h = h
  exit_keeps n (Traps t s) h = h
  exit_keeps n Stuck h = tt

  module _ (host : S → ℕ → List Value → Mem → Answer S) (p : Program) (keeps : (h : S) (f : ℕ) (args : List Value) (m : Mem) → kept h ≡ x → kept (host h f args m).host ≡ x) where
    asked_keeps : (s : State S) (a : Answer S) (r : Result (Option Value) Trap) → kept a.host ≡ x → KeepsEnd (answered s a r)
    asked_keeps s a (Ok v) h = h
    asked_keeps s a (Err t) h = h

    made_keeps : (calls : Calls S) → KeepCalls calls → (f : Option Func) (args : List Value) (s : State S) → kept s.host ≡ x → KeepsEnd (made calls p f args s)
    made_keeps calls keep None args s h = tt
    made_keeps calls keep (Some f) args s h = exit_keeps _ _ (eval_keeps calls keep p f.body [] _ h)

    index_keeps : (calls : Calls S) → KeepCalls calls → (t : Option FuncType) (f : ℕ) (args : List Value) (s : State S) → kept s.host ≡ x → KeepsEnd (of_index host calls p t f args s)
    index_keeps calls keep None f args s h = made_keeps calls keep (slice_get p.funcs _) args s h
    index_keeps calls keep (Some t) f args s h = asked_keeps s (host s.host f args s.memory) _ (keeps s.host f args s.memory h)

    -- what each call of the host keeps, a call of the module keeps
    pub call_keeps : (depth : ℕ) → KeepCalls (call host p depth)
    call_keeps zero f args s h = h
    call_keeps (suc depth) f args s h = index_keeps (call host p depth) (call_keeps depth) (slice_get p.imports f) f args s h

    -- and so does an entry of the table
    pub indirect_call_keeps : (depth n : ℕ) (t : Option FuncType) (vs : List Value) (s : State S) → kept s.host ≡ x → KeepsEnd (body_exit n (call_indirect (call host p depth) p t vs s Falls))
    indirect_call_keeps depth n t vs s h = exit_keeps n _ (indirect_keeps (call host p depth) (call_keeps depth) p t vs s Falls h (λ ws u j. j))
