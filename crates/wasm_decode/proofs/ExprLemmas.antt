-- Reading expressions, and why what was read is nested.
use Rattle.std.proofs.Common.{◌≡◌, ℕ, ◌<◌, List, [], ◌∷◌, ◌++◌, length, Option, Some, None, Bool, true, false, not, ◌&&◌, Result, Ok, Err, refl, sym, ap, subst, ◌∙◌, arith, append_assoc, length-append}
use Rattle.std.specs.Option.{option_map_or}
use Rattle.std.specs.Prelude.{if◌then◌else◌, ◌==◌, nat_le, is_some}
use Rattle.sim_base.specs.declared.fault.Fault.{Fault}
use Rattle.sim_refusals.specs.Refusals.{WasmOpcode, WasmLimit}
use Rattle.wasm_binary.specs.declared.reader.Reader.{Reader}
use Rattle.wasm_binary.specs.Form.{Form, give, choose}
use Rattle.wasm_binary.specs.Lists.{Run}
use Rattle.wasm_binary.specs.Reads.{Reads, Fails}
use Rattle.wasm_binary.proofs.Runs.{HasRun, begins, goes, run_fails, ends}
use Rattle.wasm_binary.specs.Proper.{Proper}
use Rattle.wasm_binary.proofs.Exact.{repeated_proper}
use Rattle.wasm_decode.proofs.InstrLemmas.{instr_proper}
use Rattle.wasm_code.specs.declared.types.ValType.{ValType}
use Rattle.wasm_code.specs.declared.instr.Instr.{Instr}
use Rattle.wasm_code.specs.declared.instr.Instr.TheVariants as instrs
use Rattle.wasm_code.specs.declared.instr.FloatInstr.TheVariants as floats
use Rattle.wasm_code.specs.declared.instr.MemArg.{MemArg}
use Rattle.wasm_code.specs.declared.operators.UnaryOp.{UnaryOp}
use Rattle.wasm_code.specs.declared.operators.BinaryOp.{BinaryOp}
use Rattle.wasm_code.specs.declared.operators.LoadOp.{LoadOp}
use Rattle.wasm_code.specs.declared.operators.StoreOp.{StoreOp}
use Rattle.wasm_code.specs.Opcodes.{from, load_of, store_of, float_load, unary_of, binary_of, float_unary}
use Rattle.wasm_code.specs.Code.{Block, Loop, If, IsNested}
use Rattle.wasm_code.proofs.Nesting.{IsOpen, open_none, open_plain, open_more, open_less, open_parted, open_ends}
use Rattle.wasm_decode.specs.declared.instructions.Shape.{Shape}
use Rattle.wasm_decode.specs.declared.instructions.Shape.TheVariants as shapes
use Rattle.wasm_decode.specs.InstrText.{is_opcode, Opened, else_may_come, judge_opcode, bare, block_of, index_of, access_of, memory_of, numeric_of, memory_copy, memory_fill, prefixed_of, shape_of, behind, instr, InExpr, in_expr, expr}

abbrev pub item : InExpr → Form Instr
item s = instr s.opened

abbrev pub is_ended : InExpr → Bool
is_ended s = s.ended

abbrev pub fresh : InExpr
fresh = record { opened = []; ended = false }

abbrev pub ExprRun : Reader → Reader → List Instr → InExpr → Type 0
ExprRun old now code s = HasRun item in_expr is_ended old now fresh code s

pub expr_begins : (old : Reader) → ExprRun old old [] fresh
expr_begins old = begins item in_expr is_ended old fresh

pub expr_goes : (old mid new : Reader) (code more : List Instr) (s t : InExpr) (i : Instr) → ExprRun old mid code s → s.ended ≡ false → Reads (instr s.opened) mid new i → t ≡ in_expr s i → more ≡ code ++ i ∷ [] → ExprRun old new more t
expr_goes old mid new code more s t i h d r et em =
    let g = goes item in_expr is_ended old mid new fresh code s i h d r in
    subst (λ (z : List Instr). ExprRun old new z t) (sym em) (subst (λ (z : InExpr). ExprRun old new (code ++ i ∷ []) z) (sym et) g)

pub expr_fails : (old mid : Reader) (code : List Instr) (s : InExpr) (e : Fault) → ExprRun old mid code s → s.ended ≡ false → Fails (instr s.opened) mid e → Fails expr old e
unfolding expr
expr_fails old mid code s e h d f = run_fails item in_expr is_ended old mid fresh code s e h d f

pub expr_ends : (old new : Reader) (code : List Instr) (s : InExpr) → ExprRun old new code s → s.ended ≡ true → Reads expr old new code
unfolding expr
expr_ends old new code s h d = ends item in_expr is_ended old new fresh code s h d

pub expr_proper : Proper expr
unfolding expr
expr_proper = repeated_proper item in_expr is_ended (λ s. instr_proper s.opened) fresh

-- an instruction takes a byte at least
pub instr_some : (o : Opened) (old new : Reader) (i : Instr) → Reads (instr o) old new i → length new.rest.now < length old.rest.now
instr_some o old new i h =
    let t = h.1 in
    omega (arith, ap length h.2.parts, length-append h.0 new.rest.now, ap length t.3, length-append t.0 t.1, ap length t.4.1)

-- ---- an else is read only where it may come

abbrev is_else : Instr → Bool
is_else instrs.Else = true
is_else _ = false

no_block : (op : ℕ) (r : Option ValType) → is_else (block_of op r) ≡ false
no_block op r = by (op == 0x02) (op == 0x03)
  where
    by : (a b : Bool) → is_else (if a then instrs.Block r else if b then instrs.Loop r else instrs.If r) ≡ false
    by true b = refl
    by false true = refl
    by false false = refl

no_index : (op n : ℕ) → is_else (index_of op n) ≡ false
no_index op n = by (op == 0x0C) (op == 0x0D) (op == 0x10) (op == 0x20) (op == 0x21) (op == 0x22) (op == 0x23)
  where
    by : (a b c d e f g : Bool) → is_else (if a then instrs.Br n else if b then instrs.BrIf n else if c then instrs.Call n else if d then instrs.LocalGet n else if e then instrs.LocalSet n else if f then instrs.LocalTee n else if g then instrs.GlobalGet n else instrs.GlobalSet n) ≡ false
    by true b c d e f g = refl
    by false true c d e f g = refl
    by false false true d e f g = refl
    by false false false true e f g = refl
    by false false false false true f g = refl
    by false false false false false true g = refl
    by false false false false false false true = refl
    by false false false false false false false = refl

no_access : (op x y : ℕ) → is_else (access_of op x y) ≡ false
no_access op x y = by (load_of op) (store_of op) (is_some (float_load op))
  where
    at : MemArg
    at = record { align = x; offset = y }

    by : (a : Option LoadOp) (b : Option StoreOp) (c : Bool) → is_else (option_map_or (λ o. instrs.Load o at) a (option_map_or (λ o. instrs.Store o at) b (if c then instrs.Float (floats.Load op at) else instrs.Float (floats.Store op at)))) ≡ false
    by (Some a) b c = refl
    by None (Some b) c = refl
    by None None true = refl
    by None None false = refl

no_memory : (op : ℕ) → is_else (memory_of op) ≡ false
no_memory op = by (op == 0x3F)
  where
    by : (a : Bool) → is_else (if a then instrs.MemorySize else instrs.MemoryGrow) ≡ false
    by true = refl
    by false = refl

no_number : (op : ℕ) → is_else (numeric_of op) ≡ false
no_number op = by (unary_of op) (binary_of op) (is_some (float_unary op))
  where
    by : (a : Option UnaryOp) (b : Option BinaryOp) (c : Bool) → is_else (option_map_or (λ o. instrs.Unary o) a (option_map_or (λ o. instrs.Binary o) b (if c then instrs.Float (floats.Unary op) else instrs.Float (floats.Binary op)))) ≡ false
    by (Some a) b c = refl
    by None (Some b) c = refl
    by None None true = refl
    by None None false = refl

no_prefixed : (n : ℕ) (bytes : List ℕ) (i : Instr) → (prefixed_of n).text bytes i → is_else i ≡ false
no_prefixed n bytes i h = by (n == 10) (n == 11) h
  where
    by : (a b : Bool) → (choose a memory_copy (choose b memory_fill (give (instrs.Float (floats.Truncate n))))).text bytes i → is_else i ≡ false
    by true b h = ap is_else h.5.5.1
    by false true h = ap is_else h.5.1
    by false false h = ap is_else h.1

clash : (i j : Instr) → i ≡ j → is_else i ≡ true → is_else j ≡ false → ⊥
clash i j e p q = let z : true ≡ false = sym p ∙ ap is_else e ∙ q in absurd cc

bare_is : (op : ℕ) → is_else (bare op) ≡ true → (op == 5) ≡ true
bare_is op h = by (op == 0x00) (op == 0x01) (op == 0x05) (op == 0x0B) (op == 0x0F) (op == 0x1A) h
  where
    by : (a b c d e f : Bool) → is_else (if a then instrs.Unreachable else if b then instrs.Nop else if c then instrs.Else else if d then instrs.End else if e then instrs.Return else if f then instrs.Drop else instrs.Select) ≡ true → c ≡ true
    by true b c d e f h = absurd cc
    by false true c d e f h = absurd cc
    by false false true d e f h = refl
    by false false false true e f h = absurd cc
    by false false false false true f h = absurd cc
    by false false false false false true h = absurd cc
    by false false false false false false h = absurd cc

else_op : (s : Shape) (op : ℕ) (bytes : List ℕ) (i : Instr) → (behind s op).text bytes i → is_else i ≡ true → (op == 5) ≡ true
else_op shapes.Bare op bytes i h p = bare_is op (ap is_else (sym h.1) ∙ p)
else_op shapes.Block op bytes i h p = absurd (clash i _ h.5.1 p (no_block op h.2.result))
else_op shapes.Index op bytes i h p = absurd (clash i _ h.5.1 p (no_index op h.2))
else_op shapes.Table op bytes i h p = absurd (clash i _ h.5.5.1 p refl)
else_op shapes.Indirect op bytes i h p = absurd (clash i _ h.5.5.1 p refl)
else_op shapes.Access op bytes i h p = absurd (clash i _ h.5.5.1 p (no_access op h.2 h.5.2))
else_op shapes.Reserved op bytes i h p = absurd (clash i _ h.5.1 p (no_memory op))
else_op shapes.Const32 op bytes i h p = absurd (clash i _ h.5.1 p refl)
else_op shapes.Const64 op bytes i h p = absurd (clash i _ h.5.1 p refl)
else_op shapes.Float32 op bytes i h p = absurd (clash i _ h.5.1 p refl)
else_op shapes.Float64 op bytes i h p = absurd (clash i _ h.5.1 p refl)
else_op shapes.Prefixed op bytes i h p = let z : true ≡ false = sym p ∙ no_prefixed h.2 h.1 i h.5 in absurd cc
else_op shapes.Number op bytes i h p = absurd (clash i _ h.1 p (no_number op))

abbrev verdict : Bool → Bool → Bool → Bool → ℕ → Result ℕ ℕ
verdict k c e m b = if not k then Err WasmOpcode else if c then Err WasmLimit else if e && not m then Err WasmOpcode else Ok b

judged_else : (o : Opened) (b op : ℕ) → judge_opcode o b ≡ Ok op → (b ≡ op) × ((b == 5) ≡ true → else_may_come o ≡ true)
judged_else o b op h = by (is_opcode b) (from 0x02 0x04 b && nat_le 256 (length o)) (b == 5) (else_may_come o) h
  where
    by : (k c e m : Bool) → verdict k c e m b ≡ Ok op → (b ≡ op) × (e ≡ true → m ≡ true)
    by false c e m h = absurd cc
    by true true e m h = absurd cc
    by true false true true h = (cc, λ z. refl)
    by true false true false h = absurd cc
    by true false false m h = (cc, λ z. absurd cc)

else_comes : (o : Opened) (bytes : List ℕ) (i : Instr) → (instr o).text bytes i → is_else i ≡ true → else_may_come o ≡ true
else_comes o bytes i h p =
    let j = judged_else o h.4.0 h.2 h.4.2 in
    j.1 (ap (λ n. n == 5) j.0 ∙ else_op (shape_of h.2) h.2 h.1 i h.5 p)

-- ---- what was read is nested

abbrev Goal : List Instr → List Instr → Type 0
Goal front xs = IsNested (front ++ xs)

moved : (front xs : List Instr) (x : Instr) → Goal (front ++ x ∷ []) xs → Goal front (x ∷ xs)
moved front xs x h = subst (λ (z : List Instr). IsNested z) (append_assoc front (x ∷ []) xs) h

stops_here : (s t : InExpr) (a : List ℕ) (xs front : List Instr) → s.ended ≡ true → Run item in_expr is_ended s a xs t → IsNested (front ++ instrs.End ∷ []) → Goal (front ++ instrs.End ∷ []) xs
stops_here s t a [] front e r n = subst (λ (z : List Instr). IsNested z) (sym (nil (front ++ instrs.End ∷ []))) n
  where
    nil : (ys : List Instr) → ys ++ [] ≡ ys
    nil [] = refl
    nil (y ∷ ys) = ap (λ zs. y ∷ zs) (nil ys)
stops_here s t a (x ∷ xs) front e r n = let z : true ≡ false = sym e ∙ r.0 in absurd cc

pub nested : (o : Opened) (front : List Instr) (a : List ℕ) (xs : List Instr) (t : InExpr) → IsOpen front o → Run item in_expr is_ended (record { opened = o; ended = false }) a xs t → t.ended ≡ true → Goal front xs
nested o front a [] t h r d = let z : false ≡ true = ap is_ended r.1 ∙ d in absurd cc
nested o front a (instrs.Block q ∷ xs) t h r d = moved front xs (instrs.Block q) (nested (false ∷ o) (front ++ instrs.Block q ∷ []) r.2 xs t (open_more front o Block q h) r.5 d)
nested o front a (instrs.Loop q ∷ xs) t h r d = moved front xs (instrs.Loop q) (nested (false ∷ o) (front ++ instrs.Loop q ∷ []) r.2 xs t (open_more front o Loop q h) r.5 d)
nested o front a (instrs.If q ∷ xs) t h r d = moved front xs (instrs.If q) (nested (true ∷ o) (front ++ instrs.If q ∷ []) r.2 xs t (open_more front o If q h) r.5 d)
nested [] front a (instrs.Else ∷ xs) t h r d = let z = else_comes [] r.1 instrs.Else r.4 refl in absurd cc
nested (false ∷ o) front a (instrs.Else ∷ xs) t h r d = let z = else_comes (false ∷ o) r.1 instrs.Else r.4 refl in absurd cc
nested (true ∷ o) front a (instrs.Else ∷ xs) t h r d = moved front xs instrs.Else (nested (false ∷ o) (front ++ instrs.Else ∷ []) r.2 xs t (open_parted front o h) r.5 d)
nested [] front a (instrs.End ∷ xs) t h r d = moved front xs instrs.End (stops_here (record { opened = []; ended = true }) t r.2 xs front refl r.5 (open_ends front h))
nested (x ∷ o) front a (instrs.End ∷ xs) t h r d = moved front xs instrs.End (nested o (front ++ instrs.End ∷ []) r.2 xs t (open_less front x o h) r.5 d)
nested o front a (i ∷ xs) t h r d = moved front xs i (nested o (front ++ i ∷ []) r.2 xs t (open_plain front o i h refl) r.5 d)

pub expr_nested : (a : List ℕ) (code : List Instr) → expr.text a code → IsNested code
unfolding expr
expr_nested a code h = nested [] [] a code h.0 open_none h.1 h.2
