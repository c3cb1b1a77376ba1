-- A module has one program.
use Rattle.std.proofs.Common.{◌≡◌, ℕ, ◌+◌, List, [], ◌∷◌, ◌++◌, map, Option, None, Some, refl, sym, ap, subst, ◌∙◌, append_assoc}
use Rattle.std.specs.Prelude.{slice_get, IsTrue}
use Rattle.wasm_code.specs.declared.types.FuncType.{FuncType}
use Rattle.wasm_code.specs.declared.instr.Instr.{Instr}
use Rattle.wasm_code.specs.declared.instr.Instr.TheVariants as instrs
use Rattle.wasm_code.specs.Code.{Block, Loop, If, Code, Done, Then, In, Both, flat, is_plain, IsPlain}
use Rattle.wasm_decode.specs.declared.module.Module.{Module}
use Rattle.wasm_decode.specs.declared.module.Body.{Body}
use Rattle.wasm_validate.specs.Rules.{imported_functions}
use Rattle.wasm_validate.specs.Validity.{declared}
use Rattle.wasm_semantics.specs.Eval.{Program, Func}
use Rattle.wasm_exec.specs.Programs.{FuncsAre, IsProgram, table_at_first}
use Rattle.wasm_code.specs.declared.types.ValType.{ValType}
use Rattle.wasm_exec.proofs.ProgramLemmas.{types_plain}
use Rattle.wasm_program.specs.Nesting.{Tail, before, plain, tails, nested, first_code}
use Rattle.wasm_program.specs.ProgramOf.{type_or, types_at, funcs_of, program_of}

-- code that is spelled before other instructions
before_plain : (i : Instr) (ts : List Tail) → IsTrue (is_plain i) → before i ts ≡ plain i ts
before_plain instrs.Unreachable ts h = refl
before_plain instrs.Nop ts h = refl
before_plain (instrs.Block r) ts h = absurd cc
before_plain (instrs.Loop r) ts h = absurd cc
before_plain (instrs.If r) ts h = absurd cc
before_plain instrs.Else ts h = absurd cc
before_plain instrs.End ts h = absurd cc
before_plain (instrs.Br l) ts h = refl
before_plain (instrs.BrIf l) ts h = refl
before_plain (instrs.BrTable ls l) ts h = refl
before_plain instrs.Return ts h = refl
before_plain (instrs.Call f) ts h = refl
before_plain (instrs.CallIndirect t) ts h = refl
before_plain instrs.Drop ts h = refl
before_plain instrs.Select ts h = refl
before_plain (instrs.LocalGet x) ts h = refl
before_plain (instrs.LocalSet x) ts h = refl
before_plain (instrs.LocalTee x) ts h = refl
before_plain (instrs.GlobalGet x) ts h = refl
before_plain (instrs.GlobalSet x) ts h = refl
before_plain (instrs.Load op m) ts h = refl
before_plain (instrs.Store op m) ts h = refl
before_plain instrs.MemorySize ts h = refl
before_plain instrs.MemoryGrow ts h = refl
before_plain instrs.MemoryCopy ts h = refl
before_plain instrs.MemoryFill ts h = refl
before_plain (instrs.Float f) ts h = refl
before_plain (instrs.I32Const n) ts h = refl
before_plain (instrs.I64Const n) ts h = refl
before_plain (instrs.Unary op) ts h = refl
before_plain (instrs.Binary op) ts h = refl

abbrev tail : Code → Option Code → Tail
tail e x = record { code = e; other = x }

module _ (is : List Instr) where
  tails_flat : (e : Code) → IsPlain e → (js : List Instr) (x : Option Code) (ts : List Tail) → tails js ≡ tail Done x ∷ ts → tails (flat e ++ js) ≡ tail e x ∷ ts
  tails_flat Done h js x ts at = at
  tails_flat (Then i e) h js x ts at = ap (before i) (tails_flat e h.1 js x ts at) ∙ before_plain i (tail e x ∷ ts) h.0
  tails_flat (In Block r a e) h js x ts at =
      let rest : tails (flat e ++ js) ≡ tail e x ∷ ts = tails_flat e h.1 js x ts at in
      let end : tails (instrs.End ∷ (flat e ++ js)) ≡ tail Done None ∷ tail e x ∷ ts = ap (before instrs.End) rest in
      ap (λ js. before (instrs.Block r) (tails js)) (append_assoc (flat a) (instrs.End ∷ flat e) js) ∙ ap (before (instrs.Block r)) (tails_flat a h.0 (instrs.End ∷ (flat e ++ js)) None (tail e x ∷ ts) end)
  tails_flat (In Loop r a e) h js x ts at =
      let rest : tails (flat e ++ js) ≡ tail e x ∷ ts = tails_flat e h.1 js x ts at in
      let end : tails (instrs.End ∷ (flat e ++ js)) ≡ tail Done None ∷ tail e x ∷ ts = ap (before instrs.End) rest in
      ap (λ js. before (instrs.Loop r) (tails js)) (append_assoc (flat a) (instrs.End ∷ flat e) js) ∙ ap (before (instrs.Loop r)) (tails_flat a h.0 (instrs.End ∷ (flat e ++ js)) None (tail e x ∷ ts) end)
  tails_flat (In If r a e) h js x ts at =
      let rest : tails (flat e ++ js) ≡ tail e x ∷ ts = tails_flat e h.1 js x ts at in
      let end : tails (instrs.End ∷ (flat e ++ js)) ≡ tail Done None ∷ tail e x ∷ ts = ap (before instrs.End) rest in
      ap (λ js. before (instrs.If r) (tails js)) (append_assoc (flat a) (instrs.End ∷ flat e) js) ∙ ap (before (instrs.If r)) (tails_flat a h.0 (instrs.End ∷ (flat e ++ js)) None (tail e x ∷ ts) end)
  tails_flat (Both r a b e) h js x ts at =
      let rest : tails (flat e ++ js) ≡ tail e x ∷ ts = tails_flat e h.2 js x ts at in
      let end : tails (instrs.End ∷ (flat e ++ js)) ≡ tail Done None ∷ tail e x ∷ ts = ap (before instrs.End) rest in
      let second : tails (flat b ++ (instrs.End ∷ (flat e ++ js))) ≡ tail b None ∷ tail e x ∷ ts = tails_flat b h.1 (instrs.End ∷ (flat e ++ js)) None (tail e x ∷ ts) end in
      let part : tails (instrs.Else ∷ (flat b ++ (instrs.End ∷ (flat e ++ js)))) ≡ tail Done (Some b) ∷ tail e x ∷ ts = ap (before instrs.Else) second in
      let joined : (flat a ++ instrs.Else ∷ (flat b ++ instrs.End ∷ flat e)) ++ js ≡ flat a ++ (instrs.Else ∷ (flat b ++ (instrs.End ∷ (flat e ++ js)))) =
      append_assoc (flat a) (instrs.Else ∷ (flat b ++ instrs.End ∷ flat e)) js ∙ ap (λ ks. flat a ++ instrs.Else ∷ ks) (append_assoc (flat b) (instrs.End ∷ flat e) js) in
      ap (λ js. before (instrs.If r) (tails js)) joined ∙ ap (before (instrs.If r)) (tails_flat a h.0 (instrs.Else ∷ (flat b ++ (instrs.End ∷ (flat e ++ js)))) (Some b) (tail e x ∷ ts) part)

-- what an expression spells is the expression
pub nested_flat : (e : Code) → IsPlain e → nested (flat e ++ instrs.End ∷ []) ≡ e
nested_flat e h = ap first_code (tails_flat [] e h (instrs.End ∷ []) None [] refl)

abbrev func : FuncType → List ValType → Code → Func
func t ls e = record { signature = t; locals = ls; body = e }

same_func : (s t : FuncType) (l m : List ValType) (c d : Code) → s ≡ t → l ≡ m → c ≡ d → func s l c ≡ func t m d
same_func s t l m c d a b e = cc

cons_same : (g h : Func) (gs hs : List Func) → g ≡ h → gs ≡ hs → g ∷ gs ≡ h ∷ hs
cons_same g h gs hs a b = cc

abbrev program : List FuncType → List FuncType → List Func → List (Option ℕ) → Program
program ts is fs t = record { types = ts; imports = is; funcs = fs; table = t }

same_program : (a b : List FuncType) (c d : List FuncType) (e f : List Func) (g h : List (Option ℕ)) → a ≡ b → c ≡ d → e ≡ f → g ≡ h
    → program a c e g ≡ program b d f h
same_program a b c d e f g h p q r t = cc

module _ (m : Module) where
  funcs_one : (n : ℕ) (ks : List ℕ) (bs : List Body) (fs : List Func) → FuncsAre m n ks bs fs → fs ≡ funcs_of m.types ks bs
  funcs_one n [] [] [] h = refl
  funcs_one n [] [] (g ∷ fs) h = absurd h
  funcs_one n [] (b ∷ bs) fs h = absurd h
  funcs_one n (k ∷ ks) [] fs h = absurd h
  funcs_one n (k ∷ ks) (b ∷ bs) [] h = absurd h
  funcs_one n (k ∷ ks) (b ∷ bs) (g ∷ fs) h =
      let rest : fs ≡ funcs_of m.types ks bs = funcs_one (n + 1) ks bs fs h.4 in
      let signature : g.signature ≡ type_or (slice_get m.types k) = ap type_or (sym h.0) in
      let body : g.body ≡ nested b.code = sym (nested_flat g.body (types_plain _ _ g.body _ _ h.3)) ∙ ap nested (sym h.2) in
      cons_same g (func (type_or (slice_get m.types k)) (declared b.locals) (nested b.code)) fs (funcs_of m.types ks bs) (same_func g.signature _ g.locals _ g.body _ signature h.1 body) rest

  types_one : (ts : List FuncType) (ks : List ℕ) → map (λ t. Some t) ts ≡ map (slice_get m.types) ks → ts ≡ types_at m.types ks
  types_one [] [] e = refl
  types_one [] (k ∷ ks) e = absurd cc
  types_one (t ∷ ts) [] e = absurd cc
  types_one (t ∷ ts) (k ∷ ks) e =
      let here : Some t ≡ slice_get m.types k = cc in
      let more : map (λ t. Some t) ts ≡ map (slice_get m.types) ks = cc in
      let rest : ts ≡ types_at m.types ks = types_one ts ks more in
      let first : t ≡ type_or (slice_get m.types k) = ap type_or here in
      cc

  pub one_program : (p : Program) → IsProgram m p → p ≡ program_of m
  one_program p h =
      let imports : p.imports ≡ types_at m.types (imported_functions m.imports) = types_one p.imports (imported_functions m.imports) h.imports in
      let funcs : p.funcs ≡ funcs_of m.types m.functions m.bodies = funcs_one 0 m.functions m.bodies p.funcs h.funcs in
      let types : p.types ≡ m.types = h.types in
      let table : p.table ≡ table_at_first m = h.table in
      same_program p.types m.types p.imports _ p.funcs _ p.table _ types imports funcs table

  -- where a module has a program at all, it is this one
  pub is_program_of : (p : Program) → IsProgram m p → IsProgram m (program_of m)
  is_program_of p h = subst (λ (q : Program). IsProgram m q) (one_program p h) h
