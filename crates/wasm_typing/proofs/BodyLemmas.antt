-- A body is gone over instruction by instruction.
use Rattle.std.proofs.Common.{◌≡◌, ℕ, zero, suc, ◌+◌, ◌-◌, ◌*◌, ◌^◌, ◌<◌, ◌≤◌, List, [], ◌∷◌, ◌++◌, length, get_or, take, Option, Some, None, Bool, true, false, ◌&&◌, refl, sym, ap, subst, ◌∙◌, arith, length-append, inl, inr, ◌⊎◌, ⊎_elim, nat_lt, nat_le}
use Rattle.std.specs.Prelude.{slice_get, option_map, option_and_then, option_to_list, if◌then◌else◌, is_some}
use Rattle.std.proofs.lemmas.Nat.{pow-add}
use Rattle.std.proofs.lemmas.Bool.{leb-true}
use Rattle.std.proofs.lemmas.Bool.Decides.{leb_tells}
use Rattle.std.proofs.lemmas.Option.{slice_get_past, slice_get-get_or}
use Rattle.std.proofs.Math.Bool.{and-false}
use Rattle.sim_refusals.specs.Refusals.{ValidIndex, ValidType, ValidLimit}
use Rattle.wasm_code.specs.declared.types.ValType.{ValType}
use Rattle.wasm_code.specs.declared.types.ValType.TheVariants.{I32}
use Rattle.wasm_code.specs.declared.instr.Instr.{Instr}
use Rattle.wasm_code.specs.declared.instr.Instr.TheVariants as instrs
use Rattle.wasm_code.specs.declared.instr.FloatInstr.TheVariants as floats
use Rattle.wasm_code.specs.Code.{IsNested, flat}
use Rattle.wasm_typing.specs.Typing.{Context, IsBody, CanBegin, exists, all_below, labels_behind, room, IsShallow, Lacks, Exists, NumberAt, FailsAt, signature, given}
use Rattle.wasm_typing.specs.Checking as checks
use Rattle.wasm_typing.specs.Checking.{Operand, Around, State, pop, labels_of, is_same, has_label, all_have, opened, behind, parted, ended, stay, act, step, run, start, total, leaves_any, turn, no_more, pops, is_if, may_end}
use Rattle.wasm_typing.proofs.Exact.{run_none, run_append, run_next, run_stops, around_is, closes, complete, chosen}
use Rattle.wasm_typing.proofs.Beginnings.{body_complete, body_sound, can_begin, cannot_begin, too_many}

pow_some : (k : ℕ) → 0 < 2 ^ k
pow_some zero = omega arith
pow_some (suc k) =
    let e : suc k ≡ 1 + k = omega arith in
    let q : 2 ^ suc k ≡ 2 * 2 ^ k = ap (λ (n : ℕ). 2 ^ n) e ∙ pow-add 2 1 k in
    omega (arith, q, pow_some k)

gt_leb : (a b : ℕ) → b < a → nat_le a b ≡ false
gt_leb a b lt = ⊎_elim (λ p. absurd (omega (arith, p.1))) (λ p. p.0) (leb_tells a b)

pub too_coarse : (align width : ℕ) → 4 ≤ align → width ≤ 8 → nat_le (2 ^ align) width ≡ false
too_coarse align width le w =
    let e : align ≡ 4 + (align - 4) = omega arith in
    let q : 2 ^ align ≡ 16 * 2 ^ (align - 4) = ap (λ (n : ℕ). 2 ^ n) e ∙ pow-add 2 4 (align - 4) in
    gt_leb (2 ^ align) width (omega (arith, q, pow_some (align - 4)))

-- ---- labels

map_none : {A B : Type 0} (f : A → B) (o : Option A) → o ≡ None → option_map f o ≡ None
map_none f o e = ap (λ x. option_map f x) e

then_none : {A B : Type 0} (f : A → Option B) (o : Option A) → o ≡ None → option_and_then f o ≡ None
then_none f o e = ap (λ x. option_and_then f x) e

no_some : {A : Type 0} (o : Option A) → is_some o ≡ false → o ≡ None
no_some None e = refl
no_some (Some x) e = absurd cc

not_lt : (a b : ℕ) → nat_lt a b ≡ false → b ≤ a
not_lt a b e = ⊎_elim (λ p. absurd (let z : true ≡ false = sym p.0 ∙ e in cc)) (λ p. omega (arith, p.1)) (leb_tells (suc a) b)

get_past : {X : Type 0} (xs : List X) (i : ℕ) → nat_lt i (length xs) ≡ false → slice_get xs i ≡ None
get_past xs i e = slice_get_past xs i (not_lt i (length xs) e)

labels_long : (fs : List Around) → length (labels_of fs) ≡ length fs
labels_long [] = refl
labels_long (f ∷ fs) = omega (arith, labels_long fs)

label_past : (fs : List Around) (l : ℕ) → nat_lt l (length fs) ≡ false → slice_get (labels_of fs) l ≡ None
label_past fs l e = slice_get_past (labels_of fs) l (omega (arith, labels_long fs, not_lt l (length fs) e))

not_next : (fs : List Around) (ls : List ℕ) (rs : List ValType) (l : ℕ) (b : Bool) → nat_lt l (length fs) ≡ b → (all_below (length fs) ls ≡ false → all_have (labels_of fs) ls rs ≡ false) → (b && all_below (length fs) ls) ≡ false → (has_label (labels_of fs) l rs && all_have (labels_of fs) ls rs) ≡ false
not_next fs ls rs l true q h e = ap (λ b. has_label (labels_of fs) l rs && b) (h e) ∙ and-false (has_label (labels_of fs) l rs)
not_next fs ls rs l false q h e = ap (λ o. is_same o rs && all_have (labels_of fs) ls rs) (label_past fs l q)

-- labels that do not all exist do not all have the operands
not_all : (fs : List Around) (ls : List ℕ) (rs : List ValType) → all_below (length fs) ls ≡ false → all_have (labels_of fs) ls rs ≡ false
not_all fs [] rs e = absurd cc
not_all fs (l ∷ ls) rs e = not_next fs ls rs l (nat_lt l (length fs)) refl (not_all fs ls rs) e

lack : (s : Option (List ValType × List ValType)) (os : List Operand) (m : Bool) (fs : List Around) → s ≡ None → stay fs (option_and_then (λ s. turn s.0 s.1 os m) s) ≡ None
lack s os m fs e = ap (λ x. stay fs (option_and_then (λ (s : List ValType × List ValType). turn s.0 s.1 os m) x)) e

no_given : (n : ℕ) (s : Option (List ValType × List ValType)) → nat_lt 0 n ≡ false → given n s ≡ None
no_given n s e = ap (λ b. if b then s else None) e

module _ (c : Context) where
  pub lacks_stops : (i : Instr) (s : State) → exists c (length s.around) i ≡ false → step c i s ≡ None
  lacks_stops instrs.Unreachable s e = absurd cc
  lacks_stops instrs.Nop s e = absurd cc
  lacks_stops (instrs.Block r) s e = absurd cc
  lacks_stops (instrs.Loop r) s e = absurd cc
  lacks_stops (instrs.If r) s e = absurd cc
  lacks_stops instrs.Else s e = absurd cc
  lacks_stops instrs.End s e = absurd cc
  lacks_stops (instrs.Br l) s e = ap (λ o. stay s.around (option_and_then (λ rs. leaves_any rs s.known s.missing) o)) (label_past s.around l e)
  lacks_stops (instrs.BrIf l) s e = ap (λ o. stay s.around (option_and_then (λ rs. turn (I32 ∷ rs) rs s.known s.missing) o)) (label_past s.around l e)
  lacks_stops (instrs.BrTable ls l) s e = by (nat_lt l (length s.around)) refl e
    where
      table : List ValType → Option checks.Operands
      table rs = if all_have (labels_of s.around) ls rs then leaves_any (I32 ∷ rs) s.known s.missing else None

      none : (o : Option (List ValType)) → ((rs : List ValType) → table rs ≡ None) → option_and_then table o ≡ None
      none None h = refl
      none (Some rs) h = h rs

      by : (b : Bool) → nat_lt l (length s.around) ≡ b → (b && all_below (length s.around) ls) ≡ false → step c (instrs.BrTable ls l) s ≡ None
      by true q e = ap (λ o. stay s.around o) (none (slice_get (labels_of s.around) l) (λ rs. ap (λ b. if b then leaves_any (I32 ∷ rs) s.known s.missing else None) (not_all s.around ls rs e)))
      by false q e = ap (λ o. stay s.around (option_and_then table o)) (label_past s.around l q)
  lacks_stops instrs.Return s e = absurd cc
  lacks_stops (instrs.Call f) s e = lack (signature c (instrs.Call f)) s.known s.missing s.around (none (slice_get c.functions f) e)
    where
      none : (o : Option ℕ) → is_some (option_and_then (λ t. slice_get c.types t) o) ≡ false → option_and_then (λ t. option_map Rattle.wasm_typing.specs.Typing.of_type (slice_get c.types t)) o ≡ None
      none None h = refl
      none (Some t) h = map_none Rattle.wasm_typing.specs.Typing.of_type (slice_get c.types t) (no_some (slice_get c.types t) h)
  lacks_stops (instrs.CallIndirect t) s e = by (nat_lt 0 c.tables) refl e
    where
      by : (b : Bool) → nat_lt 0 c.tables ≡ b → (b && nat_lt t (length c.types)) ≡ false → step c (instrs.CallIndirect t) s ≡ None
      by true q e = lack (signature c (instrs.CallIndirect t)) s.known s.missing s.around (ap (λ b. if b then option_map Rattle.wasm_typing.specs.Typing.through_table (slice_get c.types t) else None) q ∙ map_none Rattle.wasm_typing.specs.Typing.through_table (slice_get c.types t) (get_past c.types t e))
      by false q e = lack (signature c (instrs.CallIndirect t)) s.known s.missing s.around (no_given c.tables (option_map Rattle.wasm_typing.specs.Typing.through_table (slice_get c.types t)) q)
  lacks_stops instrs.Drop s e = absurd cc
  lacks_stops instrs.Select s e = absurd cc
  lacks_stops (instrs.LocalGet x) s e = lack (signature c (instrs.LocalGet x)) s.known s.missing s.around (map_none _ (slice_get c.locals x) (get_past c.locals x e))
  lacks_stops (instrs.LocalSet x) s e = lack (signature c (instrs.LocalSet x)) s.known s.missing s.around (map_none _ (slice_get c.locals x) (get_past c.locals x e))
  lacks_stops (instrs.LocalTee x) s e = lack (signature c (instrs.LocalTee x)) s.known s.missing s.around (map_none _ (slice_get c.locals x) (get_past c.locals x e))
  lacks_stops (instrs.GlobalGet x) s e = lack (signature c (instrs.GlobalGet x)) s.known s.missing s.around (map_none _ (slice_get c.globals x) (get_past c.globals x e))
  lacks_stops (instrs.GlobalSet x) s e = lack (signature c (instrs.GlobalSet x)) s.known s.missing s.around (then_none _ (slice_get c.globals x) (get_past c.globals x e))
  lacks_stops (instrs.Load op at) s e = lack (signature c (instrs.Load op at)) s.known s.missing s.around (no_given c.memories _ e)
  lacks_stops (instrs.Store op at) s e = lack (signature c (instrs.Store op at)) s.known s.missing s.around (no_given c.memories _ e)
  lacks_stops instrs.MemorySize s e = lack (signature c instrs.MemorySize) s.known s.missing s.around (no_given c.memories _ e)
  lacks_stops instrs.MemoryGrow s e = lack (signature c instrs.MemoryGrow) s.known s.missing s.around (no_given c.memories _ e)
  lacks_stops instrs.MemoryCopy s e = lack (signature c instrs.MemoryCopy) s.known s.missing s.around (no_given c.memories _ e)
  lacks_stops instrs.MemoryFill s e = lack (signature c instrs.MemoryFill) s.known s.missing s.around (no_given c.memories _ e)
  lacks_stops (instrs.Float (floats.Load op at)) s e = lack (signature c (instrs.Float (floats.Load op at))) s.known s.missing s.around (no_given c.memories _ e)
  lacks_stops (instrs.Float (floats.Store op at)) s e = lack (signature c (instrs.Float (floats.Store op at))) s.known s.missing s.around (no_given c.memories _ e)
  lacks_stops (instrs.Float (floats.F32Const n)) s e = absurd cc
  lacks_stops (instrs.Float (floats.F64Const n)) s e = absurd cc
  lacks_stops (instrs.Float (floats.Unary op)) s e = absurd cc
  lacks_stops (instrs.Float (floats.Binary op)) s e = absurd cc
  lacks_stops (instrs.Float (floats.Truncate n)) s e = absurd cc
  lacks_stops (instrs.I32Const n) s e = absurd cc
  lacks_stops (instrs.I64Const n) s e = absurd cc
  lacks_stops (instrs.Unary op) s e = absurd cc
  lacks_stops (instrs.Binary op) s e = absurd cc

  -- how many blocks stand open behind an instruction
  stay_long : (fs : List Around) (o : Option checks.Operands) (t : State) → stay fs o ≡ Some t → length t.around ≡ length fs
  stay_long fs None t e = absurd cc
  stay_long fs (Some o) t e = let q : record { known = o.known; missing = o.missing; around = fs } ≡ t = cc in ap (λ (x : State). length x.around) (sym q)

  long_of : (x t : State) (n : ℕ) → Some x ≡ Some t → length x.around ≡ n → length t.around ≡ n
  long_of x t n e l = let q : x ≡ t = cc in subst (λ (y : State). length y.around ≡ n) q l

  if_long : (o : Option (List Operand)) (r : List ValType) (s t : State) → option_map (λ rest. opened checks.If r rest s.missing s.around) o ≡ Some t → length t.around ≡ length s.around + 1
  if_long None r s t e = absurd cc
  if_long (Some rest) r s t e = long_of (opened checks.If r rest s.missing s.around) t (length s.around + 1) e (omega arith)

  parted_long : (fs : List Around) (os : List Operand) (m : Bool) (t : State) → parted fs os m ≡ Some t → length t.around ≡ length fs
  parted_long [] os m t e = absurd cc
  parted_long (f ∷ fs) os m t e =
      let x = chosen (is_if f.frame && no_more (pops f.results os m)) (opened checks.Else f.results f.known f.missing fs) t e in
      ap (λ (y : State). length y.around) (sym x.1)

  ended_long : (fs : List Around) (os : List Operand) (m : Bool) (t : State) → ended fs os m ≡ Some t → length t.around ≡ length fs - 1
  ended_long [] os m t e = absurd cc
  ended_long (f ∷ fs) os m t e =
      let x = chosen (may_end f.frame f.results && no_more (pops f.results os m)) (behind f fs) t e in
      let l = ap (λ (y : State). length y.around) (sym x.1) in
      omega (arith, l)

  pub step_labels : (i : Instr) (s t : State) → step c i s ≡ Some t → length t.around ≡ labels_behind (i ∷ []) (length s.around)
  step_labels (instrs.Block r) s t e = long_of (opened checks.Block (option_to_list r) s.known s.missing s.around) t (length s.around + 1) e (omega arith)
  step_labels (instrs.Loop r) s t e = long_of (opened checks.Loop (option_to_list r) s.known s.missing s.around) t (length s.around + 1) e (omega arith)
  step_labels (instrs.If r) s t e = if_long (pop I32 s.known s.missing) (option_to_list r) s t e
  step_labels instrs.Else s t e = parted_long s.around s.known s.missing t e
  step_labels instrs.End s t e = ended_long s.around s.known s.missing t e
  step_labels i s t e = stay_long s.around (act c (labels_of s.around) i s.known s.missing) t e

labels_append : (is : List Instr) (i : Instr) (n : ℕ) → labels_behind (is ++ i ∷ []) n ≡ labels_behind (i ∷ []) (labels_behind is n)
labels_append [] i n = refl
labels_append (instrs.Block r ∷ is) i n = labels_append is i (n + 1)
labels_append (instrs.Loop r ∷ is) i n = labels_append is i (n + 1)
labels_append (instrs.If r ∷ is) i n = labels_append is i (n + 1)
labels_append (instrs.End ∷ is) i n = labels_append is i (n - 1)
labels_append (j ∷ is) i n = labels_append is i n

lt_or : (a b : ℕ) → (a < b) ⊎ (b ≤ a)
lt_or a b = ⊎_elim (λ p. inr p.1) (λ p. inl p.1) (leb_tells b a)

take_next : (xs : List Instr) (i : ℕ) (d : Instr) → i < length xs → take (i + 1) xs ≡ take i xs ++ get_or xs i d ∷ []
take_next [] i d lt = absurd (omega arith)
take_next (x ∷ xs) zero d lt = refl
take_next (x ∷ xs) (suc i) d lt =
    let e : suc i + 1 ≡ suc (i + 1) = omega arith in
    ap (λ (k : ℕ). take k (x ∷ xs)) e ∙ ap (λ (z : List Instr). x ∷ z) (take_next xs i d (omega arith))

take_all : (xs : List Instr) (n : ℕ) → length xs ≤ n → take n xs ≡ xs
take_all [] zero le = refl
take_all [] (suc n) le = refl
take_all (x ∷ xs) zero le = absurd (omega arith)
take_all (x ∷ xs) (suc n) le = ap (λ (z : List Instr). x ∷ z) (take_all xs n (omega arith))

module _ (c : Context) (code : List Instr) where
  -- where the loop stands
  pub record At (i : ℕ) (s : State) : Type 0 where
    pub ran : run c (take i code) (start c) ≡ Some s
    pub few : total s ≤ room
    pub labels : length s.around ≡ labels_behind (take i code) 1
    pub shallow : (j : ℕ) → j < i → CanBegin c room (take j code)

  pub at_start : (s : State) → s ≡ start c → At 0 s
  at_start s e = record {
    ran = run_none c (start c) ∙ ap (λ (x : State). Some x) (sym e);
    few = subst (λ (x : State). total x ≤ room) (sym e) (omega arith);
    labels = ap (λ (x : State). length x.around) e;
    shallow = λ j lt. absurd (omega arith);
  }

  module _ (i : ℕ) (s : State) (h : At i s) (x : Instr) (lt : i < length code) (is : x ≡ get_or code i x) where
    split : take (i + 1) code ≡ take i code ++ x ∷ []
    split = take_next code i x lt ∙ ap (λ (y : Instr). take i code ++ y ∷ []) (sym is)

    here : slice_get code i ≡ Some x
    here = slice_get-get_or code i x lt ∙ ap (λ (y : Instr). Some y) (sym is)

    stopped : step c x s ≡ None → run c (take (i + 1) code) (start c) ≡ None
    stopped e = ap (λ (y : List Instr). run c y (start c)) split ∙ run_append c (take i code) (x ∷ []) (start c) s h.ran ∙ run_stops c x [] s e

    before : IsNested code → (k : ℕ) → k ≤ i → CanBegin c room (take k code)
    before n k le =
        ⊎_elim
        (λ (m : k < i). h.shallow k m)
        (λ (m : i ≤ k). let q : i ≡ k = omega arith in subst (λ (j : ℕ). CanBegin c room (take j code)) q (can_begin c code i room s n lt h.ran h.few))
        (lt_or k i)

    pub goes_on : IsNested code → (t : State) → step c x s ≡ Some t → total t ≤ room → At (i + 1) t
    goes_on nest t e le = record {
      ran = ap (λ (y : List Instr). run c y (start c)) split ∙ run_append c (take i code) (x ∷ []) (start c) s h.ran ∙ run_next c x [] s t e ∙ run_none c t;
      few = le;
      shallow = λ j l. before nest j (omega arith);
      labels = step_labels c x s t e ∙ ap (λ (n : ℕ). labels_behind (x ∷ []) n) h.labels ∙ sym (labels_append (take i code) x 1) ∙ ap (λ (y : List Instr). labels_behind y 1) (sym split);
    }

    no_body : run c (take (i + 1) code) (start c) ≡ None → IsBody c (take (i + 1) code) → ⊥
    no_body z b = let w = body_complete c (take (i + 1) code) b in let q : None ≡ Some w.0 = sym z ∙ w.1 in absurd cc

    exists_is : (n : ℕ) (b : Bool) → n ≡ length s.around → exists c n x ≡ b → exists c (labels_behind (take i code) 1) x ≡ b
    exists_is n b e q = subst (λ (k : ℕ). exists c k x ≡ b) (e ∙ h.labels) q

    pub fails_70 : IsNested code → (n : ℕ) → n ≡ length s.around → exists c n x ≡ false → FailsAt c code i ValidIndex
    fails_70 nest n e q =
        let z = stopped (lacks_stops c x s (subst (λ (k : ℕ). exists c k x ≡ false) e q)) in
        record {
          within = lt;
          begins = before nest;
          ends_begun = cannot_begin c (take (i + 1) code) room z;
          no_body = no_body z;
          breaks = inl (refl, (x, here, exists_is n false e q));
        }

    pub fails_71 : IsNested code → (n : ℕ) → n ≡ length s.around → exists c n x ≡ true → step c x s ≡ None → FailsAt c code i ValidType
    fails_71 nest n e q st =
        let z = stopped st in
        record {
          within = lt;
          begins = before nest;
          ends_begun = cannot_begin c (take (i + 1) code) room z;
          no_body = no_body z;
          breaks = inr (inr (refl, (x, here, exists_is n true e q), λ k. cannot_begin c (take (i + 1) code) k z));
        }

  known_long : (ts : List ValType) → length (checks.known ts) ≡ length ts
  known_long [] = refl
  known_long (t ∷ ts) = omega (arith, known_long ts)

  -- behind a typed body stand its results alone
  whole_few : (is : List Instr) (t : State) → IsBody c is → run c is (start c) ≡ Some t → length c.returns ≤ 1 → total t ≤ room
  whole_few is t b h short =
      let f = around_is c checks.Block c.returns [] false in
      let x = complete c b.0 (start c) [] c.returns b.2 refl in
      let z = closes c x.0 f [] x.2 refl x.3 in
      let r = ap (λ (y : List Instr). run c y (start c)) b.1 ∙ run_append c (flat b.0) (instrs.End ∷ []) (start c) x.0 x.1 ∙ run_next c instrs.End [] x.0 (behind f []) z ∙ run_none c (behind f []) in
      let q : behind f [] ≡ t = let e = sym r ∙ h in cc in
      let w = ap total (sym q) in
      omega (arith, w, length-append (checks.known c.returns) [], known_long c.returns)

  last_few : (i : ℕ) (t : State) → IsNested code → length c.returns ≤ 1 → length code ≤ i → run c (take i code) (start c) ≡ Some t → total t ≤ room
  last_few i t n short le h =
      let r : run c code (start c) ≡ Some t = ap (λ (y : List Instr). run c y (start c)) (sym (take_all code i le)) ∙ h in
      whole_few code t (body_sound c code t n r) r short

  pub fails_79 : (i : ℕ) (s t : State) (h : At i s) (x : Instr) (lt : i < length code) (is : x ≡ get_or code i x) → IsNested code → length c.returns ≤ 1 → (n : ℕ) → n ≡ length s.around → exists c n x ≡ true → step c x s ≡ Some t → nat_le (total t) 1024 ≡ false → FailsAt c code i ValidLimit
  fails_79 i s t h x lt is nest short n e q st few =
      let r : run c (take (i + 1) code) (start c) ≡ Some t = ap (λ (y : List Instr). run c y (start c)) (split i s h x lt is) ∙ run_append c (take i code) (x ∷ []) (start c) s h.ran ∙ run_next c x [] s t st ∙ run_none c t in
      let many : room < total t = ⊎_elim (λ p. absurd (let z : true ≡ false = sym p.0 ∙ few in cc)) (λ p. p.1) (leb_tells (total t) 1024) in
      let inside : i + 1 < length code = ⊎_elim (λ (l : length code ≤ i + 1). absurd (omega (arith, last_few (i + 1) t nest short l r, many))) (λ (l : i + 1 < length code). l) (le_or (length code) (i + 1)) in
      let no_whole : IsBody c (take (i + 1) code) → ⊥ = λ b. let w = body_complete c (take (i + 1) code) b in let q : w.0 ≡ t = (let e = sym w.1 ∙ r in cc) in omega (arith, whole_few (take (i + 1) code) w.0 b w.1 short, ap total q, many) in
      record {
        within = lt;
        begins = before i s h x lt is nest;
        ends_begun = too_many c (take (i + 1) code) room t r many;
        no_body = no_whole;
        breaks = inr (inl (refl, (x, here i s h x lt is, exists_is i s h x lt is n true e q), (total t, can_begin c code (i + 1) (total t) t nest inside r (omega arith))));
      }
    where
      le_or : (a b : ℕ) → (a ≤ b) ⊎ (b < a)
      le_or a b = ⊎_elim (λ p. inl p.1) (λ p. inr p.1) (leb_tells a b)

  pub typed : (i : ℕ) (s : State) → At i s → IsNested code → length code ≤ i → IsBody c code × IsShallow c code
  typed i s h n le = (body_sound c code s n (ap (λ (y : List Instr). run c y (start c)) (sym (take_all code i le)) ∙ h.ran), λ j lt. h.shallow j (omega arith))

  -- a body that keeps the rules has no instruction that fails
  pub fails_not : IsBody c code → IsShallow c code → (i number : ℕ) → FailsAt c code i number → ⊥
  fails_not b s i number f =
      ⊎_elim
      (λ (lt : i + 1 < length code). f.ends_begun (s (i + 1) lt))
      (λ (le : length code ≤ i + 1). f.no_body (subst (λ (x : List Instr). IsBody c x) (sym (take_all code (i + 1) le)) b))
      (lt_or (i + 1) (length code))

  -- an instruction that fails does so alone, and by one rule
  lacks_not : (i : ℕ) → Lacks c code i → Exists c code i → ⊥
  lacks_not i a b =
      let q : Some a.0 ≡ Some b.0 = sym a.1 ∙ b.1 in
      let e : a.0 ≡ b.0 = cc in
      let z : false ≡ true = sym a.2 ∙ ap (λ (x : Instr). exists c (labels_behind (take i code) 1) x) e ∙ b.2 in
      absurd cc

  one_number : (i n k : ℕ) → NumberAt c code i n → NumberAt c code i k → n ≡ k
  one_number i n k (inl f) (inl g) = f.0 ∙ sym g.0
  one_number i n k (inl f) (inr (inl g)) = absurd (lacks_not i f.1 g.1)
  one_number i n k (inl f) (inr (inr g)) = absurd (lacks_not i f.1 g.1)
  one_number i n k (inr (inl f)) (inl g) = absurd (lacks_not i g.1 f.1)
  one_number i n k (inr (inr f)) (inl g) = absurd (lacks_not i g.1 f.1)
  one_number i n k (inr (inl f)) (inr (inl g)) = f.0 ∙ sym g.0
  one_number i n k (inr (inl f)) (inr (inr g)) = absurd (g.2 f.2.0 f.2.1)
  one_number i n k (inr (inr f)) (inr (inl g)) = absurd (f.2 g.2.0 g.2.1)
  one_number i n k (inr (inr f)) (inr (inr g)) = f.0 ∙ sym g.0

  not_before : (i j n k : ℕ) → FailsAt c code i n → FailsAt c code j k → i < j → ⊥
  not_before i j n k f g lt = f.ends_begun (g.begins (i + 1) (omega arith))

  pub one_place : (i j n k : ℕ) → FailsAt c code i n → FailsAt c code j k → i ≡ j
  one_place i j n k f g =
      ⊎_elim
      (λ (lt : i < j). absurd (not_before i j n k f g lt))
      (λ (le : j ≤ i). ⊎_elim (λ (lt : j < i). absurd (not_before j i k n g f lt)) (λ (m : i ≤ j). omega arith) (lt_or j i))
      (lt_or i j)

  pub one_failure : (i j n k : ℕ) → FailsAt c code i n → FailsAt c code j k → n ≡ k
  one_failure i j n k f g =
      let e = one_place i j n k f g in
      one_number i n k f.breaks (subst (λ (x : ℕ). NumberAt c code x k) (sym e) g.breaks)

pub le_of : (a b : ℕ) → nat_le a b ≡ true → a ≤ b
le_of a b e = leb-true a b e

pub one_at_most : (r : Option ValType) → length (option_to_list r) ≤ 1
one_at_most None = omega arith
one_at_most (Some t) = omega arith
