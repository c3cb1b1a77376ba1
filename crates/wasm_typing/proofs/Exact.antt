-- The validator's operands stand for exactly the operand lists with which the code so far is typed.
use Rattle.std.proofs.Common.{◌≡◌, ℕ, ◌≤◌, List, [], ◌∷◌, ◌++◌, length, Option, Some, None, Bool, true, false, ◌&&◌, refl, sym, ap, subst, ◌∙◌, arith}
use Rattle.std.specs.Prelude.{slice_get, option_to_list, option_map, option_and_then, if◌then◌else◌}
use Rattle.std.proofs.lemmas.Bool.{and_parts, and_from}
use Rattle.wasm_code.specs.declared.types.ValType.{ValType}
use Rattle.wasm_code.specs.declared.types.ValType.TheVariants.{I32, I64, F32, F64}
use Rattle.wasm_code.specs.declared.instr.Instr.{Instr}
use Rattle.wasm_code.specs.declared.instr.Instr.TheVariants as instrs
use Rattle.wasm_code.specs.Code.{Kind, Block, Loop, If, Code, Done, Then, In, Both, flat, head, is_plain, IsPlain}
use Rattle.wasm_typing.specs.Typing.{Context, Signature, signature, Turns, TurnsBy, AllHave, Steps, label, Enters, Ends, Types}
use Rattle.wasm_typing.specs.Checking as checks
use Rattle.wasm_typing.specs.Checking.{Operand, same_type, is_type, same_types, Operands, Frame, Around, State, pop, pops, pop_any, meet, select, known, turn, any, leaves_any, is_same, has_label, all_have, no_more, label_of, may_end, labels_of, opened, behind, is_if, parted, ended, stay, act, step, run, start}

bind_some : {A B : Type 0} (o : Option A) (f : A → Option B) (y : B) → option_and_then f o ≡ Some y → (x : A) × (o ≡ Some x) × (f x ≡ Some y)
bind_some None f y e = absurd cc
bind_some (Some x) f y e = (x, refl, e)

map_some : {A B : Type 0} (o : Option A) (f : A → B) (y : B) → option_map f o ≡ Some y → (x : A) × (o ≡ Some x) × (f x ≡ y)
map_some None f y e = absurd cc
map_some (Some x) f y e = (x, refl, cc)

pub chosen : {A : Type 0} (b : Bool) (x y : A) → (if b then Some x else None) ≡ Some y → (b ≡ true) × (x ≡ y)
chosen true x y e = (refl, cc)
chosen false x y e = absurd cc

-- the same where what is chosen may be none
chosen_from : {A : Type 0} (b : Bool) (x : Option A) (y : A) → (if b then x else None) ≡ Some y → (b ≡ true) × (x ≡ Some y)
chosen_from true x y e = (refl, e)
chosen_from false x y e = absurd cc

append-nil : {X : Type 0} (xs : List X) → xs ++ [] ≡ xs
append-nil [] = refl
append-nil (x ∷ xs) = ap (λ ys. x ∷ ys) (append-nil xs)

-- the operand lists that known operands, and perhaps missing ones below, stand for
abbrev pub Denotes : List Operand → Bool → List ValType → Type 0
Denotes [] false ts = ts ≡ []
Denotes [] true ts = Unit {0}
Denotes (o ∷ os) m [] = ⊥
Denotes (o ∷ os) m (t ∷ ts) = (is_type t o ≡ true) × Denotes os m ts

type_refl : (t : ValType) → same_type t t ≡ true
type_refl I32 = refl
type_refl I64 = refl
type_refl F32 = refl
type_refl F64 = refl

type_is : (t u : ValType) → same_type t u ≡ true → t ≡ u
type_is I32 I32 e = refl
type_is I32 I64 e = absurd cc
type_is I32 F32 e = absurd cc
type_is I32 F64 e = absurd cc
type_is I64 I32 e = absurd cc
type_is I64 I64 e = refl
type_is I64 F32 e = absurd cc
type_is I64 F64 e = absurd cc
type_is F32 I32 e = absurd cc
type_is F32 I64 e = absurd cc
type_is F32 F32 e = refl
type_is F32 F64 e = absurd cc
type_is F64 I32 e = absurd cc
type_is F64 I64 e = absurd cc
type_is F64 F32 e = absurd cc
type_is F64 F64 e = refl

types_refl : (ts : List ValType) → same_types ts ts ≡ true
types_refl [] = refl
types_refl (t ∷ ts) = and_from (same_type t t) (same_types ts ts) (type_refl t) (types_refl ts)

types_is : (ts us : List ValType) → same_types ts us ≡ true → ts ≡ us
types_is [] [] e = refl
types_is [] (u ∷ us) e = absurd cc
types_is (t ∷ ts) [] e = absurd cc
types_is (t ∷ ts) (u ∷ us) e =
    let b = and_parts (same_type t u) (same_types ts us) e in
    ap (λ x. x ∷ ts) (type_is t u b.0) ∙ ap (λ (x : List ValType). u ∷ x) (types_is ts us b.1)

some_type : (o : Operand) → (t : ValType) × (is_type t o ≡ true)
some_type None = (I32, refl)
some_type (Some t) = (t, type_refl t)

-- each denotes a list that is no longer than what is known
pub least : (os : List Operand) (m : Bool) → (ts : List ValType) × Denotes os m ts × (length ts ≡ length os)
least [] true = ([], tt, refl)
least [] false = ([], refl, refl)
least (o ∷ os) m = let t = some_type o in let r = least os m in (t.0 ∷ r.0, (t.1, r.1), omega (arith, r.2))

pub no_shorter : (os : List Operand) (m : Bool) (ts : List ValType) → Denotes os m ts → length os ≤ length ts
no_shorter [] m ts h = omega arith
no_shorter (o ∷ os) m [] h = absurd h
no_shorter (o ∷ os) m (t ∷ ts) h = omega (arith, no_shorter os m ts h.1)

pop_to : (t : ValType) (os : List Operand) (m : Bool) (ts : List ValType) → Denotes os m (t ∷ ts) → (r : List Operand) × (pop t os m ≡ Some r) × Denotes r m ts
pop_to t [] true ts h = ([], refl, tt)
pop_to t [] false ts h = absurd cc
pop_to t (o ∷ os) m ts h = (os, ap (λ b. if b then Some os else None) h.0, h.1)

pop_back : (t : ValType) (os : List Operand) (m : Bool) (r : List Operand) (ts : List ValType) → pop t os m ≡ Some r → Denotes r m ts → Denotes os m (t ∷ ts)
pop_back t [] true r ts e h = tt
pop_back t [] false r ts e h = absurd cc
pop_back t (o ∷ os) m r ts e h = let c = chosen (is_type t o) os r e in (c.0, subst (λ x. Denotes x m ts) (sym c.1) h)

pops_to : (rs : List ValType) (os : List Operand) (m : Bool) (ts : List ValType) → Denotes os m (rs ++ ts) → (r : List Operand) × (pops rs os m ≡ Some r) × Denotes r m ts
pops_to [] os m ts h = (os, refl, h)
pops_to (t ∷ rs) os m ts h =
    let p = pop_to t os m (rs ++ ts) h in
    let q = pops_to rs p.0 m ts p.2 in
    (q.0, ap (λ o. option_and_then (λ rest. pops rs rest m) o) p.1 ∙ q.1, q.2)

pops_back : (rs : List ValType) (os : List Operand) (m : Bool) (r : List Operand) (ts : List ValType) → pops rs os m ≡ Some r → Denotes r m ts → Denotes os m (rs ++ ts)
pops_back [] os m r ts e h = let q : os ≡ r = cc in subst (λ x. Denotes x m ts) (sym q) h
pops_back (t ∷ rs) os m r ts e h =
    let b = bind_some (pop t os m) (λ rest. pops rs rest m) r e in
    pop_back t os m b.0 (rs ++ ts) b.1 (pops_back rs b.0 m r ts b.2 h)

gives_to : (gs : List ValType) (os : List Operand) (m : Bool) (ts : List ValType) → Denotes os m ts → Denotes (known gs ++ os) m (gs ++ ts)
gives_to [] os m ts h = h
gives_to (g ∷ gs) os m ts h = (type_refl g, gives_to gs os m ts h)

gives_back : (gs : List ValType) (os : List Operand) (m : Bool) (us : List ValType) → Denotes (known gs ++ os) m us → (ts : List ValType) × (us ≡ gs ++ ts) × Denotes os m ts
gives_back [] os m us h = (us, refl, h)
gives_back (g ∷ gs) os m [] h = absurd h
gives_back (g ∷ gs) os m (u ∷ us) h =
    let r = gives_back gs os m us h.1 in
    (r.0, ap (λ x. x ∷ us) (type_is u g h.0) ∙ ap (λ (x : List ValType). g ∷ x) r.1, r.2)

turn_to : (takes leaves : List ValType) (os : List Operand) (m : Bool) (ts us : List ValType) → Denotes os m ts → Turns takes leaves ts us → (o : Operands) × (turn takes leaves os m ≡ Some o) × Denotes o.known o.missing us
turn_to takes leaves os m ts us h t =
    let p = pops_to takes os m t.0 (subst (λ x. Denotes os m x) t.1 h) in
    (record { known = known leaves ++ p.0; missing = m }, ap (λ o. option_map (λ rest. record { known = known leaves ++ rest; missing = m }) o) p.1, subst (λ x. Denotes (known leaves ++ p.0) m x) (sym t.2) (gives_to leaves p.0 m t.0 p.2))

turn_back : (takes leaves : List ValType) (os : List Operand) (m : Bool) (o : Operands) (us : List ValType) → turn takes leaves os m ≡ Some o → Denotes o.known o.missing us → (ts : List ValType) × Denotes os m ts × Turns takes leaves ts us
turn_back takes leaves os m o us e h =
    let p = map_some (pops takes os m) (λ rest. record { known = known leaves ++ rest; missing = m }) o e in
    let h' = subst (λ (x : Operands). Denotes x.known x.missing us) (sym p.2) h in
    let g = gives_back leaves p.0 m us h' in
    (takes ++ g.0, pops_back takes os m p.0 g.0 p.1 g.2, (g.0, refl, g.1))

by_to : (s : Option Signature) (os : List Operand) (m : Bool) (ts us : List ValType) → Denotes os m ts → TurnsBy s ts us → (o : Operands) × (option_and_then (λ s. turn s.0 s.1 os m) s ≡ Some o) × Denotes o.known o.missing us
by_to None os m ts us h t = absurd t
by_to (Some s) os m ts us h t = turn_to s.0 s.1 os m ts us h t

by_back : (s : Option Signature) (os : List Operand) (m : Bool) (o : Operands) (us : List ValType) → option_and_then (λ s. turn s.0 s.1 os m) s ≡ Some o → Denotes o.known o.missing us → (ts : List ValType) × Denotes os m ts × TurnsBy s ts us
by_back None os m o us e h = absurd cc
by_back (Some s) os m o us e h = turn_back s.0 s.1 os m o us e h

any_to : (takes : List ValType) (os : List Operand) (m : Bool) (ts : List ValType) → Denotes os m (takes ++ ts) → leaves_any takes os m ≡ Some any
any_to takes os m ts h = let p = pops_to takes os m ts h in ap (λ o. option_map (λ rest. any) o) p.1

any_back : (takes : List ValType) (os : List Operand) (m : Bool) (o : Operands) → leaves_any takes os m ≡ Some o → (rest : List ValType) × Denotes os m (takes ++ rest)
any_back takes os m o e =
    let p = map_some (pops takes os m) (λ rest. any) o e in
    let w = least p.0 m in
    (w.0, pops_back takes os m p.0 w.0 p.1 w.1)

pop_any_to : (t : ValType) (os : List Operand) (m : Bool) (ts : List ValType) → Denotes os m (t ∷ ts) → (r : List Operand) × (pop_any os m ≡ Some r) × Denotes r m ts
pop_any_to t [] true ts h = ([], refl, tt)
pop_any_to t [] false ts h = absurd cc
pop_any_to t (o ∷ os) m ts h = (os, refl, h.1)

pop_any_back : (os : List Operand) (m : Bool) (r : List Operand) (ts : List ValType) → pop_any os m ≡ Some r → Denotes r m ts → (t : ValType) × Denotes os m (t ∷ ts)
pop_any_back [] true r ts e h = (I32, tt)
pop_any_back [] false r ts e h = absurd cc
pop_any_back (o ∷ os) m r ts e h =
    let t = some_type o in let q : os ≡ r = cc in (t.0, (t.1, subst (λ x. Denotes x m ts) (sym q) h))

-- ---- select

meet_to : (t : ValType) (o p : Operand) → is_type t o ≡ true → is_type t p ≡ true → (q : Operand) × (meet o p ≡ Some q) × (is_type t q ≡ true)
meet_to t None p h k = (p, refl, k)
meet_to t (Some a) None h k = (Some a, refl, h)
meet_to t (Some a) (Some b) h k =
    let e : a ≡ b = sym (type_is t a h) ∙ type_is t b k in
    let s : same_type a b ≡ true = subst (λ x. same_type a x ≡ true) e (type_refl a) in
    (Some a, ap (λ c. if c then Some (Some a) else None) s, h)

meet_back : (t : ValType) (o p q : Operand) → meet o p ≡ Some q → is_type t q ≡ true → (is_type t o ≡ true) × (is_type t p ≡ true)
meet_back t None p q e h = let z : p ≡ q = cc in (refl, subst (λ x. is_type t x ≡ true) (sym z) h)
meet_back t (Some a) None q e h = let z : Some a ≡ q = cc in (subst (λ x. is_type t x ≡ true) (sym z) h, refl)
meet_back t (Some a) (Some b) q e h =
    let c = chosen (same_type a b) (Some a) q e in
    let w : is_type t (Some a) ≡ true = subst (λ (x : Operand). is_type t x ≡ true) (sym c.1) h in
    (w, subst (λ x. same_type t x ≡ true) (type_is a b c.0) w)

select_to : (t : ValType) (os : List Operand) (m : Bool) (us : List ValType) → Denotes os m (t ∷ t ∷ us) → (o : Operands) × (select os m ≡ Some o) × Denotes o.known o.missing (t ∷ us)
select_to t [] true us h = (record { known = None ∷ []; missing = true }, refl, (refl, tt))
select_to t [] false us h = absurd cc
select_to t (o ∷ []) true us h = (record { known = o ∷ []; missing = true }, refl, (h.0, tt))
select_to t (o ∷ []) false us h = absurd (let z = h.1 in cc)
select_to t (o ∷ p ∷ os) m us h =
    let q = meet_to t o p h.0 h.1.0 in
    (record { known = q.0 ∷ os; missing = m }, ap (λ x. option_map (λ q. record { known = q ∷ os; missing = m }) x) q.1, (q.2, h.1.1))

abbrev Selected : List Operand → Bool → List ValType → Type 0
Selected os m vs = (t : ValType) × (us : List ValType) × (vs ≡ t ∷ us) × Denotes os m (t ∷ t ∷ us)

one_back : (o : Operand) (vs : List ValType) → Denotes (o ∷ []) true vs → (t : ValType) × (us : List ValType) × (vs ≡ t ∷ us) × (is_type t o ≡ true)
one_back o [] h = absurd h
one_back o (t ∷ us) h = (t, us, refl, h.0)

more_back : (q : Operand) (os : List Operand) (m : Bool) (vs : List ValType) → Denotes (q ∷ os) m vs → (t : ValType) × (us : List ValType) × (vs ≡ t ∷ us) × (is_type t q ≡ true) × Denotes os m us
more_back q os m [] h = absurd h
more_back q os m (t ∷ us) h = (t, us, refl, h.0, h.1)

select_back : (os : List Operand) (m : Bool) (o : Operands) (vs : List ValType) → select os m ≡ Some o → Denotes o.known o.missing vs → Selected os m vs
select_back [] true o vs e h =
    let q : record { known = None ∷ []; missing = true } ≡ o = cc in
    let b = one_back None vs (subst (λ (x : Operands). Denotes x.known x.missing vs) (sym q) h) in
    (b.0, b.1, b.2, tt)
select_back [] false o vs e h = absurd cc
select_back (p ∷ []) true o vs e h =
    let q : record { known = p ∷ []; missing = true } ≡ o = cc in
    let b = one_back p vs (subst (λ (x : Operands). Denotes x.known x.missing vs) (sym q) h) in
    (b.0, b.1, b.2, (b.3, tt))
select_back (p ∷ []) false o vs e h = absurd cc
select_back (p ∷ r ∷ os) m o vs e h =
    let q = map_some (meet p r) (λ q. record { known = q ∷ os; missing = m }) o e in
    let b = more_back q.0 os m vs (subst (λ (x : Operands). Denotes x.known x.missing vs) (sym q.2) h) in
    let w = meet_back b.0 p r q.0 q.1 b.3 in
    (b.0, b.1, b.2, (w.0, (w.1, b.4)))

-- ---- labels of a br_table

label_has : (labels : List (List ValType)) (l : ℕ) (rs : List ValType) → slice_get labels l ≡ Some rs → has_label labels l rs ≡ true
label_has labels l rs e = ap (λ o. is_same o rs) e ∙ types_refl rs

label_is : (o : Option (List ValType)) (rs : List ValType) → is_same o rs ≡ true → o ≡ Some rs
label_is None rs e = absurd cc
label_is (Some ts) rs e = ap (λ (x : List ValType). Some x) (types_is ts rs e)

all_to : (labels : List (List ValType)) (ls : List ℕ) (rs : List ValType) → AllHave labels ls rs → all_have labels ls rs ≡ true
all_to labels [] rs h = refl
all_to labels (l ∷ ls) rs h = and_from (has_label labels l rs) (all_have labels ls rs) (label_has labels l rs h.0) (all_to labels ls rs h.1)

all_back : (labels : List (List ValType)) (ls : List ℕ) (rs : List ValType) → all_have labels ls rs ≡ true → AllHave labels ls rs
all_back labels [] rs e = tt
all_back labels (l ∷ ls) rs e =
    let b = and_parts (has_label labels l rs) (all_have labels ls rs) e in
    (label_is (slice_get labels l) rs b.0, all_back labels ls rs b.1)

-- ---- one instruction

module _ (c : Context) where
  act_to : (labels : List (List ValType)) (i : Instr) (os : List Operand) (m : Bool) (ts us : List ValType) → Denotes os m ts → Steps c labels i ts us → (o : Operands) × (act c labels i os m ≡ Some o) × Denotes o.known o.missing us
  act_to labels instrs.Unreachable os m ts us h t = (any, refl, tt)
  act_to labels (instrs.Br l) os m ts us h t =
      (any, ap (λ o. option_and_then (λ rs. leaves_any rs os m) o) t.2 ∙ any_to t.0 os m t.1 (subst (λ x. Denotes os m x) t.3 h), tt)
  act_to labels (instrs.BrIf l) os m ts us h t =
      let p = turn_to (I32 ∷ t.0) t.0 os m ts us h t.2 in
      (p.0, ap (λ o. option_and_then (λ rs. turn (I32 ∷ rs) rs os m) o) t.1 ∙ p.1, p.2)
  act_to labels (instrs.BrTable ls l) os m ts us h t = (
    any,
    ap (λ o. option_and_then (λ rs. if all_have labels ls rs then leaves_any (I32 ∷ rs) os m else None) o) t.2
        ∙ ap (λ b. if b then leaves_any (I32 ∷ t.0) os m else None) (all_to labels ls t.0 t.3)
        ∙ any_to (I32 ∷ t.0) os m t.1 (subst (λ x. Denotes os m x) t.4 h),
    tt,
  )
  act_to labels instrs.Return os m ts us h t = (any, any_to c.returns os m t.0 (subst (λ x. Denotes os m x) t.1 h), tt)
  act_to labels instrs.Drop os m ts us h t =
      let p = pop_any_to t.0 os m t.1.0 (subst (λ x. Denotes os m x) t.1.1 h) in
      (record { known = p.0; missing = m }, ap (λ o. option_map (λ rest. record { known = rest; missing = m }) o) p.1, subst (λ x. Denotes p.0 m x) (sym t.1.2) p.2)
  act_to labels instrs.Select os m ts us h t =
      let p = pop_to I32 os m (t.0 ∷ t.0 ∷ t.1.0) (subst (λ x. Denotes os m x) t.1.1 h) in
      let q = select_to t.0 p.0 m t.1.0 p.2 in
      (q.0, ap (λ o. option_and_then (λ rest. select rest m) o) p.1 ∙ q.1, subst (λ x. Denotes q.0.known q.0.missing x) (sym t.1.2) q.2)
  act_to labels (instrs.Block r) os m ts us h t = absurd t
  act_to labels (instrs.Loop r) os m ts us h t = absurd t
  act_to labels (instrs.If r) os m ts us h t = absurd t
  act_to labels instrs.Else os m ts us h t = absurd t
  act_to labels instrs.End os m ts us h t = absurd t
  act_to labels i os m ts us h t = by_to (signature c i) os m ts us h t

  act_back : (labels : List (List ValType)) (i : Instr) (os : List Operand) (m : Bool) (o : Operands) (us : List ValType) → act c labels i os m ≡ Some o → Denotes o.known o.missing us → (ts : List ValType) × Denotes os m ts × Steps c labels i ts us
  act_back labels instrs.Unreachable os m o us e h = let w = least os m in (w.0, w.1, tt)
  act_back labels (instrs.Br l) os m o us e h =
      let b = bind_some (slice_get labels l) (λ rs. leaves_any rs os m) o e in
      let p = any_back b.0 os m o b.2 in
      (b.0 ++ p.0, p.1, (b.0, p.0, b.1, refl))
  act_back labels (instrs.BrIf l) os m o us e h =
      let b = bind_some (slice_get labels l) (λ rs. turn (I32 ∷ rs) rs os m) o e in
      let t = turn_back (I32 ∷ b.0) b.0 os m o us b.2 h in
      (t.0, t.1, (b.0, b.1, t.2))
  act_back labels (instrs.BrTable ls l) os m o us e h =
      let b = bind_some (slice_get labels l) (λ rs. if all_have labels ls rs then leaves_any (I32 ∷ rs) os m else None) o e in
      let d = chosen_from (all_have labels ls b.0) (leaves_any (I32 ∷ b.0) os m) o b.2 in
      let p = any_back (I32 ∷ b.0) os m o d.1 in
      (I32 ∷ (b.0 ++ p.0), p.1, (b.0, p.0, b.1, all_back labels ls b.0 d.0, refl))
  act_back labels instrs.Return os m o us e h =
      let p = any_back c.returns os m o e in
      (c.returns ++ p.0, p.1, (p.0, refl))
  act_back labels instrs.Drop os m o us e h =
      let p = map_some (pop_any os m) (λ rest. record { known = rest; missing = m }) o e in
      let h' = subst (λ (x : Operands). Denotes x.known x.missing us) (sym p.2) h in
      let q = pop_any_back os m p.0 us p.1 h' in
      (q.0 ∷ us, q.1, (q.0, (us, refl, refl)))
  act_back labels instrs.Select os m o us e h =
      let b = bind_some (pop I32 os m) (λ rest. select rest m) o e in
      let q = select_back b.0 m o us b.2 h in
      (I32 ∷ q.0 ∷ q.0 ∷ q.1, pop_back I32 os m b.0 (q.0 ∷ q.0 ∷ q.1) b.1 q.3, (q.0, (q.1, refl, q.2)))
  act_back labels i os m o us e h = by_back (signature c i) os m o us e h

  steps_plain : (labels : List (List ValType)) (i : Instr) (ts us : List ValType) → Steps c labels i ts us → is_plain i ≡ true
  steps_plain labels (instrs.Block r) ts us t = absurd t
  steps_plain labels (instrs.Loop r) ts us t = absurd t
  steps_plain labels (instrs.If r) ts us t = absurd t
  steps_plain labels instrs.Else ts us t = absurd t
  steps_plain labels instrs.End ts us t = absurd t
  steps_plain labels i ts us t = refl

  pub step_plain : (i : Instr) (s : State) → is_plain i ≡ true → step c i s ≡ stay s.around (act c (labels_of s.around) i s.known s.missing)
  step_plain (instrs.Block r) s e = absurd cc
  step_plain (instrs.Loop r) s e = absurd cc
  step_plain (instrs.If r) s e = absurd cc
  step_plain instrs.Else s e = absurd cc
  step_plain instrs.End s e = absurd cc
  step_plain i s e = refl

-- ---- blocks

abbrev pub frame_of : Kind → Frame
frame_of Block = checks.Block
frame_of Loop = checks.Loop
frame_of If = checks.If

pub label_same : (k : Kind) (r : Option ValType) → label_of (frame_of k) (option_to_list r) ≡ label k r
label_same Block r = refl
label_same Loop r = refl
label_same If r = refl

ends_to : (k : Kind) (r : Option ValType) → Ends k r → may_end (frame_of k) (option_to_list r) ≡ true
ends_to Block r h = refl
ends_to Loop r h = refl
ends_to If None h = refl
ends_to If (Some t) h = absurd cc

ends_back : (k : Kind) (r : Option ValType) → may_end (frame_of k) (option_to_list r) ≡ true → Ends k r
ends_back Block r h = tt
ends_back Loop r h = tt
ends_back If None h = refl
ends_back If (Some t) h = absurd cc

module _ (c : Context) where
  pub enter_to : (k : Kind) (r : Option ValType) (s : State) (ts vs : List ValType) → Enters k ts vs → Denotes s.known s.missing ts → (os : List Operand) × (step c (head k r) s ≡ Some (opened (frame_of k) (option_to_list r) os s.missing s.around)) × Denotes os s.missing vs
  enter_to Block r s ts vs e d = (s.known, refl, subst (λ x. Denotes s.known s.missing x) e d)
  enter_to Loop r s ts vs e d = (s.known, refl, subst (λ x. Denotes s.known s.missing x) e d)
  enter_to If r s ts vs e d =
      let p = pop_to I32 s.known s.missing vs (subst (λ x. Denotes s.known s.missing x) e d) in
      (p.0, ap (λ o. option_map (λ rest. opened checks.If (option_to_list r) rest s.missing s.around) o) p.1, p.2)

  abbrev pub Entered : Kind → Option ValType → State → State → Type 0
  Entered k r s t =
      (os : List Operand) × (t ≡ opened (frame_of k) (option_to_list r) os s.missing s.around)
      × ((vs : List ValType) → Denotes os s.missing vs → (ts : List ValType) × Denotes s.known s.missing ts × Enters k ts vs)

  pub enter_back : (k : Kind) (r : Option ValType) (s t : State) → step c (head k r) s ≡ Some t → Entered k r s t
  enter_back Block r s t e = let q : opened checks.Block (option_to_list r) s.known s.missing s.around ≡ t = cc in (s.known, sym q, λ vs d. (vs, d, refl))
  enter_back Loop r s t e = let q : opened checks.Loop (option_to_list r) s.known s.missing s.around ≡ t = cc in (s.known, sym q, λ vs d. (vs, d, refl))
  enter_back If r s t e =
      let p = map_some (pop I32 s.known s.missing) (λ rest. opened checks.If (option_to_list r) rest s.missing s.around) t e in
      (p.0, sym p.2, λ vs d. (I32 ∷ vs, pop_back I32 s.known s.missing p.0 vs p.1 d, refl))

  pub run_next : (i : Instr) (is : List Instr) (s t : State) → step c i s ≡ Some t → run c (i ∷ is) s ≡ run c is t
  unfolding run
  run_next i is s t e = ap (λ o. option_and_then (run c is) o) e

  pub run_none : (s : State) → run c [] s ≡ Some s
  unfolding run
  run_none s = refl

  pub run_first : (i : Instr) (is : List Instr) (s q : State) → run c (i ∷ is) s ≡ Some q → (t : State) × (step c i s ≡ Some t) × (run c is t ≡ Some q)
  unfolding run
  run_first i is s q e = bind_some (step c i s) (run c is) q e

  pub run_stops : (i : Instr) (is : List Instr) (s : State) → step c i s ≡ None → run c (i ∷ is) s ≡ None
  unfolding run
  run_stops i is s e = ap (λ o. option_and_then (run c is) o) e

  pub run_append : (is js : List Instr) (s t : State) → run c is s ≡ Some t → run c (is ++ js) s ≡ run c js t
  run_append [] js s t e = let q : s ≡ t = let e' = sym (run_none s) ∙ e in cc in ap (λ x. run c js x) q
  run_append (i ∷ is) js s t e =
      let f = run_first i is s t e in
      run_next i (is ++ js) s f.0 f.1 ∙ run_append is js f.0 t f.2

  pub run_split : (is js : List Instr) (s q : State) → run c (is ++ js) s ≡ Some q → (t : State) × (run c is s ≡ Some t) × (run c js t ≡ Some q)
  run_split [] js s q e = (s, run_none s, e)
  run_split (i ∷ is) js s q e =
      let f = run_first i (is ++ js) s q e in
      let r = run_split is js f.0 q f.2 in
      (r.0, run_next i is s f.0 f.1 ∙ r.1, r.2)

  pub no_more_to : (rs : List ValType) (os : List Operand) (m : Bool) → Denotes os m rs → no_more (pops rs os m) ≡ true
  no_more_to rs os m h = last (pops_to rs os m [] (subst (λ x. Denotes os m x) (sym (append-nil rs)) h))
    where
      empty : (r : List Operand) → Denotes r m [] → no_more (Some r) ≡ true
      empty [] h = refl
      empty (o ∷ r) h = absurd h

      last : ((r : List Operand) × (pops rs os m ≡ Some r) × Denotes r m []) → no_more (pops rs os m) ≡ true
      last p = ap no_more p.1 ∙ empty p.0 p.2

  pub no_more_back : (rs : List ValType) (os : List Operand) (m : Bool) → no_more (pops rs os m) ≡ true → Denotes os m rs
  no_more_back rs os m e = by (pops rs os m) refl e
    where
      nil : (m : Bool) → Denotes [] m []
      nil true = tt
      nil false = refl

      by : (o : Option (List Operand)) → pops rs os m ≡ o → no_more o ≡ true → Denotes os m rs
      by None q e = absurd cc
      by (Some []) q e = subst (λ x. Denotes os m x) (append-nil rs) (pops_back rs os m [] [] q (nil m))
      by (Some (o ∷ os')) q e = absurd cc

  abbrev pub around_is : Frame → List ValType → List Operand → Bool → Around
  around_is k rs os m = record { known = os; missing = m; frame = k; results = rs }

  -- a block whose content gives its results is closed
  pub closes : (s : State) (f : Around) (fs : List Around) → s.around ≡ f ∷ fs → may_end f.frame f.results ≡ true → Denotes s.known s.missing f.results → step c instrs.End s ≡ Some (behind f fs)
  closes s f fs e m d =
      ap (λ (x : List Around). ended x s.known s.missing) e
      ∙ ap (λ b. if b then Some (behind f fs) else None) (and_from (may_end f.frame f.results) (no_more (pops f.results s.known s.missing)) m (no_more_to f.results s.known s.missing d))

  pub closed_by : (s t : State) (f : Around) (fs : List Around) → s.around ≡ f ∷ fs → step c instrs.End s ≡ Some t → (t ≡ behind f fs) × (may_end f.frame f.results ≡ true) × Denotes s.known s.missing f.results
  closed_by s t f fs e h =
      let x = chosen (may_end f.frame f.results && no_more (pops f.results s.known s.missing)) (behind f fs) t (sym (ap (λ (x : List Around). ended x s.known s.missing) e) ∙ h) in
      let b = and_parts (may_end f.frame f.results) (no_more (pops f.results s.known s.missing)) x.0 in
      (sym x.1, b.0, no_more_back f.results s.known s.missing b.1)

  pub parts : (s : State) (rs : List ValType) (os : List Operand) (m : Bool) (fs : List Around) → s.around ≡ around_is checks.If rs os m ∷ fs → Denotes s.known s.missing rs → step c instrs.Else s ≡ Some (opened checks.Else rs os m fs)
  parts s rs os m fs e d =
      ap (λ (x : List Around). parted x s.known s.missing) e
      ∙ ap (λ b. if b then Some (opened checks.Else rs os m fs) else None) (no_more_to rs s.known s.missing d)

  pub parted_by : (s t : State) (rs : List ValType) (os : List Operand) (m : Bool) (fs : List Around) → s.around ≡ around_is checks.If rs os m ∷ fs → step c instrs.Else s ≡ Some t → (t ≡ opened checks.Else rs os m fs) × Denotes s.known s.missing rs
  parted_by s t rs os m fs e h =
      let x = chosen (no_more (pops rs s.known s.missing)) (opened checks.Else rs os m fs) t (sym (ap (λ (x : List Around). parted x s.known s.missing) e) ∙ h) in
      (sym x.1, no_more_back rs s.known s.missing x.0)

  -- ---- whole code

  pub complete : (e : Code) (s : State) (ts us : List ValType) → Types c (labels_of s.around) e ts us → Denotes s.known s.missing ts → (t : State) × (run c (flat e) s ≡ Some t) × (t.around ≡ s.around) × Denotes t.known t.missing us
  complete Done s ts us h d = (s, run_none s, refl, subst (λ x. Denotes s.known s.missing x) h d)
  complete (Then i e) s ts us h d =
      let a = act_to c (labels_of s.around) i s.known s.missing ts h.0 d h.1 in
      let m : State = record { known = a.0.known; missing = a.0.missing; around = s.around } in
      let r = complete e m h.0 us h.2 a.2 in
      (r.0, run_next i (flat e) s m (step_plain c i s (steps_plain c (labels_of s.around) i ts h.0 h.1) ∙ ap (λ o. stay s.around o) a.1) ∙ r.1, r.2, r.3)
  complete (In k r a e) s ts us h d =
      let rs = option_to_list r in
      let n = enter_to k r s ts h.0 h.1 d in
      let o = opened (frame_of k) rs n.0 s.missing s.around in
      let f = around_is (frame_of k) rs n.0 s.missing in
      let inner = complete a o [] rs (subst (λ (l : List ValType). Types c (l ∷ labels_of s.around) a [] rs) (sym (label_same k r)) h.2) refl in
      let x = closes inner.0 f s.around inner.2 (ends_to k r h.3) inner.3 in
      let rest = complete e (behind f s.around) (rs ++ h.0) us h.4 (gives_to rs n.0 s.missing h.0 n.2) in
      (rest.0, run_next (head k r) (flat a ++ instrs.End ∷ flat e) s o n.1 ∙ run_append (flat a) (instrs.End ∷ flat e) o inner.0 inner.1 ∙ run_next instrs.End (flat e) inner.0 (behind f s.around) x ∙ rest.1, rest.2, rest.3)
  complete (Both r a b e) s ts us h d =
      let rs = option_to_list r in
      let n = enter_to If r s ts h.0 h.1 d in
      let o = opened checks.If rs n.0 s.missing s.around in
      let first = complete a o [] rs h.2 refl in
      let o2 = opened checks.Else rs n.0 s.missing s.around in
      let p = parts first.0 rs n.0 s.missing s.around first.2 first.3 in
      let second = complete b o2 [] rs h.3 refl in
      let f = around_is checks.Else rs n.0 s.missing in
      let x = closes second.0 f s.around second.2 refl second.3 in
      let rest = complete e (behind f s.around) (rs ++ h.0) us h.4 (gives_to rs n.0 s.missing h.0 n.2) in (
        rest.0,
        run_next (instrs.If r) (flat a ++ instrs.Else ∷ (flat b ++ instrs.End ∷ flat e)) s o n.1
            ∙ run_append (flat a) (instrs.Else ∷ (flat b ++ instrs.End ∷ flat e)) o first.0 first.1
            ∙ run_next instrs.Else (flat b ++ instrs.End ∷ flat e) first.0 o2 p
            ∙ run_append (flat b) (instrs.End ∷ flat e) o2 second.0 second.1
            ∙ run_next instrs.End (flat e) second.0 (behind f s.around) x
            ∙ rest.1,
        rest.2,
        rest.3,
      )

  abbrev pub Goes : Code → State → State → Type 0
  Goes e s t = (t.around ≡ s.around) × ((us : List ValType) → Denotes t.known t.missing us → (ts : List ValType) × Denotes s.known s.missing ts × Types c (labels_of s.around) e ts us)

  stay_some : (fs : List Around) (o : Option Operands) (t : State) → stay fs o ≡ Some t → (p : Operands) × (o ≡ Some p) × (t ≡ record { known = p.known; missing = p.missing; around = fs })
  stay_some fs None t e = absurd cc
  stay_some fs (Some p) t e = (p, refl, cc)

  pub sound : (e : Code) (s t : State) → IsPlain e → run c (flat e) s ≡ Some t → Goes e s t
  sound Done s t p e =
      let q : s ≡ t = let e' = sym (run_none s) ∙ e in cc in
      (ap (λ (x : State). x.around) (sym q), λ us d. (us, subst (λ (x : State). Denotes x.known x.missing us) (sym q) d, refl))
  sound (Then i e) s t p h =
      let f = run_first i (flat e) s t h in
      let st = stay_some s.around (act c (labels_of s.around) i s.known s.missing) f.0 (sym (step_plain c i s p.0) ∙ f.1) in
      let m : State = record { known = st.0.known; missing = st.0.missing; around = s.around } in
      let r = sound e m t p.1 (ap (λ (x : State). run c (flat e) x) (sym st.2) ∙ f.2) in (
        r.0,
        λ us d.
            let v = r.1 us d in
            let a = act_back c (labels_of s.around) i s.known s.missing st.0 v.0 st.1 v.1 in
            (a.0, a.1, (v.0, a.2, v.2)),
      )
  sound (In k r a e) s t p h =
      let rs = option_to_list r in
      let after = flat a ++ instrs.End ∷ flat e in
      let h1 = run_first (head k r) after s t h in
      let n = enter_back k r s h1.0 h1.1 in
      let o = opened (frame_of k) rs n.0 s.missing s.around in
      let f = around_is (frame_of k) rs n.0 s.missing in
      let h2 : run c after o ≡ Some t = ap (λ (x : State). run c after x) (sym n.1) ∙ h1.2 in
      let sp = run_split (flat a) (instrs.End ∷ flat e) o t h2 in
      let inner = sound a o sp.0 p.0 sp.1 in
      let fe = run_first instrs.End (flat e) sp.0 t sp.2 in
      let x = closed_by sp.0 fe.0 f s.around inner.0 fe.1 in
      let rest = sound e (behind f s.around) t p.1 (ap (λ (y : State). run c (flat e) y) (sym x.0) ∙ fe.2) in (
        rest.0,
        λ us d.
            let v = rest.1 us d in
            let g = gives_back rs n.0 s.missing v.0 v.1 in
            let w = inner.1 rs x.2 in
            let en = n.2 g.0 g.2 in
            let ta = subst (λ (y : List ValType). Types c (label_of (frame_of k) rs ∷ labels_of s.around) a y rs) w.1 w.2 in
            (en.0, en.1, (g.0, en.2, subst (λ (l : List ValType). Types c (l ∷ labels_of s.around) a [] rs) (label_same k r) ta, ends_back k r x.1, subst (λ (y : List ValType). Types c (labels_of s.around) e y us) g.1 v.2)),
      )
  sound (Both r a b e) s t p h =
      let rs = option_to_list r in
      let after2 = flat b ++ instrs.End ∷ flat e in
      let after = flat a ++ instrs.Else ∷ after2 in
      let h1 = run_first (instrs.If r) after s t h in
      let n = enter_back If r s h1.0 h1.1 in
      let o = opened checks.If rs n.0 s.missing s.around in
      let h2 : run c after o ≡ Some t = ap (λ (x : State). run c after x) (sym n.1) ∙ h1.2 in
      let sp = run_split (flat a) (instrs.Else ∷ after2) o t h2 in
      let first = sound a o sp.0 p.0 sp.1 in
      let fp = run_first instrs.Else after2 sp.0 t sp.2 in
      let y = parted_by sp.0 fp.0 rs n.0 s.missing s.around first.0 fp.1 in
      let o2 = opened checks.Else rs n.0 s.missing s.around in
      let f = around_is checks.Else rs n.0 s.missing in
      let h3 : run c after2 o2 ≡ Some t = ap (λ (x : State). run c after2 x) (sym y.0) ∙ fp.2 in
      let sq = run_split (flat b) (instrs.End ∷ flat e) o2 t h3 in
      let second = sound b o2 sq.0 p.1 sq.1 in
      let fe = run_first instrs.End (flat e) sq.0 t sq.2 in
      let x = closed_by sq.0 fe.0 f s.around second.0 fe.1 in
      let rest = sound e (behind f s.around) t p.2 (ap (λ (z : State). run c (flat e) z) (sym x.0) ∙ fe.2) in (
        rest.0,
        λ us d.
            let v = rest.1 us d in
            let g = gives_back rs n.0 s.missing v.0 v.1 in
            let w1 = first.1 rs y.1 in
            let w2 = second.1 rs x.2 in
            let en = n.2 g.0 g.2 in
            (en.0, en.1, (g.0, en.2, subst (λ (z : List ValType). Types c (rs ∷ labels_of s.around) a z rs) w1.1 w1.2, subst (λ (z : List ValType). Types c (rs ∷ labels_of s.around) b z rs) w2.1 w2.2, subst (λ (z : List ValType). Types c (labels_of s.around) e z us) g.1 v.2)),
      )
