-- Nested code is read from left to right.
use Rattle.std.proofs.Common.{◌≡◌, ◌<◌, List, [], ◌∷◌, ◌++◌, length, Option, Bool, true, false, refl, sym, ap, subst, ◌∙◌, arith, append_assoc, length-append}
use Rattle.wasm_code.specs.declared.types.ValType.{ValType}
use Rattle.wasm_code.specs.declared.instr.Instr.{Instr}
use Rattle.wasm_code.specs.declared.instr.Instr.TheVariants as instrs
use Rattle.wasm_code.specs.Code.{Kind, Block, Loop, If, Code, Done, Then, In, Both, flat, head, is_plain, IsPlain, IsNested, Beginning, Here, Inside, InsideElse, flat_beginning}

abbrev pub IsPlainBeginning : Beginning → Type 0
IsPlainBeginning (Here a) = IsPlain a
IsPlainBeginning (Inside a k r b) = IsPlain a × IsPlainBeginning b
IsPlainBeginning (InsideElse a r c b) = IsPlain a × IsPlain c × IsPlainBeginning b

abbrev pub may_part : Kind → Bool
may_part Block = false
may_part Loop = false
may_part If = true

-- the blocks open, from the innermost: for each, whether an else may come
abbrev pub stack : Beginning → List Bool
stack (Here a) = []
stack (Inside a k r b) = stack b ++ may_part k ∷ []
stack (InsideElse a r c b) = stack b ++ false ∷ []

abbrev pub IsOpen : List Instr → List Bool → Type 0
IsOpen is s = (b : Beginning) × IsPlainBeginning b × (is ≡ flat_beginning b) × (stack b ≡ s)

abbrev join : Code → Code → Code
join Done c = c
join (Then i e) c = Then i (join e c)
join (In k r a e) c = In k r a (join e c)
join (Both r a b e) c = Both r a b (join e c)

flat_join : (a c : Code) → flat (join a c) ≡ flat a ++ flat c
flat_join Done c = refl
flat_join (Then i e) c = ap (λ (x : List Instr). i ∷ x) (flat_join e c)
flat_join (In k r a e) c =
    ap (λ (x : List Instr). head k r ∷ (flat a ++ instrs.End ∷ x)) (flat_join e c) ∙ ap (λ (x : List Instr). head k r ∷ x) (sym (append_assoc (flat a) (instrs.End ∷ flat e) (flat c)))
flat_join (Both r a b e) c =
    ap (λ (x : List Instr). instrs.If r ∷ (flat a ++ instrs.Else ∷ (flat b ++ instrs.End ∷ x))) (flat_join e c)
    ∙ ap (λ (x : List Instr). instrs.If r ∷ (flat a ++ instrs.Else ∷ x)) (sym (append_assoc (flat b) (instrs.End ∷ flat e) (flat c)))
    ∙ ap (λ (x : List Instr). instrs.If r ∷ x) (sym (append_assoc (flat a) (instrs.Else ∷ (flat b ++ instrs.End ∷ flat e)) (flat c)))

plain_join : (a c : Code) → IsPlain a → IsPlain c → IsPlain (join a c)
plain_join Done c p q = q
plain_join (Then i e) c p q = (p.0, plain_join e c p.1 q)
plain_join (In k r a e) c p q = (p.0, plain_join e c p.1 q)
plain_join (Both r a b e) c p q = (p.0, p.1, plain_join e c p.2 q)

-- one instruction more
Grown : Beginning → List Instr → List Bool → Type 0
Grown b is s = (c : Beginning) × IsPlainBeginning c × (flat_beginning c ≡ flat_beginning b ++ is) × (stack c ≡ s)

grown_inside : (a : Code) (k : Kind) (r : Option ValType) (b : Beginning) (is : List Instr) (s : List Bool) → IsPlain a → Grown b is s → Grown (Inside a k r b) is (s ++ may_part k ∷ [])
unfolding Grown
grown_inside a k r b is s p g =
    (Inside a k r g.0, (p, g.1), ap (λ (x : List Instr). flat a ++ head k r ∷ x) g.2 ∙ sym (append_assoc (flat a) (head k r ∷ flat_beginning b) is), ap (λ (t : List Bool). t ++ may_part k ∷ []) g.3)

grown_else : (a : Code) (r : Option ValType) (d : Code) (b : Beginning) (is : List Instr) (s : List Bool) → IsPlain a → IsPlain d → Grown b is s → Grown (InsideElse a r d b) is (s ++ false ∷ [])
unfolding Grown
grown_else a r d b is s p q g = (
  InsideElse a r d g.0,
  (p, q, g.1),
  ap (λ (x : List Instr). flat a ++ instrs.If r ∷ (flat d ++ instrs.Else ∷ x)) g.2
      ∙ ap (λ (x : List Instr). flat a ++ instrs.If r ∷ x) (sym (append_assoc (flat d) (instrs.Else ∷ flat_beginning b) is))
      ∙ sym (append_assoc (flat a) (instrs.If r ∷ (flat d ++ instrs.Else ∷ flat_beginning b)) is),
  ap (λ (t : List Bool). t ++ false ∷ []) g.3,
)

plain_grown : (b : Beginning) (i : Instr) → IsPlainBeginning b → is_plain i ≡ true → Grown b (i ∷ []) (stack b)
unfolding Grown
plain_grown (Here a) i p q = (Here (join a (Then i Done)), plain_join a (Then i Done) p (q, tt), flat_join a (Then i Done), refl)
plain_grown (Inside a k r b) i p q = grown_inside a k r b (i ∷ []) (stack b) p.0 (plain_grown b i p.1 q)
plain_grown (InsideElse a r d b) i p q = grown_else a r d b (i ∷ []) (stack b) p.0 p.1 (plain_grown b i p.2 q)

opened_grown : (b : Beginning) (k : Kind) (r : Option ValType) → IsPlainBeginning b → Grown b (head k r ∷ []) (may_part k ∷ stack b)
unfolding Grown
opened_grown (Here a) k r p = (Inside a k r (Here Done), (p, tt), refl, refl)
opened_grown (Inside a j q b) k r p = grown_inside a j q b (head k r ∷ []) (may_part k ∷ stack b) p.0 (opened_grown b k r p.1)
opened_grown (InsideElse a q d b) k r p = grown_else a q d b (head k r ∷ []) (may_part k ∷ stack b) p.0 p.1 (opened_grown b k r p.2)

-- what stands under the innermost block of a stack that goes on
abbrev Split : List Bool → Bool → Bool → List Bool → Type 0
Split inner last x s = (t : List Bool) × (inner ≡ x ∷ t) × (s ≡ t ++ last ∷ [])

split_of : (inner : List Bool) (last x : Bool) (s : List Bool) → inner ++ last ∷ [] ≡ x ∷ s → 0 < length inner → Split inner last x s
split_of [] last x s e lt = absurd (omega arith)
split_of (y ∷ inner) last x s e lt =
    let q : y ≡ x = cc in
    let w : inner ++ last ∷ [] ≡ s = cc in
    (inner, ap (λ z. z ∷ inner) q, sym w)

one_of : (last x : Bool) (s : List Bool) → last ∷ [] ≡ x ∷ s → (last ≡ x) × (s ≡ [])
one_of last x s e = (cc, let w : [] ≡ s = cc in sym w)

some_stack : (t : List Bool) (x : Bool) → 0 < length (t ++ x ∷ [])
some_stack t x = omega (arith, length-append t (x ∷ []))

ended_grown : (b : Beginning) (x : Bool) (s : List Bool) → IsPlainBeginning b → stack b ≡ x ∷ s → Grown b (instrs.End ∷ []) s
unfolding Grown
ended_grown (Here a) x s p e = absurd cc
ended_grown (Inside a k r (Here c)) x s p e =
    let o = one_of (may_part k) x s e in
    (Here (join a (In k r c Done)), plain_join a (In k r c Done) p.0 (p.1, tt), flat_join a (In k r c Done) ∙ sym (append_assoc (flat a) (head k r ∷ flat c) (instrs.End ∷ [])), sym o.1)
ended_grown (Inside a k r (Inside a' k' r' b)) x s p e =
    let t = split_of (stack (Inside a' k' r' b)) (may_part k) x s e (some_stack (stack b) (may_part k')) in
    let g = grown_inside a k r (Inside a' k' r' b) (instrs.End ∷ []) t.0 p.0 (ended_grown (Inside a' k' r' b) x t.0 p.1 t.1) in
    (g.0, g.1, g.2, g.3 ∙ sym t.2)
ended_grown (Inside a k r (InsideElse a' r' d b)) x s p e =
    let t = split_of (stack (InsideElse a' r' d b)) (may_part k) x s e (some_stack (stack b) false) in
    let g = grown_inside a k r (InsideElse a' r' d b) (instrs.End ∷ []) t.0 p.0 (ended_grown (InsideElse a' r' d b) x t.0 p.1 t.1) in
    (g.0, g.1, g.2, g.3 ∙ sym t.2)
ended_grown (InsideElse a r d (Here c)) x s p e =
    let o = one_of false x s e in (
      Here (join a (Both r d c Done)),
      plain_join a (Both r d c Done) p.0 (p.1, p.2, tt),
      flat_join a (Both r d c Done)
          ∙ ap (λ (z : List Instr). flat a ++ instrs.If r ∷ z) (sym (append_assoc (flat d) (instrs.Else ∷ flat c) (instrs.End ∷ [])))
          ∙ sym (append_assoc (flat a) (instrs.If r ∷ (flat d ++ instrs.Else ∷ flat c)) (instrs.End ∷ [])),
      sym o.1,
    )
ended_grown (InsideElse a r d (Inside a' k' r' b)) x s p e =
    let t = split_of (stack (Inside a' k' r' b)) false x s e (some_stack (stack b) (may_part k')) in
    let g = grown_else a r d (Inside a' k' r' b) (instrs.End ∷ []) t.0 p.0 p.1 (ended_grown (Inside a' k' r' b) x t.0 p.2 t.1) in
    (g.0, g.1, g.2, g.3 ∙ sym t.2)
ended_grown (InsideElse a r d (InsideElse a' r' d' b)) x s p e =
    let t = split_of (stack (InsideElse a' r' d' b)) false x s e (some_stack (stack b) false) in
    let g = grown_else a r d (InsideElse a' r' d' b) (instrs.End ∷ []) t.0 p.0 p.1 (ended_grown (InsideElse a' r' d' b) x t.0 p.2 t.1) in
    (g.0, g.1, g.2, g.3 ∙ sym t.2)

parted_grown : (b : Beginning) (s : List Bool) → IsPlainBeginning b → stack b ≡ true ∷ s → Grown b (instrs.Else ∷ []) (false ∷ s)
unfolding Grown
parted_grown (Here a) s p e = absurd cc
parted_grown (Inside a Block r (Here c)) s p e = absurd (let o = one_of false true s e in let z = o.0 in cc)
parted_grown (Inside a Loop r (Here c)) s p e = absurd (let o = one_of false true s e in let z = o.0 in cc)
parted_grown (Inside a If r (Here c)) s p e =
    let o = one_of true true s e in
    (InsideElse a r c (Here Done), (p.0, p.1, tt), sym (append_assoc (flat a) (instrs.If r ∷ flat c) (instrs.Else ∷ [])), ap (λ (t : List Bool). false ∷ t) (sym o.1))
parted_grown (Inside a k r (Inside a' k' r' b)) s p e =
    let t = split_of (stack (Inside a' k' r' b)) (may_part k) true s e (some_stack (stack b) (may_part k')) in
    let g = grown_inside a k r (Inside a' k' r' b) (instrs.Else ∷ []) (false ∷ t.0) p.0 (parted_grown (Inside a' k' r' b) t.0 p.1 t.1) in
    (g.0, g.1, g.2, g.3 ∙ ap (λ (z : List Bool). false ∷ z) (sym t.2))
parted_grown (Inside a k r (InsideElse a' r' d b)) s p e =
    let t = split_of (stack (InsideElse a' r' d b)) (may_part k) true s e (some_stack (stack b) false) in
    let g = grown_inside a k r (InsideElse a' r' d b) (instrs.Else ∷ []) (false ∷ t.0) p.0 (parted_grown (InsideElse a' r' d b) t.0 p.1 t.1) in
    (g.0, g.1, g.2, g.3 ∙ ap (λ (z : List Bool). false ∷ z) (sym t.2))
parted_grown (InsideElse a r d (Here c)) s p e = absurd (let o = one_of false true s e in let z = o.0 in cc)
parted_grown (InsideElse a r d (Inside a' k' r' b)) s p e =
    let t = split_of (stack (Inside a' k' r' b)) false true s e (some_stack (stack b) (may_part k')) in
    let g = grown_else a r d (Inside a' k' r' b) (instrs.Else ∷ []) (false ∷ t.0) p.0 p.1 (parted_grown (Inside a' k' r' b) t.0 p.2 t.1) in
    (g.0, g.1, g.2, g.3 ∙ ap (λ (z : List Bool). false ∷ z) (sym t.2))
parted_grown (InsideElse a r d (InsideElse a' r' d' b)) s p e =
    let t = split_of (stack (InsideElse a' r' d' b)) false true s e (some_stack (stack b) false) in
    let g = grown_else a r d (InsideElse a' r' d' b) (instrs.Else ∷ []) (false ∷ t.0) p.0 p.1 (parted_grown (InsideElse a' r' d' b) t.0 p.2 t.1) in
    (g.0, g.1, g.2, g.3 ∙ ap (λ (z : List Bool). false ∷ z) (sym t.2))

from_grown : (is js : List Instr) (b : Beginning) (s : List Bool) → is ≡ flat_beginning b → Grown b js s → IsOpen (is ++ js) s
unfolding Grown
from_grown is js b s e g = (g.0, g.1, ap (λ (x : List Instr). x ++ js) e ∙ sym g.2, g.3)

pub open_none : IsOpen [] []
open_none = (Here Done, tt, refl, refl)

pub open_plain : (is : List Instr) (s : List Bool) (i : Instr) → IsOpen is s → is_plain i ≡ true → IsOpen (is ++ i ∷ []) s
open_plain is s i h q = subst (λ (t : List Bool). IsOpen (is ++ i ∷ []) t) h.3 (from_grown is (i ∷ []) h.0 (stack h.0) h.2 (plain_grown h.0 i h.1 q))

pub open_more : (is : List Instr) (s : List Bool) (k : Kind) (r : Option ValType) → IsOpen is s → IsOpen (is ++ head k r ∷ []) (may_part k ∷ s)
open_more is s k r h = subst (λ (t : List Bool). IsOpen (is ++ head k r ∷ []) (may_part k ∷ t)) h.3 (from_grown is (head k r ∷ []) h.0 (may_part k ∷ stack h.0) h.2 (opened_grown h.0 k r h.1))

pub open_less : (is : List Instr) (x : Bool) (s : List Bool) → IsOpen is (x ∷ s) → IsOpen (is ++ instrs.End ∷ []) s
open_less is x s h = from_grown is (instrs.End ∷ []) h.0 s h.2 (ended_grown h.0 x s h.1 h.3)

pub open_parted : (is : List Instr) (s : List Bool) → IsOpen is (true ∷ s) → IsOpen (is ++ instrs.Else ∷ []) (false ∷ s)
open_parted is s h = from_grown is (instrs.Else ∷ []) h.0 (false ∷ s) h.2 (parted_grown h.0 s h.1 h.3)

nil_not : (t : List Bool) (x : Bool) → t ++ x ∷ [] ≡ [] → ⊥
nil_not [] x e = cc
nil_not (y ∷ t) x e = cc

nested_of : (is : List Instr) (b : Beginning) → IsPlainBeginning b → is ≡ flat_beginning b → stack b ≡ [] → IsNested (is ++ instrs.End ∷ [])
nested_of is (Here a) p e d = (a, p, ap (λ (x : List Instr). x ++ instrs.End ∷ []) e)
nested_of is (Inside a k r b) p e d = absurd (nil_not (stack b) (may_part k) d)
nested_of is (InsideElse a r c b) p e d = absurd (nil_not (stack b) false d)

pub open_ends : (is : List Instr) → IsOpen is [] → IsNested (is ++ instrs.End ∷ [])
open_ends is h = nested_of is h.0 h.1 h.2 h.3
