-- The bodies of a module, and why a module that breaks a rule is not valid.
use Rattle.std.proofs.Common.{◌≡◌, ℕ, zero, suc, ◌+◌, ◌<◌, List, [], ◌∷◌, ◌++◌, length, drop, get_or, replicate, Option, Some, None, refl, sym, ap, subst, ◌∙◌, arith, append_assoc, inl, inr, ⊎_elim, drop-cons, min}
use Rattle.sim_base.specs.declared.fault.Refusal.{Refusal}
use Rattle.sim_base.specs.declared.fault.Place.{Place}
use Rattle.sim_base.specs.declared.fault.Place.TheVariants as places
use Rattle.sim_base.specs.declared.fault.Fault.TheVariants as faults
use Rattle.sim_refusals.specs.Refusals.{ChipInit}
use Rattle.wasm_code.specs.declared.types.ValType.{ValType}
use Rattle.wasm_decode.specs.declared.module.Body.{Body}
use Rattle.wasm_decode.specs.declared.module.Module.{Module}
use Rattle.wasm_typing.specs.Typing.{Context, FailsAt}
use Rattle.wasm_validate.specs.Rules.{outside, chip_init, capped, imported_functions}
use Rattle.wasm_validate.specs.Validity.{context_with, context_at, IsTyped, AllTyped, BodyFails, IsValid, Breaks, IsRefused}
use Rattle.wasm_typing.proofs.BodyLemmas.{fails_not, one_place, one_failure}

pub replicate_more : (n : ℕ) (v : ValType) → replicate (n + 1) v ≡ replicate n v ++ v ∷ []
replicate_more zero v = refl
replicate_more (suc n) v = let e : suc n + 1 ≡ suc (n + 1) = omega arith in ap (λ k. replicate k v) e ∙ ap (λ (x : List ValType). v ∷ x) (replicate_more n v)

pub run_goes : (old now new : List ValType) (n : ℕ) (v : ValType) → now ≡ old ++ replicate n v → new ≡ now ++ v ∷ [] → new ≡ old ++ replicate (n + 1) v
run_goes old now new n v h e = e ∙ ap (λ (x : List ValType). x ++ v ∷ []) h ∙ append_assoc old (replicate n v) (v ∷ []) ∙ ap (λ (x : List ValType). old ++ x) (sym (replicate_more n v))

module _ (m : Module) where
  pub context_is : (c : Context) (locals locals' : List ValType) (r r' : Option ValType) → c ≡ context_with m locals r → locals ≡ locals' → r ≡ r' → c ≡ context_with m locals' r'
  context_is c locals locals' r r' e l q = e ∙ ap (λ (x : List ValType). context_with m x r) l ∙ ap (λ (x : Option ValType). context_with m locals' x) q

  here : (bs : List Body) (i : ℕ) (b : Body) → i < length bs → b ≡ get_or bs i b → drop i bs ≡ b ∷ drop (i + 1) bs
  here bs i b lt e =
      let s : suc i ≡ i + 1 = omega arith in
      drop-cons bs i b lt ∙ ap (λ (x : Body). x ∷ drop (suc i) bs) (sym e) ∙ ap (λ (k : ℕ). b ∷ drop k bs) s

  pub fails_here : (bs : List Body) (i : ℕ) (b : Body) (at : ℕ) (r : Refusal) → i < length bs → b ≡ get_or bs i b → FailsAt (context_at m i b) b.code at r.number → r.place ≡ places.Code (capped (length (imported_functions m.imports) + i)) (capped at) → BodyFails m i (drop i bs) r
  fails_here bs i b at r lt e f p = subst (λ (x : List Body). BodyFails m i x r) (sym (here bs i b lt e)) (inl (at, f, p))

  pub typed_here : (bs : List Body) (i : ℕ) (b : Body) → i < length bs → b ≡ get_or bs i b → IsTyped m i b → AllTyped m (i + 1) (drop (i + 1) bs) → AllTyped m i (drop i bs)
  typed_here bs i b lt e t h = subst (λ (x : List Body). AllTyped m i x) (sym (here bs i b lt e)) (t, h)

  pub fails_later : (bs : List Body) (i : ℕ) (b : Body) (r : Refusal) → i < length bs → b ≡ get_or bs i b → IsTyped m i b → BodyFails m (i + 1) (drop (i + 1) bs) r → BodyFails m i (drop i bs) r
  fails_later bs i b r lt e t h = subst (λ (x : List Body). BodyFails m i x r) (sym (here bs i b lt e)) (inr (t, h))

  typed_not : (i : ℕ) (bs : List Body) (r : Refusal) → AllTyped m i bs → BodyFails m i bs r → ⊥
  typed_not i [] r t f = f
  typed_not i (b ∷ bs) r t f =
      ⊎_elim (λ x. fails_not (context_at m i b) b.code t.0.0 t.0.1 x.0 r.number x.1) (λ x. typed_not (i + 1) bs r t.1 x.1) f

  pub breaks_not : (r : Refusal) (init : ℕ) → Breaks m r → IsValid m init → ⊥
  breaks_not r init b v =
      ⊎_elim
      (λ o. let e : None ≡ Some r = sym v.keeps ∙ o in absurd cc)
      (λ q. ⊎_elim
      (λ x. typed_not 0 m.bodies r v.typed x.1)
      (λ x. let e : None ≡ Some init = sym x.2 ∙ v.has_init in absurd cc)
      q)
      b

  -- no other rule comes first
  same_refusal : (r q : Refusal) → r.number ≡ q.number → r.place ≡ q.place → r ≡ q
  same_refusal r q n p =
      let a : record { number = r.number; place = r.place } ≡ record { number = q.number; place = r.place } = ap (λ (x : ℕ). record { number = x; place = r.place }) n in
      a ∙ ap (λ (x : Place). record { number = q.number; place = x }) p

  one_body : (i : ℕ) (bs : List Body) (r q : Refusal) → BodyFails m i bs r → BodyFails m i bs q → r ≡ q
  one_body i [] r q f g = absurd f
  one_body i (b ∷ bs) r q (inl f) (inl g) =
      let e = one_place (context_at m i b) b.code f.0 g.0 r.number q.number f.1 g.1 in
      same_refusal r q
      (one_failure (context_at m i b) b.code f.0 g.0 r.number q.number f.1 g.1)
      (f.2 ∙ ap (λ (x : ℕ). places.Code (capped (length (imported_functions m.imports) + i)) (capped x)) e ∙ sym g.2)
  one_body i (b ∷ bs) r q (inl f) (inr g) = absurd (fails_not (context_at m i b) b.code g.0.0 g.0.1 f.0 r.number f.1)
  one_body i (b ∷ bs) r q (inr f) (inl g) = absurd (fails_not (context_at m i b) b.code f.0.0 f.0.1 g.0 q.number g.1)
  one_body i (b ∷ bs) r q (inr f) (inr g) = one_body (i + 1) bs r q f.1 g.1

  not_outside : (r : Refusal) → outside m ≡ Some r → outside m ≡ None → ⊥
  not_outside r o n = let e : None ≡ Some r = sym n ∙ o in absurd cc

  pub breaks_once : (r q : Refusal) → Breaks m r → Breaks m q → r ≡ q
  breaks_once r q (inl f) (inl g) = let e : Some r ≡ Some q = sym f ∙ g in cc
  breaks_once r q (inl f) (inr (inl g)) = absurd (not_outside r f g.0)
  breaks_once r q (inl f) (inr (inr g)) = absurd (not_outside r f g.0)
  breaks_once r q (inr (inl f)) (inl g) = absurd (not_outside q g f.0)
  breaks_once r q (inr (inr f)) (inl g) = absurd (not_outside q g f.0)
  breaks_once r q (inr (inl f)) (inr (inl g)) = one_body 0 m.bodies r q f.1 g.1
  breaks_once r q (inr (inl f)) (inr (inr g)) = absurd (typed_not 0 m.bodies r g.1 f.1)
  breaks_once r q (inr (inr f)) (inr (inl g)) = absurd (typed_not 0 m.bodies q f.1 g.1)
  breaks_once r q (inr (inr f)) (inr (inr g)) = f.3 ∙ sym g.3

  pub refused : (r : Refusal) → Breaks m r → IsRefused m (faults.Refused r)
  refused r b = (b, λ q h. breaks_once q r h b, λ init v. breaks_not r init b v)

  pub body_breaks : (r : Refusal) → outside m ≡ None → BodyFails m 0 m.bodies r → IsRefused m (faults.Refused r)
  body_breaks r o b = refused r (inr (inl (o, b)))

  pub without_init : outside m ≡ None → AllTyped m 0 m.bodies → chip_init m ≡ None → IsRefused m (faults.Refused (record { number = ChipInit; place = places.Whole }))
  without_init o t n = refused (record { number = ChipInit; place = places.Whole }) (inr (inr (o, t, n, refl)))

pub number_is : (x n i : ℕ) → x ≡ n → capped (min (x + i) 18446744073709551615) ≡ capped (n + i)
number_is x n i e = omega (arith, e)
