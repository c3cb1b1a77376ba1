-- What is read item by item.
use Rattle.std.proofs.Common.{◌≡◌, ◌∙◌, ℕ, zero, suc, List, [], ◌∷◌, Some, Result, Ok, Err, ap, sym, refl, arith, slice_get}
use Rattle.sim_base.specs.declared.fault.Refusal.{Refusal}
use Rattle.document_model.specs.Reading.{◌>>=◌, each_from}
use Rattle.law_board.specs.Alike.{Alike}

-- where two steps end well, each of them does
pub both_steps : {A B : Type 0} (r : Result A Refusal) (f : A → Result B Refusal) (y : B) → (r >>= f) ≡ Ok y → (x : A) × (r ≡ Ok x) × (f x ≡ Ok y)
both_steps (Ok x) f y e = (x, refl, e)
both_steps {B = B} (Err s) f y e = let bad : ◌≡◌ {A = Result B Refusal} (Err s) (Ok y) = e in absurd cc

pub one_ok : {A : Type 0} (x y : A) → ◌≡◌ {A = Result A Refusal} (Ok x) (Ok y) → x ≡ y
one_ok x y e = cc

-- the first item, and those after it
pub each_step : {D A : Type 0} (f : ℕ → D → Result A Refusal) (k : ℕ) (d : D) (ds : List D) (out : List A) → each_from f k (d ∷ ds) ≡ Ok out →
    (x : A) × (xs : List A) × (f k d ≡ Ok x) × (each_from f (suc k) ds ≡ Ok xs) × (out ≡ x ∷ xs)
unfolding each_from
each_step f k d ds out e =
    let first = both_steps (f k d) (λ x. each_from f (suc k) ds >>= (λ xs. Ok (x ∷ xs))) out e in
    let rest = both_steps (each_from f (suc k) ds) (λ xs. Ok (first.0 ∷ xs)) out first.2 in
    (first.0, rest.0, first.1, rest.1, sym (one_ok (first.0 ∷ rest.0) out rest.2))

pub each_none : {D A : Type 0} (f : ℕ → D → Result A Refusal) (k : ℕ) (out : List A) → each_from f k [] ≡ Ok out → out ≡ []
unfolding each_from
each_none f k out e = sym (one_ok [] out e)

module _ {D E : Type 0} (R : D → E → Type 0) where
  pub alike_none : Alike (λ k a b. R a b) [] []
  alike_none = record { long = refl; each = λ k a b ea eb. absurd cc }

  pub alike_more : (x : D) (y : E) (xs : List D) (ys : List E) → R x y → Alike (λ k a b. R a b) xs ys → Alike (λ k a b. R a b) (x ∷ xs) (y ∷ ys)
  alike_more x y xs ys here rest = record { long = ap suc rest.long; each = each }
    where
      each : (k : ℕ) (a : D) (b : E) → slice_get (x ∷ xs) k ≡ Some a → slice_get (y ∷ ys) k ≡ Some b → R a b
      each zero a b ea eb = let p : x ≡ a = cc in let q : y ≡ b = cc in rw (← p, ← q) here
      each (suc k) a b ea eb = rest.each k a b ea eb

  pub alike_first : (x : D) (y : E) (xs : List D) (ys : List E) → Alike (λ k a b. R a b) (x ∷ xs) (y ∷ ys) → R x y
  alike_first x y xs ys h = h.each 0 x y refl refl

  pub alike_rest : (x : D) (y : E) (xs : List D) (ys : List E) → Alike (λ k a b. R a b) (x ∷ xs) (y ∷ ys) → Alike (λ k a b. R a b) xs ys
  alike_rest x y xs ys h = record { long = omega (arith, h.long); each = λ k a b ea eb. h.each (suc k) a b ea eb }

  -- items that are read alike give the same
  pub each_same : {A : Type 0} (f : ℕ → D → Result A Refusal) (g : ℕ → E → Result A Refusal) → ((k : ℕ) (x : D) (y : E) → R x y → f k x ≡ g k y) →
      (k : ℕ) (xs : List D) (ys : List E) → Alike (λ k a b. R a b) xs ys → each_from f k xs ≡ each_from g k ys
  unfolding each_from
  each_same f g same k [] [] h = refl
  each_same f g same k [] (y ∷ ys) h = absurd (omega (arith, h.long))
  each_same f g same k (x ∷ xs) [] h = absurd (omega (arith, h.long))
  each_same {A = A} f g same k (x ∷ xs) (y ∷ ys) h =
      ap (λ (r : Result A Refusal). r >>= (λ a. each_from f (suc k) xs >>= (λ rest. Ok (a ∷ rest)))) (same k x y (alike_first x y xs ys h))
      ∙ ap (λ (r : Result (List A) Refusal). g k y >>= (λ a. r >>= (λ rest. Ok (a ∷ rest)))) (each_same f g same (suc k) xs ys (alike_rest x y xs ys h))
