-- What is known of what was read.
use Rattle.std.proofs.Common.{◌≡◌, ℕ, zero, suc, List, [], ◌∷◌, length, map, refl, ap, sym, ◌∙◌, subst, arith, Result, Ok, Err}
use Rattle.std.specs.List.{All}
use Rattle.sim_base.specs.declared.fault.Refusal.{Refusal}
use Rattle.document_model.specs.Reading.{◌>>=◌, each_from}

-- a reading in two steps that came to its end had both
pub in_steps : {A B : Type 0} (r : Result A Refusal) (f : A → Result B Refusal) (y : B) → (r >>= f) ≡ Ok y → (x : A) × (r ≡ Ok x) × (f x ≡ Ok y)
in_steps (Ok x) f y h = (x, refl, h)
in_steps (Err e) f y h = absurd cc

-- the first item and the rest, where all are read
pub first_read : {D A : Type 0} (f : ℕ → D → Result A Refusal) (k : ℕ) (d : D) (ds : List D) (ys : List A) → each_from f k (d ∷ ds) ≡ Ok ys →
    (y : A) × (rest : List A) × (f k d ≡ Ok y) × (each_from f (suc k) ds ≡ Ok rest) × (ys ≡ y ∷ rest)
unfolding each_from
first_read {D = D} {A = A} f k d ds ys e =
    let first = in_steps (f k d) (λ (x : A). each_from f (suc k) ds >>= λ (xs : List A). Ok (x ∷ xs)) ys e in
    let rest = in_steps (each_from f (suc k) ds) (λ (xs : List A). Ok (first.0 ∷ xs)) ys first.2 in
    let same : ys ≡ first.0 ∷ rest.0 = cc (rest.2) in
    (first.0, rest.0, first.1, rest.1, same)

pub none_read : {D A : Type 0} (f : ℕ → D → Result A Refusal) (k : ℕ) (ys : List A) → each_from f k [] ≡ Ok ys → ys ≡ []
unfolding each_from
none_read f k ys e = cc

all_first : {A : Type 0} (P : A → Type 0) (y : A) (ys : List A) → P y → All P ys → All P (y ∷ ys)
all_first P y ys here tail zero d h = here
all_first P y ys here tail (suc j) d h = tail j d (omega arith)

-- what holds of each item that is read holds of all
pub each_all : {D A : Type 0} (f : ℕ → D → Result A Refusal) (P : A → Type 0) → ((k : ℕ) (d : D) (y : A) → f k d ≡ Ok y → P y) →
    (k : ℕ) (ds : List D) (ys : List A) → each_from f k ds ≡ Ok ys → All P ys
each_all {A = A} f P holds k [] ys e = subst (λ (l : List A). All P l) (sym (none_read f k ys e)) (λ j d h. absurd (omega arith))
each_all {A = A} f P holds k (d ∷ ds) ys e =
    let (y, rest, here, there, same) = first_read f k d ds ys e in
    subst (λ (l : List A). All P l) (sym same) (all_first P y rest (holds k d y here) (each_all f P holds (suc k) ds rest there))

-- what a field of each item that is read says of the item that it was read from
pub each_map : {D A C : Type 0} (f : ℕ → D → Result A Refusal) (g : A → C) (h : D → C) → ((k : ℕ) (d : D) (y : A) → f k d ≡ Ok y → g y ≡ h d) →
    (k : ℕ) (ds : List D) (ys : List A) → each_from f k ds ≡ Ok ys → map g ys ≡ map h ds
each_map {A = A} {C = C} f g h same k [] ys e = ap (λ (l : List A). map g l) (none_read f k ys e)
each_map {A = A} {C = C} f g h same k (d ∷ ds) ys e =
    let (y, rest, here, there, is) = first_read f k d ds ys e in
    ap (λ (l : List A). map g l) is
    ∙ ap (λ (c : C). c ∷ map g rest) (same k d y here)
    ∙ ap (λ (l : List C). h d ∷ l) (each_map f g h same (suc k) ds rest there)

-- as many items are read as there are
pub each_length : {D A : Type 0} (f : ℕ → D → Result A Refusal) (k : ℕ) (ds : List D) (ys : List A) → each_from f k ds ≡ Ok ys → length ys ≡ length ds
each_length {A = A} f k [] ys e = ap (λ (l : List A). length l) (none_read f k ys e)
each_length {A = A} f k (d ∷ ds) ys e =
    let (y, rest, here, there, is) = first_read f k d ds ys e in
    ap (λ (l : List A). length l) is ∙ ap suc (each_length f (suc k) ds rest there)
