-- Lists of the places of a key.
use Rattle.net_resolve.proofs.Common.{◌≡◌, ℕ, zero, suc, ◌+◌, List, [], ◌∷◌, refl, ap, ◌∙◌, arith, inl, inr, Some, eq-eqb, eqb_tells, slice_get}
use Rattle.net_resolve.proofs.Common.{some_same, picked}

-- at each picked place stands the key
pub picked_key : (key k : ℕ) (xs : List ℕ) (j m : ℕ) → slice_get (picked key k xs) j ≡ Some m → (i : ℕ) × (m ≡ k + i) × (slice_get xs i ≡ Some key)
picked_key key k [] j m e = absurd cc
picked_key key k (x ∷ xs) j m e = elim (eqb_tells x key) [
  | inl t ↦ first (λ i. picked_key key (k + 1) xs i m) j (rw t.0 at e) t.1
  | inr f ↦ later (λ i. picked_key key (k + 1) xs i m) j (rw f.0 at e)
]
  where
    later : ((j : ℕ) → slice_get (picked key (k + 1) xs) j ≡ Some m → (i : ℕ) × (m ≡ (k + 1) + i) × (slice_get xs i ≡ Some key)) →
        (j : ℕ) → slice_get (picked key (k + 1) xs) j ≡ Some m → (i : ℕ) × (m ≡ k + i) × (slice_get (x ∷ xs) i ≡ Some key)
    later ih j e = let s = ih j e in (suc s.0, omega (arith, s.1), s.2)

    first : ((j : ℕ) → slice_get (picked key (k + 1) xs) j ≡ Some m → (i : ℕ) × (m ≡ (k + 1) + i) × (slice_get xs i ≡ Some key)) →
        (j : ℕ) → slice_get (k ∷ picked key (k + 1) xs) j ≡ Some m → x ≡ key → (i : ℕ) × (m ≡ k + i) × (slice_get (x ∷ xs) i ≡ Some key)
    first ih zero e t = (0, omega (arith, some_same e), ap Some t)
    first ih (suc j) e t = let s = ih j e in (suc s.0, omega (arith, s.1), s.2)

-- each place of the key is picked
pub picked_at : (key k : ℕ) (xs : List ℕ) (i : ℕ) → slice_get xs i ≡ Some key → (j : ℕ) × (slice_get (picked key k xs) j ≡ Some (k + i))
picked_at key k [] i e = absurd cc
picked_at key k (x ∷ xs) zero e =
    let here : k ≡ k + 0 = omega arith in
    (0, rw (eq-eqb x key (some_same e)) (ap Some here))
picked_at key k (x ∷ xs) (suc i) e =
    let s = picked_at key (k + 1) xs i e in
    let there : (k + 1) + i ≡ k + suc i = omega arith in
    let at : slice_get (picked key (k + 1) xs) s.0 ≡ Some (k + suc i) = s.1 ∙ ap Some there in
    elim (eqb_tells x key) [
      | inl t ↦ (suc s.0, rw t.0 at)
      | inr f ↦ (s.0, rw f.0 at)
    ]

-- no place is picked twice
pub picked_once : (key k : ℕ) (xs : List ℕ) (i j m : ℕ) → slice_get (picked key k xs) i ≡ Some m → slice_get (picked key k xs) j ≡ Some m → i ≡ j
picked_once key k [] i j m a b = absurd cc
picked_once key k (x ∷ xs) i j m a b = elim (eqb_tells x key) [
  | inl t ↦ both (picked_once key (k + 1) xs) i j (rw t.0 at a) (rw t.0 at b)
  | inr f ↦ picked_once key (k + 1) xs i j m (rw f.0 at a) (rw f.0 at b)
]
  where
    beyond : (j : ℕ) → k ≡ m → slice_get (picked key (k + 1) xs) j ≡ Some m → ⊥
    beyond j e f = let s = picked_key key (k + 1) xs j m f in omega (arith, s.1, e)

    both : ((i j m : ℕ) → slice_get (picked key (k + 1) xs) i ≡ Some m → slice_get (picked key (k + 1) xs) j ≡ Some m → i ≡ j) →
        (i j : ℕ) → slice_get (k ∷ picked key (k + 1) xs) i ≡ Some m → slice_get (k ∷ picked key (k + 1) xs) j ≡ Some m → i ≡ j
    both ih zero zero a b = refl
    both ih zero (suc j) a b = absurd (beyond j (some_same a) b)
    both ih (suc i) zero a b = absurd (beyond i (some_same b) a)
    both ih (suc i) (suc j) a b = ap suc (ih i j m a b)
