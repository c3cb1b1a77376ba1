-- The rows of a value that changes, change by change.
use Rattle.std.proofs.Common.{◌≡◌, ◌<◌, ◌≤◌, ◌+◌, ◌-◌, ℕ, zero, suc, List, [], ◌∷◌, ◌++◌, length, take, Bool, true, false}
use Rattle.std.proofs.Common.{◌==◌, if◌then◌else◌, Option, Some, refl, ap, arith, ◌∙◌, sym, inl, inr}
use Rattle.std.specs.Prelude.{slice_get}
use Rattle.std.specs.Option.{option_map_or}
use Rattle.std.proofs.lemmas.Bool.{cases_Bool, eq-eqb, ne_eqb}
use Rattle.std.proofs.lemmas.List.{append-nil}
use Rattle.std.proofs.lemmas.Option.{slice_get-get_or}
use Rattle.std.proofs.Math.Seq.{take-append_seam, get_or-append_seam}
use Rattle.wave_lines.specs.Rows.{last_row, ends_at, ends_in, without_row, with_row, with_value, row_at, rows_to}

module _ {V : Type 0} (same : V → V → Bool) (same_refl : (a : V) → same a a ≡ true) (same_means : (a b : V) → same a b ≡ true → a ≡ b) where
  longer : (rows : List (ℕ × V)) (row : ℕ × V) → length (rows ++ row ∷ []) ≡ suc (length rows)
  longer [] row = refl
  longer (r ∷ rows) row = ap suc (longer rows row)

  -- the last row behind others
  last_behind : (rows : List (ℕ × V)) (row : ℕ × V) → last_row (rows ++ row ∷ []) ≡ Some row
  last_behind rows row =
      let n : length (rows ++ row ∷ []) - 1 ≡ length rows = omega (arith, longer rows row) in
      let inside : length rows < length (rows ++ row ∷ []) = omega (arith, longer rows row) in
      ap (λ (k : ℕ). slice_get (rows ++ row ∷ []) k) n ∙ slice_get-get_or (rows ++ row ∷ []) (length rows) row inside
      ∙ ap (λ (r : ℕ × V). Some r) (get_or-append_seam rows row [] row)

  take_behind : (rows : List (ℕ × V)) (row : ℕ × V) → take (length (rows ++ row ∷ []) - 1) (rows ++ row ∷ []) ≡ rows
  take_behind rows row =
      let n : length (rows ++ row ∷ []) - 1 ≡ length rows = omega (arith, longer rows row) in
      ap (λ (k : ℕ). take k (rows ++ row ∷ [])) n ∙ take-append_seam rows (row ∷ [])

  join : (rows : List (ℕ × V)) (row : ℕ × V) (b : Bool) → (if b then rows else rows ++ row ∷ []) ≡ rows ++ (if b then [] else row ∷ [])
  join rows row true = sym (append-nil rows)
  join rows row false = refl

  module _ (f : ℕ → V) where
    -- behind a cycle the last row has its value, and is not later
    pub last_is : (t : ℕ) → (c : ℕ) × (c ≤ t) × (last_row (rows_to same f (suc t)) ≡ Some (c, f t))
    last_is zero = (0, omega arith, refl)
    last_is (suc t) = elim (cases_Bool (same (f t) (f (suc t)))) [
      | inl is ↦
          let before = last_is t in
          let value : f t ≡ f (suc t) = same_means (f t) (f (suc t)) is in
          (before.0, omega (arith, before.1), rw is (ap last_row (append-nil (rows_to same f (suc t))) ∙ before.2 ∙ ap (λ (d : V). Some (before.0, d)) value))
      | inr other ↦ (suc t, omega arith, rw other (last_behind (rows_to same f (suc t)) (suc t, f (suc t))))
    ]

    -- no row of the cycles before t is at t
    none_at : (t : ℕ) → ends_at (rows_to same f t) t ≡ false
    none_at zero = refl
    none_at (suc t) =
        let last = last_is t in
        let at = last.1 in
        ap (λ (o : Option (ℕ × V)). option_map_or (λ (row : ℕ × V). row.0 == suc t) o false) last.2 ∙ ne_eqb last.0 (suc t) (λ e. omega (arith, e, at))

    off : (t : ℕ) → without_row (rows_to same f (suc t)) t ≡ rows_to same f t
    off zero = refl
    off (suc t) = elim (cases_Bool (same (f t) (f (suc t)))) [
      | inl is ↦
          let whole : rows_to same f (suc (suc t)) ≡ rows_to same f (suc t) = rw is (append-nil (rows_to same f (suc t))) in
          ap (λ (l : List (ℕ × V)). without_row l (suc t)) whole
          ∙ ap (λ (b : Bool). if b then take (length (rows_to same f (suc t)) - 1) (rows_to same f (suc t)) else rows_to same f (suc t)) (none_at (suc t))
      | inr other ↦
          let row : ℕ × V = (suc t, f (suc t)) in
          let whole : rows_to same f (suc (suc t)) ≡ rows_to same f (suc t) ++ row ∷ [] = rw other refl in
          let at : ends_at (rows_to same f (suc t) ++ row ∷ []) (suc t) ≡ true =
          ap (λ (o : Option (ℕ × V)). option_map_or (λ (row : ℕ × V). row.0 == suc t) o false) (last_behind (rows_to same f (suc t)) row)
          ∙ eq-eqb (suc t) (suc t) refl in
          ap (λ (l : List (ℕ × V)). without_row l (suc t)) whole
          ∙ ap (λ (b : Bool). if b then take (length (rows_to same f (suc t) ++ row ∷ []) - 1) (rows_to same f (suc t) ++ row ∷ []) else rows_to same f (suc t) ++ row ∷ []) at
          ∙ take_behind (rows_to same f (suc t)) row
    ]

    on : (t : ℕ) → with_row same (rows_to same f t) t (f t) ≡ rows_to same f (suc t)
    on zero = refl
    on (suc t) =
        let last = last_is t in
        let row : ℕ × V = (suc t, f (suc t)) in
        let in_it : ends_in same (rows_to same f (suc t)) (f (suc t)) ≡ same (f t) (f (suc t)) =
        ap (λ (o : Option (ℕ × V)). option_map_or (λ (row : ℕ × V). same row.1 (f (suc t))) o false) last.2 in
        ap (λ (b : Bool). if b then rows_to same f (suc t) else rows_to same f (suc t) ++ row ∷ []) in_it ∙ join (rows_to same f (suc t)) row (same (f t) (f (suc t)))

    -- nothing changes from a cycle on
    pub rows_still : (c k : ℕ) → ((u : ℕ) → c ≤ u → f u ≡ f c) → rows_to same f (suc (c + k)) ≡ rows_to same f (suc c)
    rows_still c zero still = let none : c + 0 ≡ c = omega arith in ap (λ (n : ℕ). rows_to same f (suc n)) none
    rows_still c (suc k) still =
        let more : c + suc k ≡ suc (c + k) = omega arith in
        let is : same (f (c + k)) (f (suc (c + k))) ≡ true =
        ap (λ (d : V). same d (f (suc (c + k)))) (still (c + k) (omega arith))
        ∙ ap (λ (d : V). same (f c) d) (still (suc (c + k)) (omega arith)) ∙ same_refl (f c) in
        let step : rows_to same f (suc (suc (c + k))) ≡ rows_to same f (suc (c + k)) = rw is (append-nil (rows_to same f (suc (c + k)))) in
        ap (λ (n : ℕ). rows_to same f (suc n)) more ∙ step ∙ rows_still c k still

  row_same : (f g : ℕ → V) (t : ℕ) → ((u : ℕ) → u ≤ t → f u ≡ g u) → row_at same f t ≡ row_at same g t
  row_same f g zero agree = rw (agree 0 (omega arith)) refl
  row_same f g (suc t) agree = rw (agree t (omega arith), agree (suc t) (omega arith)) refl

  pub rows_same : (f g : ℕ → V) (n : ℕ) → ((u : ℕ) → u < n → f u ≡ g u) → rows_to same f n ≡ rows_to same g n
  rows_same f g zero agree = refl
  rows_same f g (suc n) agree =
      ap (λ (l : List (ℕ × V)). l ++ row_at same f n) (rows_same f g n (λ u p. agree u (omega (arith, p))))
      ∙ ap (λ (l : List (ℕ × V)). rows_to same g n ++ l) (row_same f g n (λ u p. agree u (omega (arith, p))))

  -- from a cycle on another value
  pub rows_set : (f g : ℕ → V) (t : ℕ) → ((u : ℕ) → u < t → f u ≡ g u) → with_value same (rows_to same f (suc t)) t (g t) ≡ rows_to same g (suc t)
  rows_set f g t agree = ap (λ (l : List (ℕ × V)). with_row same l t (g t)) (off f t ∙ rows_same f g t agree) ∙ on g t
