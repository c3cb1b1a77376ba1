-- What the rows of a level that changes have in each cycle.
use Rattle.std.proofs.Common.{◌≡◌, ◌<◌, ◌≤◌, ℕ, zero, suc, List, [], ◌∷◌, ◌++◌, Bool, true, false, nat_le, if◌then◌else◌, inl, inr, refl, ap, sym, ◌∙◌, arith}
use Rattle.std.proofs.lemmas.List.{append-nil}
use Rattle.sim_base.specs.declared.signal.Level.{Level}
use Rattle.sim_base.specs.declared.signal.Level.TheVariants as levels
use Rattle.board_model.proofs.Lists.{lt_or_eq}
use Rattle.wave_lines.specs.Rows.{row_at, rows_to}
use Rattle.wave_lines.specs.Same.{same_level}
use Rattle.wave_lines.proofs.SameLemmas.{level_means}
use Rattle.wave_lines.proofs.ValueLemmas.{le_true, le_false}
use Rattle.wave_decode.specs.Levels.{LevelRow}
use Rattle.wave_decode.specs.Rising.{level_at}

level_more : (rows : List LevelRow) (found : Level) (row : ℕ × Level) (t : ℕ) → level_at found (rows ++ row ∷ []) t ≡ (if nat_le row.0 t then row.1 else level_at found rows t)
level_more [] found row t = refl
level_more (r ∷ rows) found row t = level_more rows (if nat_le r.0 t then r.1 else found) row t

module _ (f : ℕ → Level) where
  after_last : (t T : ℕ) → t ≤ T → level_at levels.Z (rows_to same_level f (suc t)) T ≡ f t
  after_last zero T late = ap (λ (b : Bool). if b then f 0 else levels.Z) (le_true 0 T late)
  after_last (suc t) T late = go (same_level (f t) (f (suc t))) refl (after_last t T (omega (arith, late)))
    where
      go : (b : Bool) → same_level (f t) (f (suc t)) ≡ b → level_at levels.Z (rows_to same_level f (suc t)) T ≡ f t → level_at levels.Z (rows_to same_level f (suc (suc t))) T ≡ f (suc t)
      go true same before =
          ap (λ (b : Bool). level_at levels.Z (rows_to same_level f (suc t) ++ (if b then [] else (suc t, f (suc t)) ∷ [])) T) same
          ∙ ap (λ (l : List LevelRow). level_at levels.Z l T) (append-nil (rows_to same_level f (suc t)))
          ∙ before ∙ level_means (f t) (f (suc t)) same
      go false other before =
          ap (λ (b : Bool). level_at levels.Z (rows_to same_level f (suc t) ++ (if b then [] else (suc t, f (suc t)) ∷ [])) T) other
          ∙ level_more (rows_to same_level f (suc t)) levels.Z (suc t, f (suc t)) T
          ∙ ap (λ (b : Bool). if b then f (suc t) else level_at levels.Z (rows_to same_level f (suc t)) T) (le_true (suc t) T late)

  pub has : (n t : ℕ) → t < n → level_at levels.Z (rows_to same_level f n) t ≡ f t
  has zero t less = absurd (omega (arith, less))
  has (suc n) t less = elim (lt_or_eq t n (omega (arith, less))) [
    | inl before ↦ earlier n before ∙ has n t before
    | inr same ↦ after_last n t (omega (arith, same)) ∙ ap f (sym same)
  ]
    where
      earlier : (n : ℕ) → t < n → level_at levels.Z (rows_to same_level f n ++ row_at same_level f n) t ≡ level_at levels.Z (rows_to same_level f n) t
      earlier zero before = absurd (omega (arith, before))
      earlier (suc n) before = go (same_level (f n) (f (suc n)))
        where
          go : (b : Bool) → level_at levels.Z (rows_to same_level f (suc n) ++ (if b then [] else (suc n, f (suc n)) ∷ [])) t ≡ level_at levels.Z (rows_to same_level f (suc n)) t
          go true = ap (λ (l : List LevelRow). level_at levels.Z l t) (append-nil (rows_to same_level f (suc n)))
          go false = level_more (rows_to same_level f (suc n)) levels.Z (suc n, f (suc n)) t
              ∙ ap (λ (b : Bool). if b then f (suc n) else level_at levels.Z (rows_to same_level f (suc n)) t) (le_false (suc n) t before)
