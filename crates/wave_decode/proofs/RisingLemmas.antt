-- Rows of rising cycles.
use Rattle.std.proofs.Common.{◌≡◌, ◌<◌, ◌≤◌, ℕ, zero, suc, List, [], ◌∷◌, ◌++◌, length, get_or, drop, Bool, true, false, if◌then◌else◌, refl, ap, arith, ◌∙◌}
use Rattle.sim_base.specs.declared.signal.Level.{Level}
use Rattle.std.proofs.lemmas.List.{append-nil}
use Rattle.wave_lines.specs.Rows.{rows_to}
use Rattle.wave_lines.specs.Same.{same_level}
use Rattle.wave_lines.proofs.ValueLemmas.{le_true, le_false}
use Rattle.wave_decode.specs.Levels.{LevelRow}
use Rattle.wave_decode.specs.Rising.{IsRising, level_at, first_cycle}

-- a list that is not empty
pub split_first : (rows : List LevelRow) (d : LevelRow) → 0 < length rows → rows ≡ get_or rows 0 d ∷ drop 1 rows
split_first [] d some = absurd (omega (arith, some))
split_first (row ∷ rows) d some = refl

pub rising_from : (rows : List LevelRow) (from low : ℕ) → low ≤ from → IsRising from rows → IsRising low rows
rising_from [] from low least rising = tt
rising_from (row ∷ rows) from low least rising = (let first = rising.0 in omega (arith, least, first), rising.1)

-- no row is due yet
pub none_yet : (found : Level) (rows : List LevelRow) (from t : ℕ) → IsRising from rows → t < from → level_at found rows t ≡ found
none_yet found [] from t rising less = refl
none_yet found (row ∷ rows) from t rising less =
    let first = rising.0 in
    ap (λ (b : Bool). level_at (if b then row.1 else found) rows t) (le_false row.0 t (omega (arith, less, first)))
    ∙ none_yet found rows (suc row.0) t rising.1 (omega (arith, less, first))

pub none_before : (found : Level) (rows : List LevelRow) (from n t : ℕ) → IsRising from rows → t < first_cycle n rows → level_at found rows t ≡ found
none_before found [] from n t rising less = refl
none_before found (row ∷ rows) from n t rising less = none_yet found (row ∷ rows) row.0 t (omega arith, rising.1) (omega (arith, less))

-- a row that is due
pub due : (found : Level) (row : LevelRow) (rows : List LevelRow) (u : ℕ) → row.0 ≤ u → level_at found (row ∷ rows) u ≡ level_at row.1 rows u
due found row rows u least = ap (λ (b : Bool). level_at (if b then row.1 else found) rows u) (le_true row.0 u least)

-- the next row's cycle
pub first_late : (rows : List LevelRow) (from n : ℕ) → IsRising from rows → from ≤ n → from ≤ first_cycle n rows
first_late [] from n rising least = least
first_late (row ∷ rows) from n rising least = let first = rising.0 in omega (arith, least, first)

pub first_early : (rows : List LevelRow) (n : ℕ) → first_cycle n rows ≤ n
first_early [] n = omega arith
first_early (row ∷ rows) n = omega arith

-- ---- the rows of a level that changes are rising

-- rising rows, all before cycle t
abbrev IsWithin : ℕ → List LevelRow → ℕ → Type 0
IsWithin from [] t = from ≤ t
IsWithin from (row ∷ rows) t = (from ≤ row.0) × IsWithin (suc row.0) rows t

within_more : (rows : List LevelRow) (from t : ℕ) → IsWithin from rows t → IsWithin from rows (suc t)
within_more [] from t within = omega (arith, within)
within_more (row ∷ rows) from t within = (within.0, within_more rows (suc row.0) t within.1)

within_push : (rows : List LevelRow) (from t : ℕ) (l : Level) → IsWithin from rows t → IsWithin from (rows ++ (t, l) ∷ []) (suc t)
within_push [] from t l within = (within, omega arith)
within_push (row ∷ rows) from t l within = (within.0, within_push rows (suc row.0) t l within.1)

within_rising : (rows : List LevelRow) (from t : ℕ) → IsWithin from rows t → IsRising from rows
within_rising [] from t within = tt
within_rising (row ∷ rows) from t within = (within.0, within_rising rows (suc row.0) t within.1)

module _ (f : ℕ → Level) where
  within_row : (t : ℕ) (b : Bool) → IsWithin 0 (rows_to same_level f (suc t)) (suc t) →
      IsWithin 0 (rows_to same_level f (suc t) ++ (if b then [] else (suc t, f (suc t)) ∷ [])) (suc (suc t))
  within_row t true within = rw (append-nil (rows_to same_level f (suc t))) (within_more (rows_to same_level f (suc t)) 0 (suc t) within)
  within_row t false within = within_push (rows_to same_level f (suc t)) 0 (suc t) (f (suc t)) within

  within_to : (n : ℕ) → IsWithin 0 (rows_to same_level f n) n
  within_to zero = omega arith
  within_to (suc zero) = (omega arith, omega arith)
  within_to (suc (suc t)) = within_row t (same_level (f t) (f (suc t))) (within_to (suc t))

  pub rising_to : (n : ℕ) → IsRising 0 (rows_to same_level f n)
  rising_to n = within_rising (rows_to same_level f n) 0 n (within_to n)
