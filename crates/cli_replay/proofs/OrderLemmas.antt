-- The rows that a wave says are in the order of their cycles.
use Rattle.std.proofs.Common.{◌≡◌, ◌≤◌, ◌-◌, ◌+◌, ℕ, zero, suc, List, [], ◌∷◌, ◌++◌, length, map, get_or, Bool, true, false, Result, Ok, Err, sym, arith}
use Rattle.std.specs.Prelude.{if◌then◌else◌}
use Rattle.std.specs.List.{All, range_with_len}
use Rattle.std.proofs.lemmas.List.{append-nil}
use Rattle.std.proofs.lemmas.List.Elements.{All-map, All-push}
use Rattle.std.proofs.lemmas.List.Sorted.{IsNonDecreasingBy-short, IsNonDecreasingBy-push}
use Rattle.sim_base.specs.declared.fault.Refusal.{Refusal}
use Rattle.sim_base.specs.declared.signal.Drive.{Drive}
use Rattle.text_model.specs.Wave.{Variable}
use Rattle.trace_run.specs.Rows.{AreInOrder}
use Rattle.wave_lines.specs.Reading.{Change}
use Rattle.wave_lines.specs.Same.{same_drive}
use Rattle.vcd_text.specs.Reading.{changes_of}
use Rattle.vcd_text.specs.Tracks.{DriveRows, drive_said, rows_to, tracks_of, wave_rows}

abbrev IsBefore : ℕ → ℕ × Drive → Type 0
IsBefore t row = row.0 ≤ t

-- a row that may come behind others
module _ (xs : DriveRows) (row : ℕ × Drive) where
  more_before : (t : ℕ) (b : Bool) → All (IsBefore t) xs → row.0 ≤ suc t → All (IsBefore (suc t)) (xs ++ (if b then [] else row ∷ []))
  more_before t true all here = rw (append-nil xs) (λ k d h. omega (arith, all k d h))
  more_before t false all here = All-push (IsBefore (suc t)) xs row (λ k d h. omega (arith, all k d h)) here

  more_ordered : (t : ℕ) (b : Bool) → AreInOrder xs → All (IsBefore t) xs → t ≤ row.0 → AreInOrder (xs ++ (if b then [] else row ∷ []))
  more_ordered t true order all here = rw (append-nil xs) order
  more_ordered t false order all here =
      IsNonDecreasingBy-push (λ (r : ℕ × Drive). r.0) xs row order (λ d h. omega (arith, all (length xs - 1) d (omega (arith, h)), here))

module _ (f : ℕ → Drive) where
  before : (t : ℕ) → All (IsBefore t) (rows_to f (suc t))
  before zero = All-push (IsBefore 0) [] (0, f 0) (λ k d h. absurd (omega (arith, h))) (omega arith)
  before (suc t) = more_before (rows_to f (suc t)) (suc t, f (suc t)) t (same_drive (f t) (f (suc t))) (before t) (omega arith)

  ordered : (t : ℕ) → AreInOrder (rows_to f t)
  ordered zero = IsNonDecreasingBy-short (λ (r : ℕ × Drive). r.0) [] (omega arith)
  ordered (suc zero) = IsNonDecreasingBy-short (λ (r : ℕ × Drive). r.0) ((0, f 0) ∷ []) (omega arith)
  ordered (suc (suc t)) = more_ordered (rows_to f (suc t)) (suc t, f (suc t)) t (same_drive (f t) (f (suc t))) (ordered (suc t)) (before t) (omega arith)

said_ordered : (variables : List Variable) (pins n : ℕ) (said : Result (List Change) Refusal) (rows : List DriveRows) → tracks_of variables pins n said ≡ Ok rows → All AreInOrder rows
said_ordered variables pins n (Ok said) rows is =
    let same : map (λ (pin : ℕ). rows_to (drive_said variables said pin) (suc n)) (range_with_len 0 pins) ≡ rows = cc in
    rw (sym same) (All-map AreInOrder (λ (pin : ℕ). rows_to (drive_said variables said pin) (suc n)) (range_with_len 0 pins) (λ k d h. ordered (drive_said variables said (get_or (range_with_len 0 pins) k d)) (suc n)))
said_ordered variables pins n (Err r) rows is = absurd cc

pub rows_ordered : (variables : List Variable) (pins n : ℕ) (text : List ℕ) (rows : List DriveRows) → wave_rows variables pins n text ≡ Ok rows → All AreInOrder rows
rows_ordered variables pins n text rows is = said_ordered variables pins n (changes_of variables n text) rows is
