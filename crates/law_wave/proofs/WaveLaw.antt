-- A wave that was written is read back: for each pin what the row in force shows of it, cycle by cycle.
use Rattle.std.proofs.Common.{◌≡◌, inl, inr, ◌<◌, ◌≤◌, ◌*◌, ◌^◌, ℕ, zero, suc, List, [], ◌∷◌, ◌++◌, length, map, Bool, true, false, nat_le}
use Rattle.std.proofs.Common.{if◌then◌else◌, Option, Some, Ok, refl, ap, sym, ◌∙◌, arith}
use Rattle.std.specs.Prelude.{slice_get}
use Rattle.std.specs.List.{range_with_len}
use Rattle.std.specs.Option.{option_map_or}
use Rattle.std.proofs.lemmas.Bool.{eqb-true}
use Rattle.std.proofs.lemmas.List.{append-nil}
use Rattle.sim_base.specs.declared.signal.Drive.{Drive}
use Rattle.sim_base.specs.declared.signal.Drive.TheVariants as drives
use Rattle.sim_base.specs.Rows.{Row}
use Rattle.board_model.proofs.Lists.{lt_or_eq}
use Rattle.law_board.specs.InForce.{row_at}
use Rattle.law_board.specs.Player.{drive_from, drive_at}
use Rattle.law_board.proofs.OwnRows.{is_le, is_gt}
use Rattle.text_model.specs.Wave.{Source, Net, Strong, Weak, Variable, char_z, strong_value, weak_value, wave_text}
use Rattle.wave_lines.specs.Rows.{row_at as row_of_value}
use Rattle.wave_lines.specs.Same.{same_drive}
use Rattle.wave_lines.proofs.SameLemmas.{same_means}
use Rattle.vcd_text.specs.Tracks.{DriveRows, drive_of, drive_said, is_strong, is_weak, rows_to, tracks_of, wave_rows}
use Rattle.vcd_text.proofs.TrackLemmas.{drive_is, rows_same}
use Rattle.law_wave.specs.Said.{rows_told}
use Rattle.law_wave.specs.Written.{AreOfRun, IsPlain, IsTold, is_shown, value_in, written_drive}
use Rattle.law_wave.proofs.TextLemmas.{changes_read}
use Rattle.law_wave.proofs.ValueLemmas.{all_given, rows_at}

only_strong : (pin : ℕ) (s : Source) → is_strong pin s ≡ true → s ≡ Strong pin
only_strong pin (Net n) e = absurd cc
only_strong pin (Strong p) e = ap (λ (x : ℕ). Strong x) (eqb-true p pin e)
only_strong pin (Weak p) e = absurd cc

only_weak : (pin : ℕ) (s : Source) → is_weak pin s ≡ true → s ≡ Weak pin
only_weak pin (Net n) e = absurd cc
only_weak pin (Strong p) e = absurd cc
only_weak pin (Weak p) e = ap (λ (x : ℕ). Weak x) (eqb-true p pin e)

each_same : {A B : Type 0} (f g : A → B) → ((x : A) → f x ≡ g x) → (xs : List A) → map f xs ≡ map g xs
each_same f g same [] = refl
each_same {B = B} f g same (x ∷ xs) = ap (λ (y : B). y ∷ map f xs) (same x) ∙ ap (λ (l : List B). g x ∷ l) (each_same f g same xs)

module _ (vs : List Variable) (n : ℕ) (few : length vs ≤ 8930) (small : 625 * n < 2 ^ 64) (rows : List Row) (are : AreOfRun rows n) where
  said_is : (pin t : ℕ) → drive_said vs (rows_told vs rows) pin t ≡ written_drive vs rows pin t
  said_is pin t =
      drive_is _ _ _ _ (rows_at vs (is_strong pin) (Strong pin) (only_strong pin) n rows are t) (rows_at vs (is_weak pin) (Weak pin) (only_weak pin) n rows are t)

  -- The wave of the rows of a run is read as what it shows of each pin.
  pub wave_read : (pins : ℕ) → wave_rows vs pins n (wave_text vs rows n) ≡ Ok (map (λ (pin : ℕ). rows_to (written_drive vs rows pin) (suc n)) (range_with_len 0 pins))
  wave_read pins =
      ap (tracks_of vs pins n) (changes_read vs n few small rows are (all_given vs n rows are))
      ∙ ap (λ (l : List DriveRows). Ok l) (each_same (λ (pin : ℕ). rows_to (drive_said vs (rows_told vs rows) pin) (suc n)) (λ (pin : ℕ). rows_to (written_drive vs rows pin) (suc n))
      (λ pin. rows_same (drive_said vs (rows_told vs rows) pin) (written_drive vs rows pin) (suc n) (λ u p. said_is pin u)) (range_with_len 0 pins))

-- ---- what a player of such rows drives

drive_more : (rows : DriveRows) (found : Drive) (row : ℕ × Drive) (t : ℕ) → drive_from found (rows ++ row ∷ []) t ≡ (if nat_le row.0 t then row.1 else drive_from found rows t)
drive_more [] found row t = refl
drive_more (r ∷ rows) found row t = drive_more rows (if nat_le r.0 t then r.1 else found) row t

module _ (f : ℕ → Drive) where
  behind_last : (t T : ℕ) → t ≤ T → drive_at (rows_to f (suc t)) T ≡ f t
  behind_last zero T late = ap (λ (b : Bool). if b then f 0 else drives.Z) (is_le 0 T late)
  behind_last (suc t) T late = go (same_drive (f t) (f (suc t))) refl (behind_last t T (omega (arith, late)))
    where
      go : (b : Bool) → same_drive (f t) (f (suc t)) ≡ b → drive_at (rows_to f (suc t)) T ≡ f t → drive_at (rows_to f (suc (suc t))) T ≡ f (suc t)
      go true same before =
          ap (λ (b : Bool). drive_at (rows_to f (suc t) ++ (if b then [] else (suc t, f (suc t)) ∷ [])) T) same
          ∙ ap (λ (l : DriveRows). drive_at l T) (append-nil (rows_to f (suc t)))
          ∙ before ∙ same_means (f t) (f (suc t)) same
      go false other before =
          ap (λ (b : Bool). drive_at (rows_to f (suc t) ++ (if b then [] else (suc t, f (suc t)) ∷ [])) T) other
          ∙ drive_more (rows_to f (suc t)) drives.Z (suc t, f (suc t)) T
          ∙ ap (λ (b : Bool). if b then f (suc t) else drive_at (rows_to f (suc t)) T) (is_le (suc t) T late)

  -- In each cycle it drives what the rows are of.
  pub plays : (n t : ℕ) → t < n → drive_at (rows_to f n) t ≡ f t
  plays zero t less = absurd (omega (arith, less))
  plays (suc n) t less = elim (lt_or_eq t n (omega (arith, less))) [
    | inl before ↦ earlier n before ∙ plays n t before
    | inr same ↦ behind_last n t (omega (arith, same)) ∙ ap f (sym same)
  ]
    where
      earlier : (n : ℕ) → t < n → drive_at (rows_to f n ++ row_of_value same_drive f n) t ≡ drive_at (rows_to f n) t
      earlier zero before = absurd (omega (arith, before))
      earlier (suc n) before = go (same_drive (f n) (f (suc n)))
        where
          go : (b : Bool) → drive_at (rows_to f (suc n) ++ (if b then [] else (suc n, f (suc n)) ∷ [])) t ≡ drive_at (rows_to f (suc n)) t
          go true = ap (λ (l : DriveRows). drive_at l t) (append-nil (rows_to f (suc n)))
          go false = drive_more (rows_to f (suc n)) drives.Z (suc n, f (suc n)) t
              ∙ ap (λ (b : Bool). if b then f (suc n) else drive_at (rows_to f (suc n)) t) (is_gt (suc n) t before)

-- ---- what two values tell

two_tell : (d : Drive) → IsPlain d → drive_of (strong_value d) (weak_value d) ≡ d
two_tell drives.Z plain = refl
two_tell drives.Low plain = refl
two_tell drives.High plain = refl
two_tell drives.PullLow plain = refl
two_tell drives.PullHigh plain = refl
two_tell (drives.Wiper w) plain = absurd plain

module _ (vs : List Variable) (rows : List Row) (pin t : ℕ) (row : Row) (d : Drive) (force : row_at rows t ≡ Some row) (here : slice_get row.drives pin ≡ Some d) where
  strong_is : value_in (row_at rows t) (Strong pin) ≡ strong_value d
  strong_is = ap (λ (o : Option Row). value_in o (Strong pin)) force ∙ ap (λ (o : Option Drive). option_map_or strong_value o char_z) here

  weak_is : value_in (row_at rows t) (Weak pin) ≡ weak_value d
  weak_is = ap (λ (o : Option Row). value_in o (Weak pin)) force ∙ ap (λ (o : Option Drive). option_map_or weak_value o char_z) here

  -- the wave says what a pin drives that it tells whole
  pub told_drive : IsTold vs pin → IsPlain d → written_drive vs rows pin t ≡ d
  told_drive told plain =
      drive_is _ _ _ _ (ap (λ (b : Bool). if b then value_in (row_at rows t) (Strong pin) else char_z) told.strong ∙ strong_is)
      (ap (λ (b : Bool). if b then value_in (row_at rows t) (Weak pin) else char_z) told.weak ∙ weak_is) ∙ two_tell d plain

  -- and of any pin that it drives nothing, where it does not
  pub no_drive : d ≡ drives.Z → written_drive vs rows pin t ≡ drives.Z
  no_drive nothing =
      drive_is _ _ _ _ (none (is_shown (is_strong pin) vs) (value_in (row_at rows t) (Strong pin)) (strong_is ∙ ap strong_value nothing))
      (none (is_shown (is_weak pin) vs) (value_in (row_at rows t) (Weak pin)) (weak_is ∙ ap weak_value nothing))
    where
      none : (b : Bool) (v : ℕ) → v ≡ char_z → (if b then v else char_z) ≡ char_z
      none true v e = e
      none false v e = refl
