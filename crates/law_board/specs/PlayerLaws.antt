-- A player keeps the laws of a part.
use Rattle.std.specs.Prelude.{◌≡◌, ℕ, ◌+◌, List, [], ◌∷◌, map, Bool, true, false, ◌==◌, nat_le, if◌then◌else◌, refl}
use Rattle.std.specs.List.{list_any}
use Rattle.std.proofs.Common.{ap, sym, ◌∙◌, arith}
use Rattle.std.proofs.lemmas.Bool.Decides.{nat_tests}
use Rattle.std.proofs.lemmas.List.{length-map}
use Rattle.std.proofs.lemmas.Bool.{or_parts}
use Rattle.sim_base.specs.declared.signal.Drive.{Drive}
use Rattle.sim_base.specs.declared.signal.Drive.TheVariants as drives
use Rattle.part_law.specs.Machine.{Laws}
use Rattle.law_board.specs.Player.{DriveRows, drive_from, drive_at, has_row, player}

-- no row between
same_test : (c t : ℕ) → (c == t + 1) ≡ false → nat_le c (t + 1) ≡ nat_le c t
same_test c t h = grind (arith, nat_tests)

stays_from : (rows : DriveRows) (found : Drive) (t : ℕ) → has_row rows (t + 1) ≡ false → drive_from found rows (t + 1) ≡ drive_from found rows t
stays_from [] found t h = refl
stays_from (row ∷ rows) found t h =
    let here : nat_le row.0 (t + 1) ≡ nat_le row.0 t = same_test row.0 t (or_parts _ _ h).0 in
    ap (λ (b : Bool). drive_from (if b then row.1 else found) rows (t + 1)) here ∙ stays_from rows (if nat_le row.0 t then row.1 else found) t (or_parts _ _ h).1

all_stay : (rows : List DriveRows) (t : ℕ) → list_any (λ r. has_row r (t + 1)) rows ≡ false → map (λ r. drive_at r (t + 1)) rows ≡ map (λ r. drive_at r t) rows
all_stay [] t h = refl
all_stay (r ∷ rows) t h =
    let a : drive_at r (t + 1) ≡ drive_at r t = stays_from r drives.Z t (or_parts _ _ h).0 in
    let b : map (λ r. drive_at r (t + 1)) rows ≡ map (λ r. drive_at r t) rows = all_stay rows t (or_parts (has_row r (t + 1)) (list_any (λ r. has_row r (t + 1)) rows) h).1 in
    cc

at_cycle : (a t : ℕ) → (a == t) ≡ true → a ≡ t
at_cycle a t h = grind (arith, nat_tests)

same_cycle : (t : ℕ) → (t == t) ≡ true
same_cycle t = grind (arith, nat_tests)

pub player_laws : Laws player
player_laws = record {
  holds_levels = λ s t l i. refl;
  begins_due = λ s. refl;
  keeps_pins = λ s t l i. simp length-map refl;
  keeps_contacts = λ s t l i. refl;
  keeps_valid = λ s t l i v. same_cycle (t + 1);
  glides_drives = λ s t v d. all_stay s.rows t (or_parts _ _ d).1 ∙ sym (ap (λ (u : ℕ). map (λ r. drive_at r u) s.rows) (at_cycle s.cycle t v));
  glides_contacts = λ s t v d. refl;
  glides_silent = λ s t v d. refl;
}
