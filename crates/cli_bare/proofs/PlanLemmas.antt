-- The plan of one Uno is one that can be run, and the Uno begins in it.
use Rattle.std.proofs.Common.{◌≡◌, ◌<◌, ◌∙◌, ℕ, zero, suc, List, [], ◌∷◌, ◌++◌, length, take, true, Some, slice_get, nat_lt, refl, ap, sym, subst, arith, lit≤}
use Rattle.std.specs.Prelude.{slice_index}
use Rattle.std.specs.List.{list_all}
use Rattle.std.proofs.lemmas.Bool.{ltb-true, and_parts}
use Rattle.std.proofs.lemmas.List.{append-nil}
use Rattle.sim_base.specs.declared.signal.Drive.{Drive}
use Rattle.part_catalog.specs.Pins.{pin_names, contacts_in}
use Rattle.board_model.specs.Fits.{IsWiring, AreInputs, Fits}
use Rattle.board_model.specs.Board.{drives_of}
use Rattle.board_model.specs.Fresh.{AreFresh}
use Rattle.avr_mcu.specs.Mcu.{McuAt, mcu, start}
use Rattle.avr_mcu.specs.McuLaws.{length-uno_drives}
use Rattle.board_build.specs.Pins.{starts_from}
use Rattle.board_build.specs.IsPlan.{IsPlan}
use Rattle.cli_bare.specs.Bare.{uno_wiring, uno_plan, uno_starts}

all_below : (bound : ℕ) (xs : List ℕ) → list_all (λ n. nat_lt n bound) xs ≡ true → (k n : ℕ) → slice_get xs k ≡ Some n → n < bound
all_below bound [] h k n e = absurd (none k e)
  where
    none : (k : ℕ) → slice_get {X = ℕ} [] k ≡ Some n → ⊥
    none zero e = cc
    none (suc k) e = cc
all_below bound (x ∷ xs) h zero n e =
    let small : nat_lt x bound ≡ true = (and_parts (nat_lt x bound) (list_all (λ n. nat_lt n bound) xs) h).0 in
    let same : x ≡ n = cc in
    subst (λ (y : ℕ). y < bound) same (ltb-true x bound small)
all_below bound (x ∷ xs) h (suc k) n e = all_below bound xs (and_parts (nat_lt x bound) (list_all (λ n. nat_lt n bound) xs) h).1 k n e

pub is_wiring : IsWiring uno_wiring
is_wiring = record {
  pins = all_below 29 uno_wiring.net_of refl;
  contacts = λ k c e. absurd (cc);
  resistors = λ k r e. absurd (cc);
}

pub is_plan : IsPlan [] uno_plan
unfolding pin_names contacts_in starts_from
is_plan = record {
  few = lit≤ tt;
  ready = refl;
  one_uno = refl;
  few_chips = lit≤ tt;
  wiring = is_wiring;
  first_pins = refl;
  chips = refl;
  pins = refl;
  contacts = refl;
  for_parts = λ k input e. absurd (cc);
}

pub no_inputs : AreInputs 1 []
no_inputs = record { in_order = λ j k a b le e f. absurd (cc); for_parts = λ k a e. absurd (cc) }

-- the Uno has the pins of the wiring
pub uno_fits : (flash : List ℕ) → Fits mcu uno_wiring (uno_starts flash)
uno_fits flash = record { parts = refl; chips = refl; pins = sym many; contacts = refl; places = first }
  where
    many : length (mcu.drives (start flash) ++ []) ≡ 31
    many = ap (λ (l : List Drive). length l) (append-nil (mcu.drives (start flash))) ∙ length-uno_drives (start flash).units.devices

    first : (i : ℕ) → i < 1 → slice_index uno_wiring.first_pin i ≡ length (drives_of mcu (take i (uno_starts flash)))
    first zero h = refl
    first (suc i) h = absurd (omega arith)

-- what holds of one part holds of each part of the board
at_one : (Q : McuAt → Type 0) (m : McuAt) → Q m → (k : ℕ) (p : McuAt) → slice_get (m ∷ []) k ≡ Some p → Q p
at_one Q m q zero p e =
    let same : m ≡ p = cc in
    subst Q same q
at_one Q m q (suc zero) p e = absurd (cc)
at_one Q m q (suc (suc k)) p e = absurd (cc)

pub one_fresh : (m : McuAt) → m.cycle ≡ 0 → m.wakes ≡ 0 → AreFresh mcu (λ p. p.mcu) (λ p. p.cycle) (λ p. p.wakes) (m ∷ [])
one_fresh m at never = record {
  at_start = at_one (λ p. p.cycle ≡ 0) m at;
  never_woken = at_one (λ p. p.wakes ≡ 0) m never;
  are_valid = λ k p e. refl;
}
