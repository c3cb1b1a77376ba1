-- A seven-segment digit: it shows through which segments current could flow, and drives nothing (Wokwi documentation,
-- "wokwi-7segment"; when a segment counts as lit is the profile's).
use Rattle.std.proofs.Common.{refl, ap, sym, arith}
use Rattle.std.proofs.lemmas.Bool.{eqb-true}
use Rattle.std.proofs.lemmas.Bool.Decides.{nat_tests}
use Rattle.std.specs.Prelude.{◌≡◌, ◌≤◌, ℕ, ◌+◌, ◌*◌, ◌==◌, List, [], Bool, true, false, ◌&&◌, if◌then◌else◌, replicate}
use Rattle.sim_base.specs.declared.signal.Drive.TheVariants as drives
use Rattle.sim_base.specs.declared.signal.Level.{Level}
use Rattle.part_catalog.specs.declared.settings.Settings.{Settings}
use Rattle.part_reactive.specs.Pins.{at_pin, is_low, reads_at}
use Rattle.part_reactive.specs.Reaction.{Reaction, ReactionLaws}
use Rattle.parts_display.specs.Halves.{half}

-- behind the segments A to G and DP
abbrev pub common : ℕ
common = 8

-- With a common anode a segment is lit where COM reads 1 and the segment is Low; with a common cathode the other way round.
abbrev pub is_lit : Bool → List Level → ℕ → Bool
is_lit cathode ls segment =
    if cathode then is_low (at_pin ls common) && reads_at ls segment
    else reads_at ls common && is_low (at_pin ls segment)

-- A in bit 0 to G in bit 6, DP in bit 7
abbrev pub lit_segments : Bool → List Level → ℕ
lit_segments cathode ls =
    half (is_lit cathode ls 0) (is_lit cathode ls 1) (is_lit cathode ls 2) (is_lit cathode ls 3)
    + 16 * half (is_lit cathode ls 4) (is_lit cathode ls 5) (is_lit cathode ls 6) (is_lit cathode ls 7)

pub record SevenState : Type 0 where
  pub cathode : Bool
  pub segments : ℕ

abbrev pub dark : Settings → SevenState
dark settings = record { cathode = settings.choice == 1; segments = 0 }

abbrev pub seven : Reaction SevenState
seven = record {
  react = λ s before now input. record { cathode = s.cathode; segments = lit_segments s.cathode now };
  drives = λ s. replicate 11 drives.Z;
  contacts = λ s. [];
  agrees = λ s ls. s.segments == lit_segments s.cathode ls;
  counted = λ s. 0;
}

same_there : (n : ℕ) → (n == n) ≡ true
same_there n = grind (arith, nat_tests)

pub seven_laws : ReactionLaws seven
seven_laws = record {
  still = λ s ls h. ap (λ (n : ℕ). record { cathode = s.cathode; segments = n }) (sym (eqb-true s.segments (lit_segments s.cathode ls) h));
  agrees_then = λ s before now input. same_there (lit_segments s.cathode now);
  keeps_pins = λ s before now input. refl;
  keeps_contacts = λ s before now input. refl;
  counts_once = λ s before now input. omega arith;
}
