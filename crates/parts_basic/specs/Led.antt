-- The LED: it shows whether current could flow, and drives nothing (Wokwi documentation, "wokwi-led"; when it counts as lit
-- is the profile's).
use Rattle.std.proofs.Common.{refl, ap, arith}
use Rattle.std.specs.Prelude.{◌≡◌, ◌≤◌, ℕ, ◌+◌, List, [], ◌∷◌, Bool, true, false, not, ◌&&◌, if◌then◌else◌}
use Rattle.sim_base.specs.declared.signal.Drive.TheVariants as drives
use Rattle.sim_base.specs.declared.signal.Level.{Level}
use Rattle.part_reactive.specs.Pins.{at_pin, is_low, reads_at}
use Rattle.part_reactive.specs.Reaction.{Reaction, ReactionLaws}

-- lit on these levels of A and C: A reads 1, and C is Low
abbrev pub is_lit : List Level → Bool
is_lit ls = reads_at ls 0 && is_low (at_pin ls 1)

-- in how many cycles it became lit
pub record LedState : Type 0 where
  pub count : ℕ

abbrev pub unlit : LedState
unlit = record { count = 0 }

abbrev pub led : Reaction LedState
led = record {
  react = λ s before now input. record { count = if is_lit now && not (is_lit before) then s.count + 1 else s.count };
  drives = λ s. drives.Z ∷ drives.Z ∷ [];
  contacts = λ s. [];
  agrees = λ s ls. true;
  counted = λ s. s.count;
}

-- what is lit does not become lit
not_again : (lit : Bool) (n : ℕ) → (if lit && not lit then n + 1 else n) ≡ n
not_again true n = refl
not_again false n = refl

once_more : (rises : Bool) (n : ℕ) → (if rises then n + 1 else n) ≤ n + 1
once_more true n = omega arith
once_more false n = omega arith

pub led_laws : ReactionLaws led
led_laws = record {
  still = λ s ls h. ap (λ (n : ℕ). record { count = n }) (not_again (is_lit ls) s.count);
  agrees_then = λ s before now input. refl;
  keeps_pins = λ s before now input. refl;
  keeps_contacts = λ s before now input. refl;
  counts_once = λ s before now input. once_more (is_lit now && not (is_lit before)) s.count;
}
