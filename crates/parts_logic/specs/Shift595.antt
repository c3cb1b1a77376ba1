-- The 74HC595, an 8-bit shift register with a storage register and outputs of three states (74HC595 data sheet, "Function table"
-- and "Pin description"; the delay of one cycle, and that a pin which reads 0 and is not Low does not clear, are the profile's).
use Rattle.std.proofs.Common.{refl, ap, sym, ◌∙◌, arith}
use Rattle.std.proofs.Math.Bool.{beq}
use Rattle.std.proofs.lemmas.Bool.{and_parts, eqb-true}
use Rattle.std.specs.Prelude.{◌≡◌, ℕ, ◌+◌, ◌*◌, ◌%◌, ◌==◌, List, [], ◌∷◌, Bool, true, false, not, ◌&&◌, ◌||◌, if◌then◌else◌}
use Rattle.sim_base.specs.declared.signal.Drive.{Drive}
use Rattle.sim_base.specs.declared.signal.Drive.TheVariants as drives
use Rattle.sim_base.specs.declared.signal.Level.{Level}
use Rattle.part_reactive.specs.Pins.{at_pin, is_low, reads_at, rises, output, digit, bit}
use Rattle.part_reactive.specs.Reaction.{Reaction, ReactionLaws}
use Rattle.parts_logic.specs.Same.{beq_then, beq_self}

-- the pins that it reads; behind them stand Q0 to Q7, Q7S, GND and VCC
abbrev pub ds : ℕ
ds = 0

abbrev pub shcp : ℕ
shcp = 1

abbrev pub stcp : ℕ
stcp = 2

abbrev pub mr : ℕ
mr = 3

abbrev pub oe : ℕ
oe = 4

-- the stages and the storage register, stage 0 and Q0 in bit 0; whether OE read 1 in the last step
pub record ShiftState : Type 0 where
  pub stages : ℕ
  pub storage : ℕ
  pub off : Bool

-- MR Low clears the stages; else a rise of SHCP moves each one on, and DS into stage 0
abbrev pub shifted : List Level → List Level → ℕ → ℕ
shifted before now stages =
    if is_low (at_pin now mr) then 0
    else if rises before now shcp then stages % 128 * 2 + digit (reads_at now ds)
    else stages

-- a rise of STCP stores the stages as they were before this cycle
abbrev pub stored : List Level → List Level → ℕ → ℕ → ℕ
stored before now stages storage = if rises before now stcp then stages else storage

-- Q0 to Q7 show the storage register, and drive nothing while OE reads 1
abbrev pub q : Bool → Bool → Drive
q off high = if off then drives.Z else output high

abbrev pub drives_of : Bool → ℕ → Bool → List Drive
drives_of off storage q7s =
    drives.Z ∷ drives.Z ∷ drives.Z ∷ drives.Z ∷ drives.Z ∷
    q off (bit 0 storage) ∷ q off (bit 1 storage) ∷ q off (bit 2 storage) ∷ q off (bit 3 storage) ∷
    q off (bit 4 storage) ∷ q off (bit 5 storage) ∷ q off (bit 6 storage) ∷ q off (bit 7 storage) ∷
    output q7s ∷ drives.Z ∷ drives.Z ∷ []

abbrev pub shift595 : Reaction ShiftState
shift595 = record {
  react = λ s before now input. record { stages = shifted before now s.stages; storage = stored before now s.stages s.storage; off = reads_at now oe };
  drives = λ s. drives_of s.off s.storage (bit 7 s.stages);
  contacts = λ s. [];
  agrees = λ s ls. beq s.off (reads_at ls oe) && (not (is_low (at_pin ls mr)) || s.stages == 0);
  counted = λ s. 0;
}

abbrev pub cleared : ShiftState
cleared = record { stages = 0; storage = 0; off = false }

-- on the same levels once more nothing rises
not_again : (one : Bool) (next n : ℕ) → (if one && not one then next else n) ≡ n
not_again true next n = refl
not_again false next n = refl

still_there : (low one : Bool) (next n : ℕ) → (not low || n == 0) ≡ true → (if low then 0 else if one && not one then next else n) ≡ n
still_there true one next n h = sym (eqb-true n 0 h)
still_there false one next n h = not_again one next n

all_cleared : (low : Bool) (n : ℕ) → (not low || (if low then 0 else n) == 0) ≡ true
all_cleared true n = refl
all_cleared false n = refl

pub shift595_laws : ReactionLaws shift595
shift595_laws = record {
  still = λ s ls h.
      let agreed = and_parts (beq s.off (reads_at ls oe)) (not (is_low (at_pin ls mr)) || s.stages == 0) h in
      ap (λ (n : ℕ). record { stages = n; storage = stored ls ls s.stages s.storage; off = reads_at ls oe }) (still_there (is_low (at_pin ls mr)) (reads_at ls shcp) (s.stages % 128 * 2 + digit (reads_at ls ds)) s.stages agreed.1)
      ∙ ap (λ (n : ℕ). record { stages = s.stages; storage = n; off = reads_at ls oe }) (not_again (reads_at ls stcp) s.stages s.storage)
      ∙ ap (λ (off : Bool). record { stages = s.stages; storage = s.storage; off = off }) (beq_then s.off (reads_at ls oe) agreed.0);
  agrees_then = λ s before now input.
      rw (beq_self (reads_at now oe)) (all_cleared (is_low (at_pin now mr)) (if rises before now shcp then s.stages % 128 * 2 + digit (reads_at now ds) else s.stages));
  keeps_pins = λ s before now input. refl;
  keeps_contacts = λ s before now input. refl;
  counts_once = λ s before now input. omega arith;
}
