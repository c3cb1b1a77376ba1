-- Parts whose drives and contacts depend on a set value alone: switches, the keypad, the potentiometer, a source of levels, supplies, and parts whose wires
-- or resistor are in the wiring (Wokwi documentation, the pages of the parts).
use Rattle.std.proofs.Common.{refl, sym, ◌∙◌, arith}
use Rattle.std.proofs.lemmas.List.{length-replicate}
use Rattle.std.specs.Prelude.{◌≡◌, ◌≤◌, ℕ, zero, suc, ◌==◌, List, [], ◌∷◌, length, map, replicate, Bool, true, Option, None, Some, min, unwrap_or, if◌then◌else◌}
use Rattle.sim_base.specs.declared.signal.Drive.{Drive}
use Rattle.sim_base.specs.declared.signal.Drive.TheVariants as drives
use Rattle.sim_base.specs.declared.signal.Level.{Level}
use Rattle.part_catalog.specs.declared.kind.Kind.{Kind}
use Rattle.part_catalog.specs.declared.kind.Kind.TheVariants as kinds
use Rattle.part_catalog.specs.declared.settings.Settings.{Settings}
use Rattle.part_catalog.specs.Pins.{pin_names, contacts_in}
use Rattle.part_catalog.specs.Attributes.{greatest_of}
use Rattle.part_reactive.specs.Pins.{bit}
use Rattle.part_reactive.specs.Reaction.{Reaction, ReactionLaws}

-- which part it is, and its value, which is 0 for a part that nothing sets
pub record PassiveState : Type 0 where
  pub kind : Kind
  pub value : ℕ

-- a value that is set: one above the greatest counts as the greatest
abbrev pub set_to : Kind → ℕ → ℕ
set_to kind value = min value (unwrap_or (greatest_of kind) 0)

-- what a source drives: Low at 0, High at 1, nothing at 2
abbrev pub source_drive : ℕ → Drive
source_drive value = if value == 0 then drives.Low else if value == 1 then drives.High else drives.Z

-- what its pins drive
abbrev pub drives_at : Kind → ℕ → List Drive
drives_at kinds.Vcc value = drives.High ∷ []
drives_at kinds.Gnd value = drives.Low ∷ []
drives_at kinds.Potentiometer value = drives.Z ∷ drives.Wiper value ∷ drives.Z ∷ []
drives_at kinds.Source value = source_drive value ∷ []
drives_at kind value = replicate (length (pin_names kind)) drives.Z

-- so many bits of a value, from one on
abbrev pub bits_from : ℕ → ℕ → ℕ → List Bool
bits_from k zero value = []
bits_from k (suc n) value = bit k value ∷ bits_from (suc k) n value

-- which of its contacts are closed; a key of a keypad has bit 4 times its row plus its column, both from 0
abbrev pub closed_at : Kind → ℕ → List Bool
closed_at kinds.Pushbutton value = (value == 1) ∷ []
closed_at kinds.SlideSwitch value = (value == 0) ∷ (value == 1) ∷ []
closed_at kinds.DipSwitch8 value = bits_from 0 8 value
closed_at kinds.MembraneKeypad value = bits_from 0 16 value
closed_at kind value = []

abbrev pub value_after : Kind → ℕ → Option ℕ → ℕ
value_after kind value None = value
value_after kind value (Some new) = set_to kind new

abbrev pub passive : Reaction PassiveState
passive = record {
  react = λ s before now input. record { kind = s.kind; value = value_after s.kind s.value input };
  drives = λ s. drives_at s.kind s.value;
  contacts = λ s. closed_at s.kind s.value;
  agrees = λ s ls. true;
  counted = λ s. 0;
}

-- a part as its attributes set it
abbrev pub new_passive : Kind → Settings → PassiveState
new_passive kind settings = record { kind = kind; value = set_to kind settings.number }

-- it has the pins and the contacts of its kind
pub length-drives_at : (kind : Kind) (value : ℕ) → length (drives_at kind value) ≡ length (pin_names kind)
unfolding pin_names
length-drives_at kinds.Vcc value = refl
length-drives_at kinds.Gnd value = refl
length-drives_at kinds.Potentiometer value = refl
length-drives_at kinds.Source value = refl
length-drives_at kind value = length-replicate (length (pin_names kind)) drives.Z

pub length-closed_at : (kind : Kind) (value : ℕ) → length (closed_at kind value) ≡ length (contacts_in kind)
unfolding pin_names contacts_in
length-closed_at kinds.Pushbutton value = refl
length-closed_at kind value = refl

pub passive_laws : ReactionLaws passive
passive_laws = record {
  still = λ s ls h. refl;
  agrees_then = λ s before now input. refl;
  keeps_pins = λ s before now input. length-drives_at s.kind (value_after s.kind s.value input) ∙ sym (length-drives_at s.kind s.value);
  keeps_contacts = λ s before now input. length-closed_at s.kind (value_after s.kind s.value input) ∙ sym (length-closed_at s.kind s.value);
  counts_once = λ s before now input. omega arith;
}
