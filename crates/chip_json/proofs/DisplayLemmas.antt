-- What a file of a chip says of its pins and its display.
use Rattle.std.proofs.Common.{◌≡◌, ℕ, ◌≤◌, ◌<◌, ◌*◌, Bool, true, false, ◌&&◌, nat_le, List, length, Option, Result, Ok, refl, subst, arith}
use Rattle.std.proofs.lemmas.Bool.{leb-true, false≢true, false_from_ne_true}
use Rattle.std.proofs.lemmas.Nat.{mul-le}
use Rattle.sim_base.specs.declared.fault.Refusal.{Refusal}
use Rattle.sim_base.specs.Display.{DisplaySize, is_display}
use Rattle.document_model.specs.Reading.{◌>>=◌}
use Rattle.document_model.proofs.ReadingLemmas.{in_steps}
use Rattle.chip_json.specs.ChipJson.{chip_text}
use Rattle.chip_json.specs.Display.{display_text, pins_and_display}
use Rattle.chip_json.proofs.LimitLemmas.{few_pins}

abbrev Pins : Type 0
Pins = List (Option (List ℕ))

abbrev Found : Type 0
Found = Pins × Option DisplaySize

abbrev with_display : Pins → Option DisplaySize → Result Found Refusal
with_display pins display = Ok (pins, display)

abbrev from_pins : List ℕ → Pins → Result Found Refusal
from_pins bytes pins = display_text bytes >>= with_display pins

same_found : (pins : Pins) (display : Option DisplaySize) (found : Found) → with_display pins display ≡ Ok found → (pins, display) ≡ found
same_found pins display found e = cc

pub few_found : (bytes : List ℕ) (found : Found) → pins_and_display bytes ≡ Ok found → length found.0 ≤ 64
few_found bytes found e =
    let pins = in_steps (chip_text bytes) (from_pins bytes) found e in
    let display = in_steps (display_text bytes) (with_display pins.0) found pins.2 in
    subst (λ (f : Found). length f.0 ≤ 64) (same_found pins.0 display.0 found display.2) (few_pins bytes pins.0 pins.1)

three : (x y z : Bool) → (x && y && z) ≡ true → (x ≡ true) × (y ≡ true) × (z ≡ true)
three true true true e = (refl, refl, refl)
three true true false e = absurd (false≢true e)
three true false z e = absurd (false≢true e)
three false y z e = absurd (false≢true e)

-- no display is wider or higher than it has pixels
at_most : (w h : ℕ) → is_display w h ≡ true → (w ≤ 65536) × (h ≤ 65536)
at_most w h is =
    let tests = three (nat_le 1 w) (nat_le 1 h) (nat_le (w * h) 65536) is in
    let wide : 1 ≤ w = leb-true 1 w tests.0 in
    let high : 1 ≤ h = leb-true 1 h tests.1 in
    let few : w * h ≤ 65536 = leb-true (w * h) 65536 tests.2 in
    (omega (arith, few, mul-le w 1 w h (omega arith) high), omega (arith, few, mul-le 1 h w h wide (omega arith)))

pub too_wide : (w h : ℕ) → 65536 < w → is_display w h ≡ false
too_wide w h over = false_from_ne_true (is_display w h) (λ is. omega (arith, over, (at_most w h is).0))

pub too_high : (w h : ℕ) → 65536 < h → is_display w h ≡ false
too_high w h over = false_from_ne_true (is_display w h) (λ is. omega (arith, over, (at_most w h is).1))
