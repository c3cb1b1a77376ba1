-- Small traffic, worked by hand.
use Rattle.std.proofs.Common.{◌≡◌, ℕ, List, [], ◌∷◌, Bool, true, false, refl}
use Rattle.std.specs.Prelude.{get_or}
use Rattle.slave_i2c.specs.declared.lines.Lines.{Lines}
use Rattle.law_oled.specs.Traffic.{bytes, traffic}
use Rattle.law_oled.specs.Shown.{picture_of}

both : Bool → Bool → Lines
both scl sda = record { scl = scl; sda = sda }

-- idle lines, START, a bit 1, a bit 0
rows : List Lines
rows = both true true ∷ both true false ∷ both false false ∷ both false true ∷ both true true ∷ both false true ∷ both false false ∷ both true false ∷ []

two_bits : traffic (λ (t : ℕ). get_or rows t (both false false)) 8 ≡ record { busy = true; strings = (true ∷ false ∷ []) ∷ [] }
unfolding traffic both rows
two_bits = refl

-- the write 78 00 AF, each byte with its answer bit
bits : List Bool
bits =
    false ∷ true ∷ true ∷ true ∷ true ∷ false ∷ false ∷ false ∷ false ∷
    false ∷ false ∷ false ∷ false ∷ false ∷ false ∷ false ∷ false ∷ false ∷
    true ∷ false ∷ true ∷ false ∷ true ∷ true ∷ true ∷ true ∷ false ∷ []

three_bytes : bytes bits ≡ 0x78 ∷ 0x00 ∷ 0xAF ∷ []
unfolding bytes bits
three_bytes = refl

-- its last byte counts before its answer bit
without_answer : bytes (false ∷ true ∷ true ∷ true ∷ true ∷ false ∷ false ∷ false ∷ []) ≡ 0x78 ∷ []
unfolding bytes
without_answer = refl

-- it switches the display at 0x3C on, and not the one at 0x3D
switches_on : (picture_of 0x3C (bits ∷ [])).on ≡ true
unfolding bytes bits
switches_on = refl

leaves_off : (picture_of 0x3D (bits ∷ [])).on ≡ false
unfolding bytes bits
leaves_off = refl
