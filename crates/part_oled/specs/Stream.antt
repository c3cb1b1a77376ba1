-- The bytes of one write to an OLED: control bytes, which tell what the bytes after them are, commands and data (SSD1306 data sheet,
-- "I2C-bus Write data", "Write mode for I2C").
use Rattle.std.specs.Prelude.{ℕ, Bool, true, false, if◌then◌else◌}
use Rattle.part_reactive.specs.Pins.{bit}
use Rattle.part_oled.specs.declared.stream.Stream.{Stream}
use Rattle.part_oled.specs.declared.stream.Stream.TheVariants.{Control, One, All}
use Rattle.part_oled.specs.Picture.{Picture, with_command, with_data}

-- Bit 7 of a control byte (Co) tells that one byte follows and then another control byte, bit 6 (D/C) that data follow.
abbrev pub controlled : ℕ → Stream
controlled x = if bit 7 x then One (bit 6 x) else All (bit 6 x)

abbrev pub with_byte : Picture → Bool → ℕ → Picture
with_byte p is_data x = if is_data then with_data p x else with_command p x

-- A byte of a write.
abbrev pub put : Picture → Stream → ℕ → Picture
put p Control x = p
put p (One is_data) x = with_byte p is_data x
put p (All is_data) x = with_byte p is_data x

abbrev pub after : Stream → ℕ → Stream
after Control x = controlled x
after (One is_data) x = Control
after (All is_data) x = All is_data
