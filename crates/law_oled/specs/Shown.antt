-- What an OLED shows, by the bytes that were written to it (SSD1306 data sheet, "MCU I2C Interface").
use Rattle.std.specs.Prelude.{ℕ, List, [], ◌∷◌, Bool}
use Rattle.sim_base.specs.declared.signal.Level.{Level}
use Rattle.slave_i2c.specs.declared.lines.Lines.{Lines}
use Rattle.part_oled.specs.declared.stream.Stream.{Stream}
use Rattle.part_oled.specs.declared.stream.Stream.TheVariants.{Control}
use Rattle.part_oled.specs.Picture.{Picture, dark}
use Rattle.part_oled.specs.Stream.{put, after}
use Rattle.part_oled.specs.Oled.{lines_at}
use Rattle.law_oled.specs.Traffic.{bytes, traffic, written}

-- a picture, and what the next byte of a write is, after further bytes of the write
abbrev pub taken : Picture × Stream → List ℕ → Picture × Stream
taken w [] = w
taken w (x ∷ xs) = taken (put w.0 w.1 x, after w.1 x) xs

-- The picture after all writes to an address, each of which begins with a control byte; the latest is the first of these strings.
abbrev pub picture_of : ℕ → List (List Bool) → Picture
picture_of address [] = dark
picture_of address (bits ∷ earlier) = (taken (picture_of address earlier, Control) (written address (bytes bits))).0

-- what the lines of an OLED read, by the levels of its pins in each cycle
abbrev pub lines_in : (ℕ → List Level) → ℕ → Lines
lines_in levels t = lines_at (levels t)

-- the picture at cycle t of an OLED at an address, by the levels of its pins in the cycles before
abbrev pub shown_at : ℕ → (ℕ → List Level) → ℕ → Picture
shown_at address levels t = picture_of address (traffic (lines_in levels) t).strings
