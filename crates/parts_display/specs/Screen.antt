-- The controller of a text display: two lines of 40 characters, of which 16 are shown (HD44780U data sheet, "Display Data RAM",
-- "Instructions"; that no instruction takes time, and that nothing is read or shifted, is the profile's).
use Rattle.std.specs.Prelude.{ℕ, ◌<◌, ◌+◌, ◌-◌, ◌*◌, ◌/◌, ◌==◌, ◌||◌, not, ◌&&◌, nat_lt, Bool, true, false, if◌then◌else◌}
use Rattle.std.specs.Prelude.{List, [], ◌∷◌, replicate, slice_set, get_or, Option, None, Some}
use Rattle.part_reactive.specs.Pins.{bit}

-- The character at each address; the address and whether it counts up; whether the display is on; whether bytes come in
-- 8 bits, and else the high half that came; whether data vanish.
pub record Screen : Type 0 where
  pub cells : List ℕ
  pub address : ℕ
  pub up : Bool
  pub on : Bool
  pub wide : Bool
  pub half : Option ℕ
  pub vanishes : Bool

abbrev pub spaces : List ℕ
spaces = replicate 128 32

-- off, all spaces, in 8-bit mode
abbrev pub blank : Screen
blank = record { cells = spaces; address = 0; up = true; on = false; wide = true; half = None; vanishes = false }

-- the addresses of the first line, 0x00 to 0x27, and of the second one, 0x40 to 0x67
abbrev pub holds : ℕ → Bool
holds a = nat_lt a 0x28 || (not (nat_lt a 0x40) && nat_lt a 0x68)

-- An address that holds nothing counts as the last one of the line before it.
abbrev pub counting : ℕ → ℕ
counting a = if holds a then a else if nat_lt a 0x40 then 0x27 else 0x67

-- the address after this one, and the one before it
abbrev pub next : ℕ → ℕ
next a = if a == 0x27 then 0x40 else if a == 0x67 then 0 else a + 1

abbrev pub previous : ℕ → ℕ
previous a = if a == 0x40 then 0x27 else if a == 0 then 0x67 else a - 1

abbrev pub counted : Bool → ℕ → ℕ
counted up a = if up then next (counting a) else previous (counting a)

-- Data are written at the address, which then counts.
abbrev pub with_data : Screen → ℕ → Screen
with_data s x =
    if s.vanishes then s
    else record s { cells = if holds s.address then slice_set s.cells s.address x else s.cells; address = counted s.up s.address }

-- An instruction, chosen by its highest set bit: set DDRAM address, set CGRAM address, function set, cursor or display shift,
-- display on/off control, entry mode set, return home, clear display.
abbrev pub with_instruction : Screen → ℕ → Screen
with_instruction s x =
    if not (nat_lt x 0x80) then record s { address = x - 0x80; vanishes = false }
    else if not (nat_lt x 0x40) then record s { vanishes = true }
    else if not (nat_lt x 0x20) then record s { wide = bit 4 x }
    else if not (nat_lt x 0x10) then record s { address = if bit 3 x then s.address else counted (bit 2 x) s.address }
    else if not (nat_lt x 0x08) then record s { on = bit 2 x }
    else if not (nat_lt x 0x04) then record s { up = bit 1 x }
    else if not (nat_lt x 0x02) then record s { address = 0; vanishes = false }
    else if x == 1 then record s { cells = spaces; address = 0; up = true; vanishes = false }
    else s

-- RS tells data from instructions.
abbrev pub with_byte : Screen → Bool → ℕ → Screen
with_byte s rs x = if rs then with_data s x else with_instruction s x

-- In 4-bit mode D7 to D4 are taken, the high half first.
abbrev pub with_half : Screen → Option ℕ → Bool → ℕ → Screen
with_half s None rs d = record s { half = Some (d / 16) }
with_half s (Some high) rs d = with_byte (record s { half = None }) rs (high * 16 + d / 16)

-- What D7 to D0 and RS are is taken.
abbrev pub taken : Screen → Bool → ℕ → Screen
taken s rs d = if s.wide then with_byte s rs d else with_half s s.half rs d

-- What a byte is shown as: itself from 0x20 to 0x7E, else a question mark.
abbrev pub shown : ℕ → ℕ
shown x = if nat_lt x 0x20 || nat_lt 0x7E x then 63 else x

abbrev pub shown_at : Screen → ℕ → ℕ
shown_at s a = if s.on then shown (get_or s.cells a 0) else 32

-- the 16 characters that are shown of a line, 0 or 1, which begin at 0x00 and at 0x40
abbrev pub line : Screen → ℕ → List ℕ
line s row =
    let a = 0x40 * row in
    shown_at s a ∷ shown_at s (a + 1) ∷ shown_at s (a + 2) ∷ shown_at s (a + 3) ∷
    shown_at s (a + 4) ∷ shown_at s (a + 5) ∷ shown_at s (a + 6) ∷ shown_at s (a + 7) ∷
    shown_at s (a + 8) ∷ shown_at s (a + 9) ∷ shown_at s (a + 10) ∷ shown_at s (a + 11) ∷
    shown_at s (a + 12) ∷ shown_at s (a + 13) ∷ shown_at s (a + 14) ∷ shown_at s (a + 15) ∷ []

-- a half of a byte has four bits
abbrev pub IsHalf : Option ℕ → Type 0
IsHalf None = Unit {0}
IsHalf (Some high) = high < 16
