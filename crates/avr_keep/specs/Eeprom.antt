-- The EEPROM, cycle by cycle (data sheet, "EEPROM Data Memory", "EECR - The EEPROM Control Register").
use Rattle.std.specs.Prelude.{ℕ, ◌+◌, ◌*◌, ◌/◌, ◌%◌, ◌==◌, ◌&&◌, ◌||◌, not, Bool, false, if◌then◌else◌, List, replicate, Option, None, Some, is_some, is_none, bit_and, slice_index, slice_set}
use Rattle.avr_unit.specs.Bits.{is_set, one}
use Rattle.avr_unit.specs.Coming.{comes}
use Rattle.avr_keep.specs.declared.eeprom.Programming.{Programming}
use Rattle.avr_keep.specs.declared.eeprom.Eeprom.{Eeprom}
use Rattle.avr_keep.specs.Watchdog.{open_after}

-- EEPM1:0 ("EEPROM Mode Bits"): 1 erases alone, 2 writes alone, each in 1.8 ms; 0 does both, in 3.4 ms, and 3 counts as 0
-- (profile).
abbrev pub duration : ℕ → ℕ
duration mode = if mode == 1 || mode == 2 then 28800 else 54400

-- Erasing makes a byte FF, and writing can only clear bits of it.
abbrev pub programmed : ℕ → ℕ → ℕ → ℕ
programmed mode byte old =
    if mode == 1 then 0xFF
    else if mode == 2 then bit_and old byte
    else byte

abbrev pub end_of : Option Programming → Option ℕ
end_of None = None
end_of (Some p) = Some p.end

-- the byte changes in the last cycle of its write
abbrev pub finished : Eeprom → Programming → Eeprom
finished e p = record e { programming = None; cells = slice_set e.cells p.address (programmed p.mode p.byte (slice_index e.cells p.address)) }

abbrev pub written : Eeprom → Option Programming → ℕ → Eeprom
written e None t = e
written e (Some p) t = if p.end == t then finished e p else e

-- One cycle.
abbrev pub eeprom_step : Eeprom → ℕ → Eeprom
eeprom_step e t = let a = written e e.programming t in record a { window = open_after a.window t }

-- the window ends, or the write
abbrev pub eeprom_due : Eeprom → ℕ → Bool
eeprom_due e t = comes e.window t || comes (end_of e.programming) t

-- EEMPE without EEPE opens a window of the next four cycles. EEPE in it begins a write, and EERE reads, where none is on the
-- way; EEPM keeps its value while one is ("EEPE: EEPROM Write Enable", "EERE: EEPROM Read Enable").
abbrev pub controlled : Eeprom → ℕ → ℕ → Eeprom
controlled e t x = record e {
  eerie = is_set x 3;
  eepm = if is_none e.programming then x / 16 % 4 else e.eepm;
  window = if is_set x 2 && not (is_set x 1) then Some (t + 4) else e.window;
}

-- a write takes address, byte and mode
abbrev pub begun : Eeprom → ℕ → Programming
begun e t = record { end = t + duration e.eepm; address = e.eear; byte = e.eedr; mode = e.eepm }

abbrev pub starts : Eeprom → ℕ → Bool
starts e x = is_set x 1 && (is_some e.window && is_none e.programming)

abbrev pub fetched : Eeprom → ℕ → ℕ
fetched e x = if is_set x 0 && is_none e.programming then slice_index e.cells e.eear else e.eedr

abbrev pub with_eecr : Eeprom → ℕ → ℕ → Eeprom
with_eecr e t x =
    let c = controlled e t x in
    record c { programming = if starts e x then Some (begun c t) else e.programming; eedr = fetched e x }

-- EEPM1:0 and EERIE
abbrev pub eecr_kept : Eeprom → ℕ
eecr_kept e = 16 * e.eepm + 8 * one e.eerie

abbrev pub eecr : Eeprom → ℕ
eecr e = eecr_kept e + 4 * one (is_some e.window) + 2 * one (is_some e.programming)

-- EEAR, whose bits above bit 9 read 0
abbrev pub with_eearl : Eeprom → ℕ → Eeprom
with_eearl e x = record e { eear = e.eear / 256 * 256 + x }

abbrev pub with_eearh : Eeprom → ℕ → Eeprom
with_eearh e x = record e { eear = x % 4 * 256 + e.eear % 256 }

-- as it is sold: each byte FF
unfoldable pub blank : List ℕ
blank = replicate 1024 255

-- after reset, with these bytes
abbrev pub eeprom_reset : List ℕ → Eeprom
eeprom_reset cells = record { eear = 0; eedr = 0; eepm = 0; eerie = false; window = None; programming = None; cells = cells }
