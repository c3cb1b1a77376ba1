-- The traffic on two lines: the bits after each START, and the bytes that they are (UM10204, "START and STOP conditions", "Data
-- validity", "Byte format").
use Rattle.std.specs.Prelude.{ℕ, zero, suc, ◌+◌, ◌*◌, ◌/◌, List, [], ◌∷◌, ◌++◌, length, take, drop, Bool, true, false, if◌then◌else◌, ◌==◌}
use Rattle.avr_unit.specs.Bits.{one}
use Rattle.slave_i2c.specs.declared.lines.Lines.{Lines}
use Rattle.slave_i2c.specs.Lines.{is_start, is_stop, rises}

-- The bits after each START, the latest START first, each from its first bit on; and whether the bus is busy: no STOP has come since.
pub record Traffic : Type 0 where
  pub busy : Bool
  pub strings : List (List Bool)

-- before the first START
abbrev pub quiet : Traffic
quiet = record { busy = false; strings = [] }

-- A bit after a START belongs to it; one after a STOP belongs to none.
abbrev pub with_bit : Bool → List (List Bool) → Bool → List (List Bool)
with_bit false strings bit = strings
with_bit true [] bit = []
with_bit true (bits ∷ earlier) bit = (bits ++ bit ∷ []) ∷ earlier

-- One cycle, from what the lines read in the cycle before and read in this one: a bit is what SDA reads when SCL rises.
abbrev pub moved : Traffic → Lines → Lines → Traffic
moved t before now =
    if is_start before now then record { busy = true; strings = [] ∷ t.strings }
    else if is_stop before now then record { busy = false; strings = t.strings }
    else if rises before now then record { busy = t.busy; strings = with_bit t.busy t.strings now.sda }
    else t

-- what the lines read in the cycle before; before cycle 0 nothing has driven them
abbrev pub before : (ℕ → Lines) → ℕ → Lines
before lines zero = record { scl = false; sda = false }
before lines (suc t) = lines t

-- the traffic in the cycles before cycle t
unfoldable pub traffic : (ℕ → Lines) → ℕ → Traffic
traffic lines zero = quiet
traffic lines (suc t) = moved (traffic lines t) (before lines t) (lines t)

-- the number that bits are, the highest first
abbrev pub value_after : ℕ → List Bool → ℕ
value_after n [] = n
value_after n (bit ∷ bits) = value_after (2 * n + one bit) bits

abbrev pub value : List Bool → ℕ
value bits = value_after 0 bits

-- Byte j is eight bits, and the ninth bit after each byte is the answer to it.
abbrev pub byte_at : List Bool → ℕ → ℕ
byte_at bits j = value (take 8 (drop (9 * j) bits))

abbrev pub bytes_below : List Bool → ℕ → List ℕ
bytes_below bits zero = []
bytes_below bits (suc j) = bytes_below bits j ++ byte_at bits j ∷ []

-- The bytes that have come: each counts from its eighth bit on.
unfoldable pub bytes : List Bool → List ℕ
bytes bits = bytes_below bits ((length bits + 1) / 9)

-- What a write to an address of seven bits wrote: the bytes after the first, if that is twice the address (UM10204, "The slave
-- address and R/W bit").
abbrev pub written : ℕ → List ℕ → List ℕ
written address [] = []
written address (first ∷ rest) = if first == 2 * address then rest else []
