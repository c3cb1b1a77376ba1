-- The frames on a serial bus, read from the levels of its lines: UART with eight data bits, no parity and one stop bit; SPI (the
-- four modes of CPOL and CPHA, the highest bit first); I2C (NXP UM10204, section 3.1).
use Rattle.std.specs.Prelude.{ℕ, zero, suc, ◌+◌, ◌-◌, ◌*◌, ◌/◌, ◌%◌, ◌≤◌, ◌<◌, nat_le, nat_lt, ◌==◌, Bool, true, false, not, ◌&&◌, if◌then◌else◌, List, [], ◌∷◌, ◌++◌, codes, decimal, slice_get, unwrap_or}
use Rattle.sim_base.specs.declared.signal.Level.TheVariants as levels
use Rattle.sim_base.specs.Signal.{reads}
use Rattle.wave_decode.specs.declared.bus.Bus.{Bus}
use Rattle.wave_decode.specs.declared.bus.Bus.TheVariants as buses
use Rattle.wave_decode.specs.declared.bus.Heard.{Heard}
use Rattle.wave_decode.specs.Bits.{shifted, number_from}
use Rattle.wave_decode.specs.Levels.{Levels, LevelRow}
use Rattle.wave_decode.specs.Rising.{level_at, IsRising}

-- ---- the lines

-- a hexadecimal digit, in upper case
abbrev pub hex_digit : ℕ → ℕ
hex_digit d = if nat_lt d 10 then 48 + d else 55 + d

abbrev pub byte_word : ℕ → List ℕ
byte_word byte = codes "0x" ++ hex_digit (byte / 16) ∷ hex_digit (byte % 16) ∷ []

-- a bus, a cycle, and what is said
abbrev pub told_line : List ℕ → ℕ → List ℕ → List ℕ
told_line bus t what = bus ++ codes " " ++ decimal t ++ codes " " ++ what ++ codes "\n"

abbrev pub uart_line : ℕ → ℕ → Bool → List ℕ
uart_line t byte stop = told_line (codes "uart") t (byte_word byte ++ (if stop then codes " ok" else codes " framing"))

abbrev pub spi_line : ℕ → ℕ → List ℕ
spi_line t byte = told_line (codes "spi") t (byte_word byte)

abbrev pub i2c_line : ℕ → ℕ → Bool → List ℕ
i2c_line t byte ninth = told_line (codes "i2c") t (byte_word byte ++ (if ninth then codes " nack" else codes " ack"))

abbrev pub start_line : ℕ → List ℕ
start_line t = told_line (codes "i2c") t (codes "start")

abbrev pub stop_line : ℕ → List ℕ
stop_line t = told_line (codes "i2c") t (codes "stop")

-- ---- a UART

-- A frame begins at cycle t: eight bits, the lowest first, and the stop bit, each read in its middle. Reading goes on after the
-- stop bit's; it ends where a cycle is needed that the wave has not.
abbrev pub uart_frame : ℕ → ℕ → (ℕ → Bool) → ℕ → Heard → Heard × List ℕ
uart_frame bit n line t s =
    if nat_lt (t + 9 * bit + bit / 2) n
    then (record s { from = t + 9 * bit + bit / 2 + 1 }, uart_line t (number_from line bit (t + bit + bit / 2) 8) (line (t + 9 * bit + bit / 2)))
    else (record s { from = n }, [])

-- A line falls at cycle t: a frame begins where it is 0 in the middle of the start bit too, else reading goes on after that.
abbrev pub uart_start : ℕ → ℕ → (ℕ → Bool) → ℕ → Heard → Heard × List ℕ
uart_start bit n line t s =
    if nat_lt (t + bit / 2) n
    then (if line (t + bit / 2) then (record s { from = t + bit / 2 + 1 }, []) else uart_frame bit n line t s)
    else (record s { from = n }, [])

-- what comes in cycle t, in which the line is `now` and before which it was `was`
abbrev pub uart_at : ℕ → ℕ → (ℕ → Bool) → Bool → Bool → ℕ → Heard → Heard × List ℕ
uart_at bit n line was now t s = if nat_le s.from t && (was && not now) then uart_start bit n line t s else (s, [])

-- ---- SPI

-- the clock's idle level, CPOL, is 1 in modes 2 and 3; data are read at the edge back to it, CPHA, in modes 1 and 3
abbrev pub is_idle_high : ℕ → Bool
is_idle_high mode = mode / 2 == 1

abbrev pub is_second_edge : ℕ → Bool
is_second_edge mode = mode % 2 == 1

-- whether the clock is at the level at which an edge ends that reads a bit
abbrev pub reads_at : ℕ → Bool → Bool
reads_at mode clock = if is_second_edge mode then (if is_idle_high mode then clock else not clock) else (if is_idle_high mode then not clock else clock)

-- each eight bits are a byte
abbrev pub spi_bit : ℕ → Bool → Heard → Heard × List ℕ
spi_bit t bit s =
    if nat_lt s.count 7 then (record s { count = s.count + 1; value = shifted s.value bit }, [])
    else (record s { count = 0 }, spi_line t (shifted s.value bit))

abbrev pub differ : Bool → Bool → Bool
differ true b = not b
differ false b = b

abbrev pub spi_at : ℕ → Bool → Bool → Bool → ℕ → Heard → Heard × List ℕ
spi_at mode was clock bit t s = if differ was clock && reads_at mode clock then spi_bit t bit s else (s, [])

-- ---- I2C

-- each nine bits are a byte and its acknowledge, which is 0
abbrev pub i2c_nine : ℕ → Bool → Heard → Heard × List ℕ
i2c_nine t bit s =
    if nat_lt s.count 8 then (record s { count = s.count + 1; value = shifted s.value bit }, [])
    else (record s { count = 0 }, i2c_line t s.value bit)

-- bits count from a START to a STOP
abbrev pub i2c_bit : ℕ → Bool → Heard → Heard × List ℕ
i2c_bit t bit s = if s.started then i2c_nine t bit s else (s, [])

-- While the clock is 1, data that fall are a START and data that rise a STOP; a bit is read where the clock rises.
abbrev pub i2c_at : Bool → Bool → Bool → Bool → ℕ → Heard → Heard × List ℕ
i2c_at clock_was clock line_was line t s =
    if (clock_was && clock) && (line_was && not line) then (record s { started = true; count = 0 }, start_line t)
    else if (clock_was && clock) && (not line_was && line) then (record s { started = false; count = 0 }, stop_line t)
    else if not clock_was && clock then i2c_bit t line s
    else (s, [])

-- ---- cycle by cycle

-- what comes in cycle t of n, in which two lines are these and before which they were those; the first one is read ahead
abbrev pub heard_at : Bus → ℕ → (ℕ → Bool) → Bool → Bool → Bool → Bool → ℕ → Heard → Heard × List ℕ
heard_at (buses.Uart bit) n line a_was a b_was b t s = uart_at bit n line a_was a t s
heard_at (buses.Spi mode) n line a_was a b_was b t s = spi_at mode a_was a b t s
heard_at buses.I2c n line a_was a b_was b t s = i2c_at a_was a b_was b t s

-- what comes between cycle t and the next, where two lines read so
abbrev pub between : Bus → ℕ → (ℕ → Bool) → (ℕ → Bool) → ℕ → Heard → Heard × List ℕ
between bus n a b t s = heard_at bus n a (a t) (a (suc t)) (b t) (b (suc t)) (suc t) s

-- nothing is heard yet
abbrev pub nothing : Heard
nothing = record { from = 0; started = false; count = 0; value = 0 }

-- a text goes on
abbrev pub goes_on : Heard × List ℕ → (Heard → Heard × List ℕ) → Heard × List ℕ
goes_on x next = ((next x.0).0, x.1 ++ (next x.0).1)

-- what is heard up to cycle t, and the lines that tell it
unfoldable pub told : Bus → ℕ → (ℕ → Bool) → (ℕ → Bool) → ℕ → Heard × List ℕ
told bus n a b zero = (nothing, [])
told bus n a b (suc t) = goes_on (told bus n a b t) (between bus n a b t)

-- the rows of line k; none where there is no such line
abbrev pub line_rows : Levels → ℕ → List LevelRow
line_rows levels k = unwrap_or (slice_get levels.rows k) []

-- what a line of these rows reads in cycle t
abbrev pub reading : List LevelRow → ℕ → Bool
reading rows t = reads (level_at levels.Z rows t)

-- the lines for a bus of these two lines in n cycles
abbrev pub heard_text : Bus → ℕ → List LevelRow → List LevelRow → List ℕ
heard_text bus n of_a of_b = (told bus n (reading of_a) (reading of_b) (n - 1)).1

-- The lines that tell the frames on a bus, from the first cycle to the last.
abbrev pub frames_text : Bus → Levels → List ℕ
frames_text bus rows = heard_text bus rows.cycles (line_rows rows 0) (line_rows rows 1)

-- ---- what is asked of a bus and its rows

-- how many lines a bus has
abbrev pub line_count : Bus → ℕ
line_count (buses.Uart bit) = 1
line_count (buses.Spi mode) = 2
line_count buses.I2c = 2

-- bits of 2 to 1,000,000 cycles, modes of 0 to 3
abbrev pub IsBus : Bus → Type 0
IsBus (buses.Uart bit) = (2 ≤ bit) × (bit ≤ 1000000)
IsBus (buses.Spi mode) = mode < 4
IsBus buses.I2c = Unit {0}

-- rows of rising cycles for each line, and no more cycles than a run has
pub record AreHeard (rows : Levels) : Type 0 where
  pub early : rows.cycles ≤ 160000000
  pub rising : (k : ℕ) → IsRising 0 (line_rows rows k)
