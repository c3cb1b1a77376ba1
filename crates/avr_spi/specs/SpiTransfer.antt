-- A transfer of an SPI master (data sheet, "SPI - Serial Peripheral Interface", "Data Modes"; the cycles that bits take are the profile's).
use Rattle.std.specs.Prelude.{◌≡◌, ℕ, ◌+◌, ◌-◌, ◌*◌, ◌/◌, ◌%◌, ◌<◌, ◌≤◌, ◌==◌, ◌&&◌, not, Bool, true, false, if◌then◌else◌, List, None}
use Rattle.sim_base.specs.declared.signal.Level.{Level}
use Rattle.avr_unit.specs.Bits.{is_set}
use Rattle.avr_unit.specs.Pad.{untouched, valued}
use Rattle.avr_spi.specs.Spi.{Spi, spi, is_master, ss_low, miso}
use Rattle.avr_unit_model.specs.Life.{Act, Nothing, state, stepping}

-- the cycles of a bit, by SPI2X and SPR1:0 ("Relationship Between SCK and the Oscillator Frequency")
abbrev pub cycles_of_bit : Bool → ℕ → ℕ
cycles_of_bit false spr = if spr == 0 then 4 else if spr == 1 then 16 else if spr == 2 then 64 else 128
cycles_of_bit true spr = if spr == 0 then 2 else if spr == 1 then 8 else if spr == 2 then 32 else 64

-- which bit of the byte is the i-th on the line ("DORD: Data Order")
abbrev pub place : Bool → ℕ → ℕ
place dord i = if dord then i else 7 - i

-- SCK in the first half of a bit ("CPOL: Clock Polarity", "CPHA: Clock Phase")
abbrev pub first_half : Bool → Bool → Bool
first_half cpol false = cpol
first_half cpol true = not cpol

-- SPDR is written with x in cycle t; the SPI is u before that, and v then.
module _ (acts : ℕ → Act) (levels : ℕ → List Level) (u v : Spi) (t x : ℕ) where
  -- at the beginning of cycle t + n, from the next one on
  abbrev pub at : ℕ → Spi
  at n = state spi acts levels v t n

  abbrev pub d : ℕ
  d = cycles_of_bit (is_set u.spsr 0) (u.spcr % 4)

  abbrev pub dord : Bool
  dord = is_set u.spcr 5

  abbrev pub cpol : Bool
  cpol = is_set u.spcr 3

  abbrev pub cpha : Bool
  cpha = is_set u.spcr 2

  -- No transfer is on the way. Up to the end of this one SPE and MSTR are set, and SS is no input at Low. In cycle t the processor does
  -- nothing more; later it may do what it likes: it may poll SPSR, or write SPDR again.
  pub record IsUndisturbed : Type 0 where
    pub idle : u.shifter.transfer ≡ None
    pub nothing : acts t ≡ Nothing
    pub master : (n : ℕ) → n ≤ 8 * d → is_master (stepping spi acts levels v t n).spcr ≡ true
    pub unselected : (n : ℕ) → n ≤ 8 * d → (not (is_set (stepping spi acts levels v t n).ddrb 2) && ss_low (levels (t + n))) ≡ false

  pub record IsTransferred : Type 0 where
    -- bit i takes the cycles t + 1 + i d to t + (i + 1) d, and MOSI holds it all that time
    pub mosi : (i n : ℕ) → i < 8 → i * d < n → n ≤ (i + 1) * d → spi.pad (at n) 11 ≡ valued (is_set x (place dord i))
    -- SCK has one level in the first half of it, and the other one in the second
    pub first : (i n : ℕ) → i < 8 → i * d < n → n ≤ i * d + d / 2 → spi.pad (at n) 13 ≡ valued (first_half cpol cpha)
    pub second : (i n : ℕ) → i < 8 → i * d + d / 2 < n → n ≤ (i + 1) * d → spi.pad (at n) 13 ≡ valued (not (first_half cpol cpha))
    -- MISO is an input
    pub input : (n : ℕ) → 0 < n → n ≤ 8 * d → spi.pad (at n) 12 ≡ record untouched { ddoe = true }
    -- up to the last cycle the transfer does not set SPIF, and SPDR reads the byte of the one before
    pub waits : (n : ℕ) → 0 < n → n ≤ 8 * d → u.shifter.spif ≡ false → (at n).shifter.spif ≡ false
    pub keeps : (n : ℕ) → 0 < n → n ≤ 8 * d → (at n).shifter.buffer ≡ u.shifter.buffer
    -- in the last cycle SPIF is set, and SPDR reads what MISO had in the first cycle of the second half of each bit
    pub spif : (at (8 * d + 1)).shifter.spif ≡ true
    pub read : (i : ℕ) → i < 8 → is_set (at (8 * d + 1)).shifter.buffer (place dord i) ≡ miso (levels (t + (i * d + d / 2 + 1)))
    pub byte : (at (8 * d + 1)).shifter.buffer < 256
    -- then no transfer is on the way, and MOSI keeps the last bit
    pub over : (at (8 * d + 1)).shifter.transfer ≡ None
    pub rests : (at (8 * d + 1)).shifter.mosi ≡ is_set x (place dord 7)

-- What comes of the write, whatever the processor does then and whatever is on the pins.
pub record Transfers (u v : Spi) (t x : ℕ) : Type 0 where
  pub transfer : (acts : ℕ → Act) (levels : ℕ → List Level) → IsUndisturbed acts levels u v t x → IsTransferred acts levels u v t x
