-- The SPI as a master, cycle by cycle (data sheet, "SPI - Serial Peripheral Interface"; slave mode is left out).
use Rattle.std.specs.Prelude.{ℕ, ◌+◌, ◌*◌, ◌%◌, ◌==◌, ◌&&◌, ◌||◌, not, Bool, true, false, if◌then◌else◌, List, [], ◌∷◌, get_or, Option, None, Some, is_some}
use Rattle.sim_base.specs.Signal.{reads}
use Rattle.sim_base.specs.declared.signal.Level.{Level}
use Rattle.sim_base.specs.declared.signal.Level.TheVariants as levels
use Rattle.avr_unit.specs.Bits.{is_set, one, with_bit}
use Rattle.avr_unit.specs.Coming.{comes}
use Rattle.avr_unit.specs.Pad.{untouched, valued}
use Rattle.avr_unit.specs.UnitMachine.{UnitMachine, powerless, at_register}
use Rattle.avr_unit.specs.declared.pad.Pad.{Pad}
use Rattle.avr_unit.specs.declared.request.Request.{Request}
use Rattle.avr_spi.specs.declared.registers.Register.{Register}
use Rattle.avr_spi.specs.declared.registers.Register.TheVariants.{DDRB, SPCR, SPSR, SPDR}
use Rattle.avr_spi.specs.declared.shifter.Transfer.{Transfer}
use Rattle.avr_spi.specs.declared.shifter.Shifter.{Shifter}
use Rattle.avr_spi.specs.Registers.{register_at}
use Rattle.avr_spi.specs.Shifter.{begun, started, given_up, shifted, next_event, sck, still}

-- DDRB, SPCR and bits 5:0 of SPSR as they were written, WCOL, whether SPSR was read with a flag set, the cycle in which SS
-- is looked at because a register was written, and the shift register.
pub record Spi : Type 0 where
  pub ddrb : ℕ
  pub spcr : ℕ
  pub spsr : ℕ
  pub wcol : Bool
  pub seen : Bool
  pub look : Option ℕ
  pub shifter : Shifter

-- SPE and MSTR
abbrev pub is_master : ℕ → Bool
is_master spcr = is_set spcr 6 && is_set spcr 4

-- whether SS, bit 2 of port B, ends master mode: it is an input
abbrev pub watches : Spi → Bool
watches u = is_master u.spcr && not (is_set u.ddrb 2)

abbrev pub is_low : Level → Bool
is_low levels.Low = true
is_low levels.High = false
is_low levels.X = false
is_low levels.Z = false
is_low (levels.Wiped w) = false

-- SS and MISO on the Uno's pins 10 and 12
abbrev pub ss_low : List Level → Bool
ss_low l = is_low (get_or l 10 levels.Z)

abbrev pub miso : List Level → Bool
miso l = reads (get_or l 12 levels.Low)

abbrev pub register : Spi → Register → ℕ
register u DDRB = u.ddrb
register u SPCR = u.spcr
register u SPSR = 128 * one u.shifter.spif + 64 * one u.wcol + u.spsr
register u SPDR = u.shifter.buffer

-- Reading SPSR with a flag set, and then accessing SPDR, clears both flags ("SPIF: SPI Interrupt Flag").
abbrev pub accessed : Spi → Spi
accessed u = record u {
  wcol = u.wcol && not u.seen;
  seen = false;
  shifter = record (u.shifter) { spif = u.shifter.spif && not u.seen };
}

abbrev pub after_read : Spi → Register → Spi
after_read u DDRB = u
after_read u SPCR = u
after_read u SPSR = record u { seen = u.seen || (u.shifter.spif || u.wcol) }
after_read u SPDR = accessed u

-- SPDR is written: a transfer begins in master mode; during one the write is a collision.
abbrev pub loaded : Spi → Option Transfer → ℕ → ℕ → Spi
loaded u (Some y) t x = record u { wcol = true }
loaded u None t x = if is_master u.spcr then record u { shifter = started u.shifter (begun (is_set u.spsr 0) u.spcr t x) } else u

-- SS is looked at in the cycle of a write after which it may end master mode.
abbrev pub looking : Spi → ℕ → Spi
looking u t = record u { look = if watches u then Some t else None }

-- Without SPE or MSTR the transfer is given up.
abbrev pub controlled : Spi → ℕ → Spi
controlled u x = record u { spcr = x; shifter = record (u.shifter) { transfer = if is_master x then u.shifter.transfer else None } }

abbrev pub with_register : Spi → ℕ → Register → ℕ → Spi
with_register u t DDRB x = looking (record u { ddrb = x }) t
with_register u t SPCR x = looking (controlled u x) t
with_register u t SPSR x = record u { spsr = x % 64 }
with_register u t SPDR x = loaded (accessed u) u.shifter.transfer t x

-- What a write of one bit alone writes to the others.
abbrev pub kept : Spi → Register → ℕ
kept u DDRB = u.ddrb
kept u SPCR = u.spcr
kept u SPSR = u.spsr
kept u SPDR = u.shifter.buffer

-- SPI STC has vector 17, enabled by SPIE; entering it clears SPIF.
abbrev pub requests : Spi → List Request
requests u = record { vector = 17; enabled = is_set u.spcr 7; flag = u.shifter.spif } ∷ []

abbrev pub taken : Spi → ℕ → Spi
taken u v = record u { shifter = record (u.shifter) { spif = u.shifter.spif && not (v == 17) } }

-- SS at Low ends master mode, where it falls and where it is looked at ("SS Pin Functionality", "Master Mode").
abbrev pub is_selected : Spi → ℕ → Bool → Bool → Bool
is_selected u t before now = watches u && (now && (comes u.look t || not before))

abbrev pub deselected : Spi → ℕ → Spi
deselected u t = record u { spcr = with_bit u.spcr 4 false; shifter = record (given_up u.shifter u.shifter.transfer t) { spif = true } }

abbrev pub looked : Spi → ℕ → Spi
looked u t = record u { look = if comes u.look t then None else u.look }

-- One cycle, from whether SS is Low in the cycle before and in this one, and from what MISO reads.
abbrev pub stepped : Spi → ℕ → Bool → Bool → Bool → Spi
stepped u t before now in_bit =
    if is_selected u t before now then deselected (looked u t) t
    else record (looked u t) { shifter = shifted u.shifter u.shifter.transfer t in_bit }

-- In master mode MOSI and SCK have values where DDRB makes them outputs, and MISO is an input whatever DDRB is ("Alternate
-- Functions of Port B").
abbrev pub spi_pad : Spi → ℕ → Pad
spi_pad u p =
    if is_master u.spcr then
    if p == 11 then valued u.shifter.mosi
    else if p == 12 then record untouched { ddoe = true }
    else if p == 13 then valued (sck u.shifter.transfer u.spcr)
    else untouched
    else untouched

-- It has an event in the last cycle of each half bit, where MISO is read, and where SS is looked at.
abbrev pub spi : UnitMachine Spi
spi = record {
  step = λ u t before now. stepped u t (ss_low before) (ss_low now) (miso now);
  due = λ u t. comes (next_event u.shifter.transfer) t || comes u.look t;
  requests = λ u l. requests u;
  pad = spi_pad;
  sends = λ u t. None;
  has = λ a. is_some (register_at a);
  answers = λ u t l a. at_register (register_at a) 0 (register u);
  read = λ u t a. at_register (register_at a) u (after_read u);
  write = λ u t a x. at_register (register_at a) u (λ r. with_register u t r x);
  write_bit = λ u t a k x. at_register (register_at a) u (λ r. with_register u t r (with_bit (kept u r) k x));
  power = powerless;
  taken = taken;
  reset = record { ddrb = 0; spcr = 0; spsr = 0; wcol = false; seen = false; look = None; shifter = still };
}
