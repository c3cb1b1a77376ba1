-- The ports of the ATmega328P, cycle by cycle (data sheet, "I/O-Ports" and "External Interrupts").
use Rattle.std.specs.Prelude.{ℕ, ◌+◌, ◌-◌, ◌*◌, ◌/◌, ◌%◌, ◌^◌, ◌==◌, ◌&&◌, ◌||◌, not, nat_lt, Bool, true, false, if◌then◌else◌, List, [], ◌∷◌, slice_index_or, None, is_some, bit_and, bit_xor}
use Rattle.sim_base.specs.Signal.{reads}
use Rattle.sim_base.specs.declared.signal.Level.{Level}
use Rattle.sim_base.specs.declared.signal.Level.TheVariants as levels
use Rattle.avr_unit.specs.declared.pad.Pad.{Pad}
use Rattle.avr_unit.specs.Pad.{untouched}
use Rattle.avr_unit.specs.Bits.{is_set, one, with_bit}
use Rattle.avr_unit.specs.UnitMachine.{UnitMachine, powerless, at_register}
use Rattle.avr_unit.specs.declared.request.Request.{Request}
use Rattle.avr_ports.specs.Registers.{register_at}
use Rattle.avr_ports.specs.declared.registers.Register.{Register}
use Rattle.avr_ports.specs.declared.registers.Register.TheVariants.{PINB, DDRB, PORTB, PINC, DDRC, PORTC, PIND, DDRD, PORTD, PCIFR, EIFR, EIMSK, PCICR, EICRA, PCMSK0, PCMSK1, PCMSK2}

-- the registers, as the firmware wrote them, and the flags INTF and PCIF
pub record Ports : Type 0 where
  pub ddrb : ℕ
  pub portb : ℕ
  pub ddrc : ℕ
  pub portc : ℕ
  pub ddrd : ℕ
  pub portd : ℕ
  pub eicra : ℕ
  pub eimsk : ℕ
  pub intf0 : Bool
  pub intf1 : Bool
  pub pcicr : ℕ
  pub pcmsk0 : ℕ
  pub pcmsk1 : ℕ
  pub pcmsk2 : ℕ
  pub pcif0 : Bool
  pub pcif1 : Bool
  pub pcif2 : Bool

abbrev pub reset : Ports
reset = record {
  ddrb = 0;
  portb = 0;
  ddrc = 0;
  portc = 0;
  ddrd = 0;
  portd = 0;
  eicra = 0;
  eimsk = 0;
  intf0 = false;
  intf1 = false;
  pcicr = 0;
  pcmsk0 = 0;
  pcmsk1 = 0;
  pcmsk2 = 0;
  pcif0 = false;
  pcif1 = false;
  pcif2 = false;
}

-- What the Uno's pin p reads: 0 to 7 are PD0 to PD7, 8 to 13 PB0 to PB5, 14 to 19 PC0 to PC5 (Arduino Uno, pin map).
abbrev pub on : List Level → ℕ → Bool
on l p = reads (slice_index_or l p levels.Low)

abbrev pub six : List Level → ℕ → ℕ
six l p = one (on l p) + 2 * one (on l (p + 1)) + 4 * one (on l (p + 2)) + 8 * one (on l (p + 3)) + 16 * one (on l (p + 4)) + 32 * one (on l (p + 5))

-- PINB, PINC and PIND on these levels
abbrev pub pinb : List Level → ℕ
pinb l = six l 8

abbrev pub pinc : List Level → ℕ
pinc l = six l 14

abbrev pub pind : List Level → ℕ
pind l = six l 0 + 64 * one (on l 6) + 128 * one (on l 7)

-- DDRx and PORTx of a bit (data sheet, "Ports as General Digital I/O", "Configuring the Pin").
abbrev pub bit_pad : ℕ → ℕ → ℕ → Pad
bit_pad ddr port k = record untouched { ddr = is_set ddr k; port = is_set port k }

-- the same of the Uno's pin p
abbrev pub port_pad : Ports → ℕ → Pad
port_pad u p =
    if nat_lt p 8 then bit_pad u.ddrd u.portd p
    else if nat_lt p 14 then bit_pad u.ddrb u.portb (p - 8)
    else bit_pad u.ddrc u.portc (p - 14)

-- What an external interrupt is sensitive to (data sheet, "External Interrupts", "Interrupt Sense Control").
abbrev pub isc0 : Ports → ℕ
isc0 u = u.eicra % 4

abbrev pub isc1 : Ports → ℕ
isc1 u = u.eicra / 4 % 4

-- an edge of the sense: 1 any change, 2 falling, 3 rising
abbrev pub is_edge : ℕ → Bool → Bool → Bool
is_edge sense before now =
    if sense == 1 then (before && not now) || (not before && now)
    else if sense == 2 then before && not now
    else if sense == 3 then not before && now
    else false

-- a change on a pin that the mask chooses (data sheet, "Pin Change Interrupt")
abbrev pub is_change : ℕ → ℕ → ℕ → Bool
is_change mask before now = not (bit_and (bit_xor before now) mask == 0)

-- The flags of the external interrupts, from the levels of the cycle before and of this one.
abbrev pub edges_sensed : Ports → List Level → List Level → Ports
edges_sensed u before now = record u {
  intf0 = u.intf0 || is_edge (isc0 u) (on before 2) (on now 2);
  intf1 = u.intf1 || is_edge (isc1 u) (on before 3) (on now 3);
}

-- The flags of the pin changes: PCMSK0 chooses pins of port B, PCMSK1 of port C, PCMSK2 of port D.
abbrev pub changes_sensed : Ports → List Level → List Level → Ports
changes_sensed u before now = record u {
  pcif0 = u.pcif0 || is_change u.pcmsk0 (pinb before) (pinb now);
  pcif1 = u.pcif1 || is_change u.pcmsk1 (pinc before) (pinc now);
  pcif2 = u.pcif2 || is_change u.pcmsk2 (pind before) (pind now);
}

-- One cycle.
abbrev pub ports_step : Ports → List Level → List Level → Ports
ports_step u before now = changes_sensed (edges_sensed u before now) before now

-- An external interrupt; at sense 0 the low level requests by itself.
abbrev pub requests_int : Bool → ℕ → Bool → Bool
requests_int flag sense high = flag || (sense == 0 && not high)

-- The vectors INT0, INT1 and PCINT0 to PCINT2 (data sheet, "Reset and Interrupt Vectors").
abbrev pub requests : Ports → List Level → List Request
requests u l =
    record { vector = 1; enabled = is_set u.eimsk 0; flag = requests_int u.intf0 (isc0 u) (on l 2) }
    ∷ record { vector = 2; enabled = is_set u.eimsk 1; flag = requests_int u.intf1 (isc1 u) (on l 3) }
    ∷ record { vector = 3; enabled = is_set u.pcicr 0; flag = u.pcif0 }
    ∷ record { vector = 4; enabled = is_set u.pcicr 1; flag = u.pcif1 }
    ∷ record { vector = 5; enabled = is_set u.pcicr 2; flag = u.pcif2 }
    ∷ []

-- What ends power-down ("Active Clock Domains and Wake-up Sources in the Different Sleep Modes"): an external interrupt by
-- its low level, and a change of a pin.
abbrev pub rouses : Ports → List Level → Bool
rouses u l =
    (is_set u.eimsk 0 && (isc0 u == 0 && requests_int u.intf0 (isc0 u) (on l 2)))
    || ((is_set u.eimsk 1 && (isc1 u == 0 && requests_int u.intf1 (isc1 u) (on l 3)))
    || ((is_set u.pcicr 0 && u.pcif0) || ((is_set u.pcicr 1 && u.pcif1) || (is_set u.pcicr 2 && u.pcif2))))

-- An entered vector's flag is cleared.
abbrev pub taken : Ports → ℕ → Ports
taken u v =
    if v == 1 then record u { intf0 = false }
    else if v == 2 then record u { intf1 = false }
    else if v == 3 then record u { pcif0 = false }
    else if v == 4 then record u { pcif1 = false }
    else if v == 5 then record u { pcif2 = false }
    else u

-- What reading a register gives: PINx the levels of the cycle before, and else what it keeps.
abbrev pub register : Ports → List Level → Register → ℕ
register u before PINB = pinb before
register u before DDRB = u.ddrb
register u before PORTB = u.portb
register u before PINC = pinc before
register u before DDRC = u.ddrc
register u before PORTC = u.portc
register u before PIND = pind before
register u before DDRD = u.ddrd
register u before PORTD = u.portd
register u before PCIFR = one u.pcif0 + 2 * one u.pcif1 + 4 * one u.pcif2
register u before EIFR = one u.intf0 + 2 * one u.intf1
register u before EIMSK = u.eimsk
register u before PCICR = u.pcicr
register u before EICRA = u.eicra
register u before PCMSK0 = u.pcmsk0
register u before PCMSK1 = u.pcmsk1
register u before PCMSK2 = u.pcmsk2

-- A write: a 1 in PINx toggles the bit of PORTx, a 1 in a flag register clears the flag, and sense 0 keeps no flag.
abbrev pub with_register : Ports → Register → ℕ → Ports
with_register u PINB x = record u { portb = bit_xor u.portb x }
with_register u DDRB x = record u { ddrb = x }
with_register u PORTB x = record u { portb = x }
with_register u PINC x = record u { portc = bit_xor u.portc x }
with_register u DDRC x = record u { ddrc = x }
with_register u PORTC x = record u { portc = x }
with_register u PIND x = record u { portd = bit_xor u.portd x }
with_register u DDRD x = record u { ddrd = x }
with_register u PORTD x = record u { portd = x }
with_register u PCIFR x = record u { pcif0 = u.pcif0 && not (is_set x 0); pcif1 = u.pcif1 && not (is_set x 1); pcif2 = u.pcif2 && not (is_set x 2) }
with_register u EIFR x = record u { intf0 = u.intf0 && not (is_set x 0); intf1 = u.intf1 && not (is_set x 1) }
with_register u EIMSK x = record u { eimsk = x }
with_register u PCICR x = record u { pcicr = x }
with_register u EICRA x = record u { eicra = x; intf0 = u.intf0 && not (x % 4 == 0); intf1 = u.intf1 && not (x / 4 % 4 == 0) }
with_register u PCMSK0 x = record u { pcmsk0 = x }
with_register u PCMSK1 x = record u { pcmsk1 = x }
with_register u PCMSK2 x = record u { pcmsk2 = x }

-- registers of which a 1 acts and a 0 does nothing
abbrev pub acts_by_ones : Register → Bool
acts_by_ones PINB = true
acts_by_ones PINC = true
acts_by_ones PIND = true
acts_by_ones PCIFR = true
acts_by_ones EIFR = true
acts_by_ones r = false

-- SBI (1) and CBI (0) write one bit alone.
abbrev pub with_register_bit : Ports → Register → ℕ → Bool → Ports
with_register_bit u r k x =
    if acts_by_ones r then (if x then with_register u r (2 ^ k) else u)
    else with_register u r (with_bit (register u [] r) k x)

abbrev pub ports : UnitMachine Ports
ports = record {
  step = λ u t before now. ports_step u before now;
  due = λ u t. false;
  requests = requests;
  pad = port_pad;
  sends = λ u t. None;
  has = λ a. is_some (register_at a);
  answers = λ u t l a. at_register (register_at a) 0 (register u l);
  read = λ u t a. u;
  write = λ u t a x. at_register (register_at a) u (λ r. with_register u r x);
  write_bit = λ u t a k x. at_register (register_at a) u (λ r. with_register_bit u r k x);
  taken = taken;
  reset = reset;
  power = record powerless { rouses = rouses; restart = λ u. reset };
}
