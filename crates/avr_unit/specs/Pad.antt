-- A pin's pad (ATmega328P data sheet, "I/O-Ports", "Alternate Port Functions"): each unit asks for some of its
-- signals, and the pin drives by all of them.
use Rattle.std.specs.Prelude.{Bool, true, false, if◌then◌else◌, ◌||◌}
use Rattle.sim_base.specs.declared.signal.Drive.{Drive}
use Rattle.sim_base.specs.declared.signal.Drive.TheVariants as drives
use Rattle.avr_unit.specs.declared.pad.Pad.{Pad}

-- a pin that a unit leaves alone
abbrev pub untouched : Pad
untouched = record { ddr = false; port = false; ddoe = false; ddov = false; pvoe = false; pvov = false }

-- the value of an output in place of PORTx
abbrev pub valued : Bool → Pad
valued high = record untouched { pvoe = true; pvov = high }

-- what two units ask together
abbrev pub joined : Pad → Pad → Pad
joined a b = record {
  ddr = a.ddr || b.ddr;
  port = a.port || b.port;
  ddoe = a.ddoe || b.ddoe;
  ddov = a.ddov || b.ddov;
  pvoe = a.pvoe || b.pvoe;
  pvov = a.pvov || b.pvov;
}

-- an output drives its value, an input PORTx as a pull-up ("Port Pin Configurations")
abbrev pub drive_of : Bool → Bool → Bool → Drive
drive_of output high port =
    if output then (if high then drives.High else drives.Low)
    else if port then drives.PullHigh
    else drives.Z

-- what the pin drives
abbrev pub driven : Pad → Drive
driven p = drive_of (if p.ddoe then p.ddov else p.ddr) (if p.pvoe then p.pvov else p.port) p.port
