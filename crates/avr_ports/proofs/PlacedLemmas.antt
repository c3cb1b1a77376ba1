-- Which pins the ports ask for something.
use Rattle.std.proofs.Common.{arith}
use Rattle.part_law.specs.Spans.{all_pins}
use Rattle.avr_unit.specs.Placed.{Placed}
use Rattle.avr_ports.specs.Ports.{ports}

pub ports_placed : Placed ports all_pins
ports_placed u p less out = absurd (out (omega arith, omega (arith, less)))
