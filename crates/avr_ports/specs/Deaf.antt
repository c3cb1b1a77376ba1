-- Ports to which no change of levels matters. The code asks for this; the definition of the ports does not.
use Rattle.std.specs.Prelude.{◌%◌, ◌==◌, ◌&&◌, not, Bool}
use Rattle.avr_unit.specs.Bits.{is_set}
use Rattle.avr_ports.specs.Ports.{Ports}

-- whether no edge is sensed, no change of a pin chosen and no external interrupt enabled
abbrev pub is_deaf : Ports → Bool
is_deaf u =
    u.eicra % 16 == 0 && (u.pcmsk0 == 0 && (u.pcmsk1 == 0 && (u.pcmsk2 == 0 && (not (is_set u.eimsk 0) && not (is_set u.eimsk 1)))))
