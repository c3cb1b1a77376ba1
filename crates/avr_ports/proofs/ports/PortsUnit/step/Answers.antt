use Rattle.std.proofs.Common.{refl}
use Rattle.avr_ports.proofs.ports.PortsUnit.step.Goals as goal

pub returns-clause-pads : goal.returns-clause-pads
returns-clause-pads c = λ p less out. refl
