use Rattle.parts_basic.proofs.Bits.{contact_of_switch, contact_of_key}
use Rattle.parts_basic.proofs.passive.PassiveBehaviour.contact.Goals as goal

pub returns-then-i-lt8 : goal.returns-then-i-lt8
returns-then-i-lt8 c = λ h. contact_of_switch c.args.self.now (record { kind = c.self.inside.kind; value = c.self.inside.value }) c.args.i c.self.view_is c.in-DipSwitch8.is c.if-i-lt8.true

pub returns-then-i-lt16 : goal.returns-then-i-lt16
returns-then-i-lt16 c = λ h. contact_of_key c.args.self.now (record { kind = c.self.inside.kind; value = c.self.inside.value }) c.args.i c.self.view_is c.in-MembraneKeypad.is c.if-i-lt16.true
