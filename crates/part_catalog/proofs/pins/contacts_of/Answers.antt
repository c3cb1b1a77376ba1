use Rattle.part_catalog.specs.Pins.{pin_names, contacts_in}
use Rattle.part_catalog.proofs.pins.contacts_of.Goals as goal

pub returns-in-DipSwitch8 : goal.returns-in-DipSwitch8
unfolding contacts_in pin_names
returns-in-DipSwitch8 c = rw c.in-DipSwitch8.is c.listed-in-DipSwitch8.ensures

pub returns-in-MembraneKeypad : goal.returns-in-MembraneKeypad
unfolding contacts_in pin_names
returns-in-MembraneKeypad c = rw c.in-MembraneKeypad.is c.listed-in-MembraneKeypad.ensures
