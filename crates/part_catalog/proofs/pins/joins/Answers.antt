use Rattle.part_catalog.specs.Pins.{pin_names, joins_of}
use Rattle.part_catalog.proofs.pins.joins.Goals as goal

pub returns-in-ArduinoUno : goal.returns-in-ArduinoUno
unfolding joins_of pin_names
returns-in-ArduinoUno c = rw c.in-ArduinoUno.is c.listed.ensures

pub returns-in-Pushbutton : goal.returns-in-Pushbutton
unfolding joins_of pin_names
returns-in-Pushbutton c = rw c.in-Pushbutton.is c.listed-in-Pushbutton.ensures

pub returns-in-SevenSegment : goal.returns-in-SevenSegment
unfolding joins_of pin_names
returns-in-SevenSegment c = rw c.in-SevenSegment.is c.listed-in-SevenSegment.ensures
