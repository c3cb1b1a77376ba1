use Rattle.board_outputs.proofs.VariableLemmas.{uno_shown}
use Rattle.board_outputs.proofs.variables.shown_count.Goals as goal

pub returns-in-ArduinoUno-clause-count : goal.returns-in-ArduinoUno-clause-count
returns-in-ArduinoUno-clause-count c = rw c.in-ArduinoUno.is uno_shown.0

pub returns-in-ArduinoUno-clause-pins : goal.returns-in-ArduinoUno-clause-pins
returns-in-ArduinoUno-clause-pins c = rw c.in-ArduinoUno.is uno_shown.1
