-- The expander between the bus and a text display: a slave whose port of eight bits is wired to the display (PCF8574 data sheet,
-- "Quasi-bidirectional I/Os"; which bit leads where is that of the usual board, what reads answer is the profile's).
use Rattle.std.specs.Prelude.{ℕ, ◌*◌, ◌/◌, ◌&&◌, not, List, [], ◌∷◌, if◌then◌else◌}
use Rattle.part_reactive.specs.Pins.{bit}
use Rattle.slave_request.specs.declared.request.EngineRequest.{EngineRequest}
use Rattle.slave_request.specs.declared.request.EngineRequest.TheVariants as requests
use Rattle.slave_i2c.specs.declared.lines.Lines.{Lines}
use Rattle.slave_i2c.specs.I2c.{i2c_step, new_slave, with_answer, with_byte}
use Rattle.parts_display.specs.declared.expander.Expander.{Expander}
use Rattle.parts_display.specs.Screen.{Screen, taken}

abbrev pub new_expander : ℕ → Expander
new_expander address = record { slave = new_slave address; port = 0 }

-- A byte at the port behind another one: RS, RW and E are its bits 0, 1 and 2, D4 to D7 its bits 4 to 7, and D0 to D3 read 0.
abbrev pub ported : Screen → ℕ → ℕ → Screen
ported s old new = if bit 2 old && (not (bit 2 new) && not (bit 1 new)) then taken s (bit 0 new) (new / 16 * 16) else s

-- What the slave asks: it is there, each byte is taken to the port, and reads answer 0xFF.
abbrev pub heard : Screen → Expander → List EngineRequest → Screen × Expander
heard s e (requests.Connect address read ∷ rs) = (s, record e { slave = with_answer e.slave e.slave.phase 1 })
heard s e (requests.Write x ∷ rs) = (ported s e.port x, record { slave = with_answer e.slave e.slave.phase 1; port = x })
heard s e (requests.Read ∷ rs) = (s, record e { slave = with_byte e.slave e.slave.phase 0xFF })
heard s e rs = (s, e)

-- One cycle, from what the lines read in the cycle before and read in this one.
abbrev pub expander_step : Screen → Expander → Lines → Lines → Screen × Expander
expander_step s e before now =
    let asked = i2c_step e.slave before now in
    heard s (record e { slave = asked.0 }) asked.1
