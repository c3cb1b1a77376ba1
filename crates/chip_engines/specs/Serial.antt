-- The three kinds of engine as one machine (profile).
use Rattle.std.specs.Prelude.{ℕ, ◌/◌, ◌%◌, ◌||◌, max, List, Bool, false, if◌then◌else◌, Option, None, Some, option_map}
use Rattle.sim_base.specs.declared.signal.Drive.{Drive}
use Rattle.sim_base.specs.declared.signal.Drive.TheVariants as drives
use Rattle.avr_unit.specs.Coming.{comes}
use Rattle.slave_request.specs.declared.request.EngineRequest.{EngineRequest}
use Rattle.slave_request.specs.Slave.{SlaveMachine}
use Rattle.slave_serial.specs.declared.transaction.Spi.{Spi}
use Rattle.slave_serial.specs.declared.transaction.Wires.{Wires}
use Rattle.slave_serial.specs.Pins.{output}
use Rattle.slave_serial.specs.Sending.{is_sending, next_line}
use Rattle.slave_serial.specs.Uart as uarts
use Rattle.slave_serial.specs.Spi as spis
use Rattle.slave_i2c.specs.declared.lines.Lines.{Lines}
use Rattle.slave_i2c.specs.I2c as i2cs
use Rattle.chip_engines.specs.declared.serial.Serial.{Serial}
use Rattle.chip_engines.specs.declared.serial.Serial.TheVariants as serials
use Rattle.chip_engines.specs.declared.serial.Inputs.{Inputs}

abbrev pub wires_of : Inputs → Wires
wires_of l = record { sck = l.first; mosi = l.second }

abbrev pub lines_of : Inputs → Lines
lines_of l = record { scl = l.first; sda = l.second }

-- An SPI slave's transaction begins in its next turn, whichever cycle that is in.
abbrev pub in_turn : Spi → ℕ → Spi
in_turn s t = record s { transaction = spis.opens_in s.transaction t }

abbrev pub by : {S : Type 0} → (S → Serial) → S × List EngineRequest → Serial × List EngineRequest
by kind r = (kind r.0, r.1)

-- One cycle.
abbrev pub serial_step : Serial → ℕ → Inputs → Inputs → Serial × List EngineRequest
serial_step (serials.Uart u) t before now = by serials.Uart (uarts.uart_step u t before.first now.first)
serial_step (serials.Spi s) t before now = by serials.Spi (spis.spi_step (in_turn s t) t (wires_of before) (wires_of now))
serial_step (serials.I2c s) t before now = by serials.I2c (i2cs.i2c_step s (lines_of before) (lines_of now))

abbrev pub serial_due : Serial → ℕ → Bool
serial_due (serials.Uart u) t = uarts.uart.due u t
serial_due (serials.Spi s) t = spis.is_opening s.transaction || comes (spis.next_turn s.transaction) t
serial_due (serials.I2c s) t = false

abbrev pub serial : SlaveMachine Serial Inputs
serial = record { step = serial_step; due = serial_due }

-- What it drives its out pin to in the next cycle. A UART that was told to send before cycle 0 drives High in that one.
abbrev pub serial_output : Serial → Bool → Option Drive
serial_output (serials.Uart u) early = Some (output (early || next_line u.sending))
serial_output (serials.Spi s) early = option_map output s.miso
serial_output (serials.I2c s) early = if s.low then Some drives.Low else None

-- It is busy until the end of sending, or `Done`, is asked for.
abbrev pub serial_busy : Serial → Bool → Bool
serial_busy (serials.Uart u) waits = is_sending u.sending || waits
serial_busy (serials.Spi s) waits = spis.is_open s.transaction
serial_busy (serials.I2c s) waits = false

-- how many cycles a bit has at a baud rate
abbrev pub bit_of : ℕ → ℕ
bit_of baud = max (16000000 / max baud 1) 2

abbrev pub uart_of : ℕ → Serial
uart_of baud = serials.Uart (uarts.idle_uart (bit_of baud))

abbrev pub spi_of : ℕ → Serial
spi_of mode = serials.Spi (spis.idle_in (mode % 4))

abbrev pub i2c_of : ℕ → Serial
i2c_of address = serials.I2c (i2cs.new_slave (address % 128))

-- the byte for a Fetch or a Read
abbrev pub with_byte : Serial → ℕ → Serial
with_byte (serials.Uart u) x = serials.Uart (uarts.with_byte u x)
with_byte (serials.Spi s) x = serials.Spi (spis.with_byte s s.transaction x)
with_byte (serials.I2c s) x = serials.I2c (i2cs.with_byte s s.phase x)

-- the answer to a Connect or a Write
abbrev pub with_answer : Serial → ℕ → Serial
with_answer (serials.Uart u) x = serials.Uart u
with_answer (serials.Spi s) x = serials.Spi s
with_answer (serials.I2c s) x = serials.I2c (i2cs.with_answer s s.phase x)

-- that it is one that comes up
abbrev pub IsSerial : Serial → Type 0
IsSerial (serials.Uart u) = uarts.IsUart u
IsSerial (serials.Spi s) = spis.IsTransaction s.transaction
IsSerial (serials.I2c s) = i2cs.IsPlace s.phase
