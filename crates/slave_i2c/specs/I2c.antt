-- A slave at an address, cycle by cycle (UM10204, "The I2C-bus protocol"; that each answer comes in the cycle of its bit, and
-- that a slave never holds SCL, are the profile's). Bits are read when SCL rises and driven when it falls.
use Rattle.std.specs.Prelude.{ℕ, ◌+◌, ◌-◌, ◌*◌, ◌/◌, ◌%◌, ◌≤◌, ◌==◌, not, nat_lt, List, [], ◌∷◌, Bool, true, false, if◌then◌else◌}
use Rattle.avr_unit.specs.Bits.{is_set, one}
use Rattle.slave_request.specs.declared.request.EngineRequest.{EngineRequest}
use Rattle.slave_request.specs.declared.request.EngineRequest.TheVariants as requests
use Rattle.slave_request.specs.Slave.{SlaveMachine}
use Rattle.slave_i2c.specs.declared.lines.Lines.{Lines}
use Rattle.slave_i2c.specs.declared.slave.Phase.{Phase}
use Rattle.slave_i2c.specs.declared.slave.Phase.TheVariants.{Idle, Address, Data, Connecting, Judging, Accepting, Accepted, Reading, Sending, Ending, Wanted}
use Rattle.slave_i2c.specs.declared.slave.Slave.{Slave}
use Rattle.slave_i2c.specs.Lines.{is_start, is_stop, rises, falls}

abbrev pub new_slave : ℕ → Slave
new_slave address = record { address = address; connected = false; low = false; phase = Idle }

-- Bytes come from the highest bit.
abbrev pub with_bit_in : ℕ → Bool → ℕ
with_bit_in x high = x % 128 * 2 + one high

-- START and STOP release SDA, and end what was connected.
abbrev pub off : Slave → Phase → Slave
off s phase = record s { connected = false; low = false; phase = phase }

abbrev pub disconnects : Bool → List EngineRequest
disconnects true = requests.Disconnect ∷ []
disconnects false = []

-- The eighth bit behind a START tells whether the master reads, the seven before it are the address.
abbrev pub byte_in : ℕ → ℕ → Phase
byte_in address x = if x / 2 == address then Connecting (x % 2 == 1) else Idle

abbrev pub addressed : ℕ → ℕ → List EngineRequest
addressed address x = if x / 2 == address then requests.Connect address (x % 2 == 1) ∷ [] else []

-- A bit at a rise of SCL; behind a byte that was sent, 0 asks for a further one.
abbrev pub bit_in : ℕ → Phase → Bool → Phase
bit_in address (Address k x) sda = if nat_lt k 7 then Address (k + 1) (with_bit_in x sda) else byte_in address (with_bit_in x sda)
bit_in address (Data k x) sda = if nat_lt k 7 then Data (k + 1) (with_bit_in x sda) else Judging
bit_in address Ending sda = if sda then Idle else Wanted
bit_in address Idle sda = Idle
bit_in address (Connecting read) sda = Connecting read
bit_in address Judging sda = Judging
bit_in address (Accepting read) sda = Accepting read
bit_in address (Accepted read) sda = Accepted read
bit_in address Reading sda = Reading
bit_in address (Sending x k) sda = Sending x k
bit_in address Wanted sda = Wanted

abbrev pub asks_in : Slave → Phase → Bool → List EngineRequest
asks_in s (Address k x) sda = if nat_lt k 7 then [] else addressed s.address (with_bit_in x sda)
asks_in s (Data k x) sda = if nat_lt k 7 then [] else requests.Write (with_bit_in x sda) ∷ []
asks_in s phase sda = []

-- A bit at a fall of SCL: the answer bit Low, the bits of a byte from the highest, and SDA released for the master's answer.
abbrev pub bit_out : Slave → Phase → Slave
bit_out s (Accepting read) = record s { low = true; phase = Accepted read }
bit_out s (Accepted read) = record s { low = false; phase = if read then Reading else Data 0 0 }
bit_out s Wanted = record s { low = false; phase = Reading }
bit_out s (Sending x k) =
    if nat_lt k 7 then record s { low = not (is_set x (6 - k)); phase = Sending x (k + 1) }
    else record s { low = false; phase = Ending }
bit_out s phase = s

abbrev pub asks_out : Phase → List EngineRequest
asks_out (Accepted true) = requests.Read ∷ []
asks_out Wanted = requests.Read ∷ []
asks_out phase = []

-- One cycle.
abbrev pub i2c_step : Slave → Lines → Lines → Slave × List EngineRequest
i2c_step s before now =
    if is_start before now then (off s (Address 0 0), disconnects s.connected)
    else if is_stop before now then (off s Idle, disconnects s.connected)
    else if rises before now then (record s { phase = bit_in s.address s.phase now.sda }, asks_in s s.phase now.sda)
    else if falls before now then (bit_out s s.phase, asks_out s.phase)
    else (s, [])

-- It has no event of its own.
abbrev pub i2c : SlaveMachine Slave Lines
i2c = record { step = λ s t before now. i2c_step s before now; due = λ s t. false }

-- The byte for a Read: its highest bit is on the line.
abbrev pub with_byte : Slave → Phase → ℕ → Slave
with_byte s Reading x = record s { low = nat_lt x 128; phase = Sending x 0 }
with_byte s phase x = s

-- The answer to a Connect or a Write: with 0 it no longer listens, and else the next bit is Low.
abbrev pub with_answer : Slave → Phase → ℕ → Slave
with_answer s (Connecting read) x = record s { connected = not (x == 0); phase = if x == 0 then Idle else Accepting read }
with_answer s Judging x = record s { phase = if x == 0 then Idle else Accepting false }
with_answer s phase x = s

-- a bit of a byte is one of eight
abbrev pub IsPlace : Phase → Type 0
IsPlace (Address k x) = k ≤ 7
IsPlace (Data k x) = k ≤ 7
IsPlace (Sending x k) = k ≤ 7
IsPlace phase = Unit {0}
