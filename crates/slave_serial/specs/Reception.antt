-- A frame that comes in, cycle by cycle: a start bit, 8 data bits from the lowest, a stop bit; each is sampled once, in its
-- middle (profile; the frame is that of the data sheet's "USART0", "Frame Formats").
use Rattle.std.specs.Prelude.{ℕ, ◌+◌, ◌-◌, ◌/◌, ◌≤◌, ◌==◌, ◌&&◌, not, nat_lt, Bool, if◌then◌else◌, Option, None, Some}
use Rattle.avr_unit.specs.Bits.{with_bit}
use Rattle.avr_unit.specs.Coming.{IsAhead}
use Rattle.slave_request.specs.declared.request.EngineRequest.{EngineRequest}
use Rattle.slave_request.specs.declared.request.EngineRequest.TheVariants as requests
use Rattle.slave_serial.specs.declared.reception.Reception.{Reception}

-- a start bit begins in cycle t
abbrev pub heard : ℕ → ℕ → Reception
heard bit t = record { place = 0; sample = t + bit / 2; byte = 0 }

abbrev pub next_bit : Reception → ℕ → ℕ → Reception
next_bit r bit t = record r { place = r.place + 1; sample = t + bit }

-- A sample in cycle t: a start bit of 1 is none, and the stop bit ends the frame.
abbrev pub sampled : Reception → ℕ → ℕ → Bool → Option Reception
sampled r bit t high =
    if r.place == 0 then (if high then None else Some (next_bit r bit t))
    else if nat_lt r.place 9 then Some (record (next_bit r bit t) { byte = with_bit r.byte (r.place - 1) high })
    else None

-- One cycle, from what RX read in the cycle before and reads in this one: a fall begins a frame where none comes in.
abbrev pub received : Option Reception → ℕ → ℕ → Bool → Bool → Option Reception
received None bit t before now = if before && not now then Some (heard bit t) else None
received (Some r) bit t before now = if r.sample == t then sampled r bit t now else Some r

-- A stop bit of 1 gives the byte, in the cycle of its sample.
abbrev pub taken_in : Option Reception → ℕ → Bool → Option EngineRequest
taken_in None t now = None
taken_in (Some r) t now = if r.sample == t && (r.place == 9 && now) then Some (requests.Received r.byte) else None

-- the cycle of the next sample
abbrev pub next_sample : Option Reception → Option ℕ
next_sample None = None
next_sample (Some r) = Some r.sample

-- how many cycles a bit may have: two at least, and a second at most
pub record IsBit (bit : ℕ) : Type 0 where
  pub least : 2 ≤ bit
  pub most : bit ≤ 16000000

-- that a reception is one that stands at cycle t
abbrev pub Receives : Option Reception → ℕ → Type 0
Receives r t = IsAhead (next_sample r) t
