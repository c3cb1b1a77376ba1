-- The bytes of a call that go out at TX, cycle by cycle, each in a frame: a start bit 0, 8 data bits from the lowest, a stop
-- bit 1 (profile; the frame is that of the data sheet's "USART0", "Frame Formats"). A frame follows the one before at once.
use Rattle.std.specs.Prelude.{ℕ, ◌+◌, ◌-◌, ◌<◌, ◌==◌, ◌&&◌, nat_lt, Bool, true, false, if◌then◌else◌, Option, None, Some}
use Rattle.avr_unit.specs.Bits.{is_set}
use Rattle.avr_unit.specs.Coming.{IsAhead}
use Rattle.slave_request.specs.declared.request.EngineRequest.{EngineRequest}
use Rattle.slave_request.specs.declared.request.EngineRequest.TheVariants as requests
use Rattle.slave_serial.specs.declared.buffer.Buffer.{Buffer}
use Rattle.slave_serial.specs.declared.sending.Frame.{Frame}
use Rattle.slave_serial.specs.declared.sending.Sending.{Sending}
use Rattle.slave_serial.specs.declared.sending.Sending.TheVariants.{Idle, Empty, Start, Bits}

-- A call in cycle t acts in the next one: no bytes are sent at once, and else the first frame begins there.
abbrev pub begun : ℕ → ℕ → Sending
begun count t = if count == 0 then Empty (t + 1) else Start (record { count = count; index = 0 }) (t + 1)

-- The last cycle of a bit.
abbrev pub bit_over : Buffer → Frame → ℕ → ℕ → Sending
bit_over b f bit t =
    if nat_lt f.place 9 then Bits b (record f { place = f.place + 1; end = t + bit })
    else if b.index + 1 == b.count then Idle
    else Start (record b { index = b.index + 1 }) (t + 1)

-- One cycle.
abbrev pub sent : Sending → ℕ → ℕ → Sending
sent Idle bit t = Idle
sent (Empty d) bit t = if d == t then Idle else Empty d
sent (Start b d) bit t = if d == t then Bits b (record { byte = 0; place = 0; end = t + bit - 1 }) else Start b d
sent (Bits b f) bit t = if f.end == t then bit_over b f bit t else Bits b f

-- In the first cycle of a frame its byte is fetched, and in the last cycle of the last one all are sent.
abbrev pub put_out : Sending → ℕ → Option EngineRequest
put_out Idle t = None
put_out (Empty d) t = if d == t then Some requests.Sent else None
put_out (Start b d) t = if d == t then Some (requests.Fetch b.index) else None
put_out (Bits b f) t = if f.end == t && (f.place == 9 && b.index + 1 == b.count) then Some requests.Sent else None

-- the byte that was fetched
abbrev pub given : Sending → ℕ → Sending
given (Bits b f) x = Bits b (record f { byte = x })
given Idle x = Idle
given (Empty d) x = Empty d
given (Start b d) x = Start b d

abbrev pub frame_bit : Frame → Bool
frame_bit f = if f.place == 0 then false else if nat_lt f.place 9 then is_set f.byte (f.place - 1) else true

-- What TX is in the cycle of the next turn, where a frame that is to begin begins in that one: High between frames.
abbrev pub next_line : Sending → Bool
next_line Idle = true
next_line (Empty d) = true
next_line (Start b d) = false
next_line (Bits b f) = frame_bit f

-- the cycle of the next event
abbrev pub bit_end : Sending → Option ℕ
bit_end Idle = None
bit_end (Empty d) = Some d
bit_end (Start b d) = Some d
bit_end (Bits b f) = Some f.end

abbrev pub is_sending : Sending → Bool
is_sending Idle = false
is_sending (Empty d) = true
is_sending (Start b d) = true
is_sending (Bits b f) = true

-- that the byte on its way is one of those that are to go
abbrev pub IsSending : Sending → Type 0
IsSending Idle = Unit {0}
IsSending (Empty d) = Unit {0}
IsSending (Start b d) = b.index < b.count
IsSending (Bits b f) = b.index < b.count

-- that it is one that stands at cycle t
pub record Sends (s : Sending) (t : ℕ) : Type 0 where
  pub sound : IsSending s
  pub ahead : IsAhead (bit_end s) t
