-- A frame that the USART sends (data sheet, "USART0", "Frame Formats", "Sending Frames with 5 to 8 Data Bit"; the cycles that bits take
-- are the profile's).
use Rattle.std.specs.Prelude.{◌≡◌, ℕ, ◌+◌, ◌-◌, ◌*◌, ◌%◌, ◌^◌, ◌<◌, ◌≤◌, Bool, true, false, List, None, Some}
use Rattle.sim_base.specs.declared.signal.Level.{Level}
use Rattle.avr_unit.specs.Bits.{is_set}
use Rattle.avr_unit.specs.Pad.{untouched}
use Rattle.avr_unit.specs.declared.pad.Pad.{Pad}
use Rattle.avr_usart.specs.declared.format.Format.{Format}
use Rattle.avr_usart.specs.Format.{frame_bits, has_parity, parity_bit}
use Rattle.avr_usart.specs.Transmitter.{begun}
use Rattle.avr_usart.specs.Usart.{Usart, usart, txen, format_of}
use Rattle.avr_unit_model.specs.Life.{Act, Nothing, state, stepping}

-- TXD is an output with this value, whatever DDRD and PORTD are
abbrev pub txd_is : Bool → Pad
txd_is high = record untouched { ddoe = true; ddov = true; pvoe = true; pvov = high }

-- The USART is v in cycle t, after what the processor did there before acts t.
module _ (acts : ℕ → Act) (levels : ℕ → List Level) (v : Usart) (t : ℕ) where
  -- at the beginning of cycle t + n, from the next one on
  abbrev pub at : ℕ → Usart
  at n = state usart acts levels v t n

  -- the last cycle of a frame is t + that
  abbrev pub last : Format → ℕ → ℕ
  last format from = from + frame_bits format * format.bit

  abbrev pub ending : Format → ℕ → Usart
  ending format from = stepping usart acts levels v t (last format from)

  -- byte y is sent in a frame of a format, whose F bits of B cycles take the cycles t + from + 1 to t + from + F B
  pub record IsSent (format : Format) (y from : ℕ) : Type 0 where
    -- a start bit is Low, data come from the lowest bit, then the parity, and the stop bits are High
    pub start : (n : ℕ) → 0 < n → n ≤ format.bit → usart.pad (at (from + n)) 1 ≡ txd_is false
    pub bits : (i n : ℕ) → i < format.size → (i + 1) * format.bit < n → n ≤ (i + 2) * format.bit → usart.pad (at (from + n)) 1 ≡ txd_is (is_set y i)
    pub parity : (n : ℕ) → has_parity format.parity ≡ true → (format.size + 1) * format.bit < n → n ≤ (format.size + 2) * format.bit →
        usart.pad (at (from + n)) 1 ≡ txd_is (parity_bit format.parity y)
    pub stop : (n : ℕ) → (frame_bits format - format.stops) * format.bit < n → n ≤ frame_bits format * format.bit → usart.pad (at (from + n)) 1 ≡ txd_is true
    -- the byte leaves in the last cycle, and none before
    pub silent : (n : ℕ) → 0 < n → n < frame_bits format * format.bit → usart.sends (stepping usart acts levels v t (from + n)) (t + (from + n)) ≡ None
    pub sent : usart.sends (ending format from) (t + last format from) ≡ Some y
    -- up to it the frame does not set TXC
    pub waits : (n : ℕ) → 0 < n → n ≤ frame_bits format * format.bit → (at (from + 1)).transmitter.txc ≡ false → (at (from + n)).transmitter.txc ≡ false
    -- there TXC is set, if no byte waits
    pub txc : (ending format from).transmitter.buffer ≡ None → (at (last format from + 1)).transmitter.txc ≡ true
    pub ends : (ending format from).transmitter.buffer ≡ None → (at (last format from + 1)).transmitter.frame ≡ None
    -- and else the frame of that byte begins, in the format that holds now
    pub begins : (z : ℕ) → (ending format from).transmitter.buffer ≡ Some z →
        (at (last format from + 1)).transmitter.frame ≡ Some (begun (format_of (ending format from)) (t + last format from) z)

-- UDR0 is written with x in cycle t; the USART is u before that, and v then.
pub record IsLoaded (acts : ℕ → Act) (u : Usart) (t : ℕ) : Type 0 where
  -- TXEN is set and no frame is on the way; in cycle t the processor does nothing more
  pub idle : u.transmitter.frame ≡ None
  pub enabled : txen u ≡ true
  pub nothing : acts t ≡ Nothing

-- What comes of the write, whatever the processor does then.
pub record SendsFrame (u v : Usart) (t x : ℕ) : Type 0 where
  -- the byte is sent, in the format that holds there
  pub frame : (acts : ℕ → Act) (levels : ℕ → List Level) → IsLoaded acts u t → IsSent acts levels v t (format_of u) (x % 2 ^ (format_of u).size) 0
  -- a byte that waits at the end of a frame is sent so at once, in the format that holds then
  pub next : (acts : ℕ → Act) (levels : ℕ → List Level) (format : Format) (y from z : ℕ) → IsSent acts levels v t format y from →
      (ending acts levels v t format from).transmitter.buffer ≡ Some z →
      IsSent acts levels v t (format_of (ending acts levels v t format from)) (z % 2 ^ (format_of (ending acts levels v t format from)).size) (last acts levels v t format from)
