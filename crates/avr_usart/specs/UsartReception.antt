-- A frame that the USART receives (data sheet, "USART0", "Data Reception - The USART Receiver", "Receiver Flags"; one sample in the middle
-- of each bit is the profile's).
use Rattle.std.specs.Prelude.{◌≡◌, ℕ, zero, suc, ◌+◌, ◌*◌, ◌/◌, ◌^◌, ◌<◌, ◌≤◌, ◌||◌, not, Bool, true, false, List, None}
use Rattle.sim_base.specs.declared.signal.Level.{Level}
use Rattle.avr_unit.specs.Bits.{is_set, one}
use Rattle.avr_usart.specs.declared.format.Format.{Format}
use Rattle.avr_usart.specs.Format.{has_parity, parity_bit}
use Rattle.avr_usart.specs.Receiver.{queued, is_full, differ}
use Rattle.avr_usart.specs.Usart.{Usart, usart, rxen, rxd, format_of}
use Rattle.avr_unit_model.specs.Life.{Act, state, stepping}

-- The USART is u in the step of cycle t, and v after it.
module _ (acts : ℕ → Act) (levels : ℕ → List Level) (u v : Usart) (t : ℕ) where
  -- at the beginning of cycle t + n, after what the processor did in cycle t
  abbrev pub at : ℕ → Usart
  at zero = u
  at (suc n) = state usart acts levels v (suc t) n

  -- what the processor leaves in cycle t + n
  abbrev pub done : ℕ → Usart
  done zero = u
  done (suc n) = stepping usart acts levels v (suc t) n

  -- the format that holds when the frame begins
  abbrev pub format : Format
  format = format_of u

  -- bit k is sampled in cycle t + k B + B / 2
  abbrev pub middle : ℕ → ℕ
  middle k = k * format.bit + format.bit / 2

  abbrev pub line : ℕ → Bool
  line k = rxd (levels (t + middle k))

  -- which bit is the first stop bit: start, data and parity come before it
  abbrev pub stop : ℕ
  stop = format.size + 1 + one (has_parity format.parity)

  -- RXD falls in cycle t from these levels to those, while nothing is received; RXEN is set for so many cycles
  pub record IsFalling (from to : List Level) (cycles : ℕ) : Type 0 where
    pub idle : u.receiver.reception ≡ None
    pub high : rxd from ≡ true
    pub low : rxd to ≡ false
    pub enabled : (n : ℕ) → n ≤ cycles → rxen (done n) ≡ true

  -- the receiver takes nothing into its queue in the step of cycle t + n
  pub record TakesNothing (n : ℕ) : Type 0 where
    pub queue : (at (n + 1)).receiver.queue ≡ (done n).receiver.queue
    pub dor : (at (n + 1)).receiver.dor ≡ (done n).receiver.dor

  -- a start bit that reads 1 in its middle is none
  pub record IsNoise : Type 0 where
    pub nothing : (n : ℕ) → n ≤ middle 0 → TakesNothing n
    pub idle : (at (middle 0 + 1)).receiver.reception ≡ None

  pub record IsReceived : Type 0 where
    -- the data come from the lowest bit
    pub byte : ℕ
    pub below : byte < 2 ^ format.size
    pub bits : (i : ℕ) → i < format.size → is_set byte i ≡ line (i + 1)
    -- UPE, where the parity of the data is not what the bit after them says
    pub upe : Bool
    pub plain : has_parity format.parity ≡ false → upe ≡ false
    pub parity : has_parity format.parity ≡ true → upe ≡ differ (line (format.size + 1)) (parity_bit format.parity byte)
    -- At the sample of the first stop bit the byte goes into the queue, with FE where that reads 0; nothing comes before. A queue that is
    -- full stays as it is, and DOR is set.
    pub nothing : (n : ℕ) → n < middle stop → TakesNothing n
    pub queue : (at (middle stop + 1)).receiver.queue ≡ queued (done (middle stop)).receiver.queue (record { byte = byte; fe = not (line stop); upe = upe })
    pub dor : (at (middle stop + 1)).receiver.dor ≡ ((done (middle stop)).receiver.dor || is_full (done (middle stop)).receiver.queue)
    -- and the next start bit may come
    pub idle : (at (middle stop + 1)).receiver.reception ≡ None

-- What comes of a falling RXD, whatever else the processor does then and whatever is on the pins.
pub record HearsFrame (u v : Usart) (t : ℕ) (from to : List Level) : Type 0 where
  -- a frame whose start bit reads 0 in its middle is received, and any other one is noise
  pub frame : (acts : ℕ → Act) (levels : ℕ → List Level) → IsFalling acts levels u v t from to (middle acts levels u v t (stop acts levels u v t)) →
      line acts levels u v t 0 ≡ false → IsReceived acts levels u v t
  pub noise : (acts : ℕ → Act) (levels : ℕ → List Level) → IsFalling acts levels u v t from to (middle acts levels u v t 0) →
      line acts levels u v t 0 ≡ true → IsNoise acts levels u v t
