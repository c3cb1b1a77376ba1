-- What the TWI does on its lines as a master (data sheet, "2-wire Serial Interface", "2-wire Serial Interface Bus Definition", "Data Transfer
-- and Frame Format"; in which cycles the halves of a period begin is the profile's).
use Rattle.std.specs.Prelude.{◌≡◌, ℕ, ◌+◌, ◌-◌, ◌*◌, ◌<◌, ◌≤◌, ◌==◌, ◌&&◌, not, Bool, true, false, if◌then◌else◌, List, None, Some}
use Rattle.sim_base.specs.declared.signal.Level.{Level}
use Rattle.avr_unit.specs.Bits.{is_set}
use Rattle.avr_twi.specs.declared.packet.Kind.{Kind}
use Rattle.avr_twi.specs.declared.packet.Kind.TheVariants.{SlaW, SlaR, DataOut, DataIn}
use Rattle.avr_twi.specs.Packet.{answered, wanted}
use Rattle.avr_twi.specs.Status.{code}
use Rattle.avr_twi.specs.Twi.{Twi, twi, half_period, open_drain, sda, scl}
use Rattle.avr_unit_model.specs.Life.{Act, Nothing, state, stepping}

-- Bit i of a byte, and the answer, which is bit 8: what the master lets SDA be. Of a byte out the receiver answers; of a byte in the
-- master does, with 0 where TWEA is set.
abbrev pub line_bit : Kind → ℕ → Bool → ℕ → Bool
line_bit SlaW twdr twea i = if i == 8 then true else is_set twdr (7 - i)
line_bit SlaR twdr twea i = if i == 8 then true else is_set twdr (7 - i)
line_bit DataOut twdr twea i = if i == 8 then true else is_set twdr (7 - i)
line_bit DataIn twdr twea i = if i == 8 then not twea else true

-- whether the master sends bit i, and so may see that another one sends a 0
abbrev pub sends : Kind → ℕ → Bool
sends SlaW i = not (i == 8)
sends SlaR i = not (i == 8)
sends DataOut i = not (i == 8)
sends DataIn i = i == 8

-- TWCR is written in cycle t; the TWI is u before that, and v then.
module _ (acts : ℕ → Act) (levels : ℕ → List Level) (u v : Twi) (t : ℕ) where
  -- at the beginning of cycle t + n, from the next one on
  abbrev pub at : ℕ → Twi
  at n = state twi acts levels v t n

  -- half a period of SCL
  abbrev pub h : ℕ
  h = half_period u

  -- TWINT and TWEN are written, and nothing is going on. In cycle t the processor does nothing more; for so many cycles it leaves TWEN set.
  pub record IsBegun (x cycles : ℕ) : Type 0 where
    pub idle : u.master.action ≡ None
    pub nothing : acts t ≡ Nothing
    pub twint : is_set x 7 ≡ true
    pub twen : is_set x 2 ≡ true
    pub enabled : (n : ℕ) → n ≤ cycles → is_set (stepping twi acts levels v t n).master.twcr 2 ≡ true

  -- what is on the pins of SDA and SCL at the beginning of cycle t + n: each is released, or Low
  pub record Shows (sda_free scl_free : Bool) (n : ℕ) : Type 0 where
    pub data_pin : twi.pad (at n) 18 ≡ open_drain sda_free
    pub clock_pin : twi.pad (at n) 19 ≡ open_drain scl_free

  -- while something is going on: in the cycles t + from + 1 to t + to the lines are so, and TWINT reads 0
  abbrev pub Holds : ℕ → ℕ → Bool → Bool → Type 0
  Holds from to sda_free scl_free = (n : ℕ) → from < n → n ≤ to → Shows sda_free scl_free n × ((at n).master.twint ≡ false)

  -- An action ends in the step of cycle t + n - 1: TWINT is set, with a status, and SCL is held Low.
  pub record IsDone (status n : ℕ) : Type 0 where
    pub twint : (at n).master.twint ≡ true
    pub twsr : code (at n).master.status ≡ status
    pub clock : twi.pad (at n) 19 ≡ open_drain false
    pub over : (at n).master.action ≡ None

  -- what SDA and SCL read in cycle t + n
  abbrev pub data_reads : ℕ → Bool
  data_reads n = sda (levels (t + n))

  abbrev pub both_read : ℕ → Bool
  both_read n = sda (levels (t + n)) && scl (levels (t + n))

  -- bit i is sent as a 1, and reads 0 in its last cycle
  abbrev pub loses : Kind → ℕ → Bool → ℕ → Bool
  loses kind twdr twea i = sends kind i && (line_bit kind twdr twea i && not (data_reads ((i + 1) * (2 * h))))

  -- A START that begins after cycle t + from, while SCL is held Low or not. Its second half period comes r times again, since a line
  -- reads 0 in its last cycle.
  pub record IsStart (from half r : ℕ) (held : Bool) : Type 0 where
    -- SDA is released, and SCL stays as it was
    pub release : Holds from (from + half) true (not held)
    -- both are released
    pub setup : Holds (from + half) (from + (r + 2) * half) true true
    -- SDA is Low while SCL is released
    pub hold : Holds (from + (r + 2) * half) (from + (r + 3) * half) false true
    -- the status is 10 where SCL was held, and else 08
    pub done : IsDone (if held then 0x10 else 0x08) (from + (r + 3) * half + 1)

  -- up to the last cycle of the second half period and no longer a line reads 0
  pub record IsFree (from half r : ℕ) : Type 0 where
    pub waits : (j : ℕ) → j < r → both_read (from + (j + 2) * half) ≡ false
    pub free : both_read (from + (r + 2) * half) ≡ true

  -- A byte of some kind, with its answer.
  pub record IsByte (kind : Kind) (twdr : ℕ) (twea : Bool) : Type 0 where
    -- bit i is on SDA for two half periods; SCL is Low in the first, and released in the second
    pub low : (i : ℕ) → i < 9 → Holds (i * (2 * h)) (i * (2 * h) + h) (line_bit kind twdr twea i) false
    pub high : (i : ℕ) → i < 9 → Holds (i * (2 * h) + h) ((i + 1) * (2 * h)) (line_bit kind twdr twea i) true
    -- the status by the answer, which SDA has in the last cycle
    pub done : IsDone (code (answered kind (data_reads (9 * (2 * h))))) (9 * (2 * h) + 1)
    -- a byte in is read from TWDR: bit i is what SDA read in the last cycle of it
    pub byte : kind ≡ DataIn → (i : ℕ) → i < 8 → is_set (at (9 * (2 * h) + 1)).master.twdr (7 - i) ≡ data_reads ((i + 1) * (2 * h))

  -- Bit i was sent as a 1, and reads 0: both lines are released at once, with status 38.
  pub record IsLost (i : ℕ) : Type 0 where
    pub twint : (at ((i + 1) * (2 * h) + 1)).master.twint ≡ true
    pub twsr : code (at ((i + 1) * (2 * h) + 1)).master.status ≡ 0x38
    pub lines : Shows true true ((i + 1) * (2 * h) + 1)
    pub over : (at ((i + 1) * (2 * h) + 1)).master.action ≡ None

  -- half a period at the end of a STOP
  abbrev pub next_half : ℕ
  next_half = half_period (stepping twi acts levels v t (2 * h))

  pub record IsStop : Type 0 where
    -- both are Low, then SCL is released, and then SDA
    pub low : Holds 0 h false false
    pub setup : Holds h (2 * h) false true
    pub lines : Shows true true (2 * h + 1)
    -- TWSTO is cleared, and TWINT is not set
    pub twsto : is_set (at (2 * h + 1)).master.twcr 4 ≡ false
    pub twint : (at (2 * h + 1)).master.twint ≡ false
    pub twsr : code (at (2 * h + 1)).master.status ≡ 0xF8

-- What comes of the write of x to TWCR, whatever else the processor does then and whatever is on the pins.
pub record MasterDoes (u v : Twi) (t x : ℕ) : Type 0 where
  -- TWSTA without TWSTO: a START, once the bus is free
  pub start : (acts : ℕ → Act) (levels : ℕ → List Level) (r : ℕ) → IsBegun acts levels u v t x ((r + 3) * half_period u) → is_set x 5 ≡ true → is_set x 4 ≡ false →
      IsFree acts levels u v t 0 (half_period u) r → IsStart acts levels u v t 0 (half_period u) r (not u.master.scl)
  -- neither: the byte that the status asks for, if no bit of it is lost
  pub byte : (acts : ℕ → Act) (levels : ℕ → List Level) (kind : Kind) → is_set x 5 ≡ false → is_set x 4 ≡ false → wanted u.master.status u.master.twdr ≡ Some kind →
      IsBegun acts levels u v t x (9 * (2 * half_period u)) →
      ((i : ℕ) → i < 9 → loses acts levels u v t kind u.master.twdr (is_set x 6) i ≡ false) → IsByte acts levels u v t kind u.master.twdr (is_set x 6)
  -- and up to a bit that is
  pub loss : (acts : ℕ → Act) (levels : ℕ → List Level) (kind : Kind) → is_set x 5 ≡ false → is_set x 4 ≡ false → wanted u.master.status u.master.twdr ≡ Some kind →
      (i : ℕ) → i < 9 → IsBegun acts levels u v t x ((i + 1) * (2 * half_period u)) →
      ((j : ℕ) → j < i → loses acts levels u v t kind u.master.twdr (is_set x 6) j ≡ false) → loses acts levels u v t kind u.master.twdr (is_set x 6) i ≡ true →
      IsLost acts levels u v t i
  -- TWSTO: a STOP
  pub stop : (acts : ℕ → Act) (levels : ℕ → List Level) → IsBegun acts levels u v t x (2 * half_period u) → is_set x 4 ≡ true → IsStop acts levels u v t
  -- with TWSTA too a START follows, while SCL is not held
  pub stop_start : (acts : ℕ → Act) (levels : ℕ → List Level) (r : ℕ) →
      IsBegun acts levels u v t x (2 * half_period u + (r + 3) * next_half acts levels u v t) → is_set x 4 ≡ true → is_set x 5 ≡ true →
      IsFree acts levels u v t (2 * half_period u) (next_half acts levels u v t) r →
      IsStart acts levels u v t (2 * half_period u) (next_half acts levels u v t) r false
