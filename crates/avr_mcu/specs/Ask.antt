-- What units are asked for in a cycle: what each call leaves, and what it tells. No public clause cites this.
use Rattle.std.specs.Prelude.{◌≡◌, ◌+◌, ◌<◌, ℕ, List, Bool, Option, None, Some, if◌then◌else◌}
use Rattle.sim_base.specs.declared.signal.Level.{Level}
use Rattle.sim_base.specs.declared.limits.TheConstants.{MOST_CYCLES}
use Rattle.part_law.specs.declared.span.Span.{Span}
use Rattle.avr_unit.specs.Placed.{StepMoves}
use Rattle.avr_unit.specs.Reach.{Touch}
use Rattle.avr_unit.specs.Signals.{signalled}
use Rattle.avr_unit.specs.UnitMachine.{UnitMachine}
use Rattle.avr_unit.specs.declared.signal.Signal.{Signal}

-- a register that is read; one that is written, or one bit of it, with the pins that were touched before; a vector that is entered; a
-- signal; the step of the cycle
pub data Ask : Type 0 where
  Read : ℕ → Ask
  Write : ℕ → ℕ → Span → Ask
  WriteBit : ℕ → ℕ → Bool → Span → Ask
  Taken : ℕ → Ask
  Gets : Signal → Ask
  Step : Ask

-- the value of a register, or the pins that are touched now, if it is there; of a step the byte that leaves, whether it ends in a reset,
-- and the pins of which it may change what is asked
pub data Told : Type 0 where
  Value : Option ℕ → Told
  Pins : Option Span → Told
  Stepped : Option ℕ → Bool → Span → Told
  Nothing : Told

-- the cycle in which they are asked next
abbrev pub after : Ask → ℕ → ℕ
after (Read a) t = t
after (Write a x p) t = t
after (WriteBit a k x p) t = t
after (Taken v) t = t
after (Gets s) t = t
after Step t = t + 1

-- and on which levels
abbrev pub levels_after : Ask → List Level → List Level → List Level
levels_after (Read a) before now = before
levels_after (Write a x p) before now = before
levels_after (WriteBit a k x p) before now = before
levels_after (Taken v) before now = before
levels_after (Gets s) before now = before
levels_after Step before now = now

-- a bit is one of eight, and the last cycle is not stepped over
abbrev pub IsFit : Ask → ℕ → Type 0
IsFit (Read a) t = Unit {0}
IsFit (Write a x p) t = Unit {0}
IsFit (WriteBit a k x p) t = k < 8
IsFit (Taken v) t = Unit {0}
IsFit (Gets s) t = Unit {0}
IsFit Step t = t < MOST_CYCLES

abbrev pub IsValue : Option ℕ → Told → Type 0
IsValue x (Value y) = y ≡ x
IsValue x (Pins y) = Unit {0}
IsValue x (Stepped byte resets moved) = Unit {0}
IsValue x Nothing = Unit {0}

abbrev pub IsPins : Option Span → Told → Type 0
IsPins x (Value y) = Unit {0}
IsPins x (Pins y) = y ≡ x
IsPins x (Stepped byte resets moved) = Unit {0}
IsPins x Nothing = Unit {0}

module _ {D : Type 0} (m : UnitMachine D) where
  -- what the call in cycle t leaves, from the levels before to those now
  abbrev pub left : Ask → D → ℕ → List Level → List Level → D
  left (Read a) s t before now = if m.has a then m.read s t a else s
  left (Write a x p) s t before now = if m.has a then m.write s t a x else s
  left (WriteBit a k x p) s t before now = if m.has a then m.write_bit s t a k x else s
  left (Taken v) s t before now = m.taken s v
  left (Gets g) s t before now = signalled m g s t
  left Step s t before now = m.step s t before now

  -- of a step
  pub record Steps (s : D) (t : ℕ) (before now : List Level) (byte : Option ℕ) (resets : Bool) (moved : Span) : Type 0 where
    pub byte_is : byte ≡ m.sends s t
    pub resets_is : resets ≡ m.power.resets s t
    pub pads : StepMoves m s t before now moved

  abbrev pub IsStep : D → ℕ → List Level → List Level → Told → Type 0
  IsStep s t before now (Value y) = Unit {0}
  IsStep s t before now (Pins y) = Unit {0}
  IsStep s t before now (Stepped byte resets moved) = Steps s t before now byte resets moved
  IsStep s t before now Nothing = Unit {0}

  -- what it tells
  abbrev pub Tells : Touch D → Ask → D → ℕ → List Level → List Level → Told → Type 0
  Tells r (Read a) s t before now told = IsValue (if m.has a then Some (m.answers s t before a) else None) told
  Tells r (Write a x p) s t before now told = IsPins (if m.has a then Some (r.writes s a x p) else None) told
  Tells r (WriteBit a k x p) s t before now told = IsPins (if m.has a then Some (r.bits s a k x p) else None) told
  Tells r (Taken v) s t before now told = Unit {0}
  Tells r (Gets g) s t before now told = Unit {0}
  Tells r Step s t before now told = IsStep s t before now told
