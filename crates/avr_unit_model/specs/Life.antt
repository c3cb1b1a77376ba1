-- A unit beside the processor: in each cycle the processor does at most one thing with the unit's registers, and then the unit steps once.
use Rattle.std.specs.Prelude.{ℕ, zero, suc, ◌+◌, List, [], Bool}
use Rattle.sim_base.specs.declared.signal.Level.{Level}
use Rattle.avr_unit.specs.UnitMachine.{UnitMachine}

-- what the processor does: it reads or writes a register, writes one bit of it (SBI, CBI), or enters a vector
pub data Act : Type 0 where
  Nothing : Act
  Read : ℕ → Act
  Write : ℕ → ℕ → Act
  WriteBit : ℕ → ℕ → Bool → Act
  Enter : ℕ → Act

-- the levels of the cycle before; a pin has none before cycle 0
abbrev pub before : (ℕ → List Level) → ℕ → List Level
before levels zero = []
before levels (suc t) = levels t

module _ {U : Type 0} (m : UnitMachine U) where
  abbrev pub acted : U → ℕ → Act → U
  acted u t Nothing = u
  acted u t (Read a) = m.read u t a
  acted u t (Write a x) = m.write u t a x
  acted u t (WriteBit a k x) = m.write_bit u t a k x
  acted u t (Enter v) = m.taken u v

  module _ (acts : ℕ → Act) (levels : ℕ → List Level) (u : U) (t : ℕ) where
    -- the state at the beginning of cycle t + n, where it is u at that of cycle t
    unfoldable pub state : ℕ → U
    state zero = u
    state (suc n) = m.step (acted (state n) (t + n) (acts (t + n))) (t + n) (before levels (t + n)) (levels (t + n))

    -- the state that steps in cycle t + n
    abbrev pub stepping : ℕ → U
    stepping n = acted (state n) (t + n) (acts (t + n))
