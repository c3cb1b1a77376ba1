-- What comes next of a unit, or of a group of units: its events and what it requests.
use Rattle.std.specs.Prelude.{◌≡◌, ◌+◌, ℕ, List, Bool}
use Rattle.sim_base.specs.declared.signal.Level.{Level}
use Rattle.avr_unit.specs.UnitMachine.{UnitMachine, steps}

module _ {U : Type 0} (m : UnitMachine U) where
  -- from cycle t on, as far as no level changes, both have the same events; and both request and rouse the same
  pub record SameNext (t : ℕ) (new old : U) : Type 0 where
    pub events : (k : ℕ) → m.due (steps m new t k) (t + k) ≡ m.due (steps m old t k) (t + k)
    pub requests : (l : List Level) → m.requests new l ≡ m.requests old l
    pub rouses : (l : List Level) → m.power.rouses new l ≡ m.power.rouses old l

  -- a write of the register, or of one bit of it, leaves both
  pub record WritesKeepNext (a : ℕ) : Type 0 where
    pub writes : (s : U) (t x : ℕ) → SameNext t (m.write s t a x) s
    pub bits : (s : U) (t k : ℕ) (x : Bool) → SameNext t (m.write_bit s t a k x) s
