-- A change of levels of which a unit takes no notice. It is said of what the machine does: no machine names it.
use Rattle.std.specs.Prelude.{◌≡◌, ◌+◌, ℕ, List, false}
use Rattle.sim_base.specs.declared.signal.Level.{Level}
use Rattle.avr_unit.specs.UnitMachine.{UnitMachine, IsQuiet, least, steps}

module _ {U : Type 0} (m : UnitMachine U) where
  -- In cycle t a change from these levels to those is none to the unit: without an event its step is that on levels that stay, and
  -- it requests the same and ends no power-down by it.
  pub record Unheard (s : U) (t : ℕ) (before now : List Level) : Type 0 where
    pub steps : m.due s t ≡ false → m.step s t before now ≡ m.step s t now now
    pub requests : least (m.requests s before) ≡ least (m.requests s now)
    pub rouses : m.power.rouses s before ≡ m.power.rouses s now

  -- so it is in cycle t, and in each that is reached from there without an event
  abbrev pub UnheardFrom : U → ℕ → List Level → List Level → Type 0
  UnheardFrom s t before now = (n : ℕ) → IsQuiet m s t n → Unheard (steps m s t n) (t + n) before now
