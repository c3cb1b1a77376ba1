-- The pins of a unit, among those that units see.
use Rattle.std.specs.Prelude.{◌≡◌, ◌<◌, ℕ, List, Bool, true, false, nat_lt, if◌then◌else◌}
use Rattle.std.proofs.Common.{refl, sym, ◌∙◌}
use Rattle.sim_base.specs.declared.signal.Level.{Level}
use Rattle.part_law.specs.declared.span.Span.{Span}
use Rattle.part_law.specs.Spans.{IsIn, join}
use Rattle.part_law.proofs.SpanLemmas.{none_in, not_joined}
use Rattle.avr_unit.specs.Pad.{untouched}
use Rattle.avr_unit.specs.declared.pins.TheConstants.{PORT_PINS}
use Rattle.avr_unit.specs.UnitMachine.{UnitMachine}

module _ {U : Type 0} (m : UnitMachine U) where
  -- it leaves other pins alone
  abbrev pub Placed : Span → Type 0
  Placed pins = (s : U) (p : ℕ) → p < PORT_PINS → ¬ IsIn pins p → m.pad s p ≡ untouched

  -- what it asks is the same but of these pins
  abbrev pub SameBut : Span → U → U → Type 0
  SameBut pins new old = (p : ℕ) → p < PORT_PINS → ¬ IsIn pins p → m.pad new p ≡ m.pad old p

  -- cycle t, from the levels before to those now, changes what it asks of these pins alone
  abbrev pub StepMoves : U → ℕ → List Level → List Level → Span → Type 0
  StepMoves s t before now pins = SameBut pins (m.step s t before now) s

  -- where it leaves other pins alone, anything changes what it asks of these alone
  pub placed_same : (pins : Span) → Placed pins → (new old : U) → SameBut pins new old
  placed_same pins placed new old p less out = placed new p less out ∙ sym (placed old p less out)

-- each pin of the first is one of the second
abbrev pub IsWithin : Span → Span → Type 0
IsWithin a b = (p : ℕ) → ¬ IsIn b p → ¬ IsIn a p

-- the least span that has the pins of both
abbrev pub hull : Span → Span → Span
hull a b = if nat_lt b.from b.to then join a b else a

-- a pin outside of it is outside of both
pub apart_hull : (a b : Span) (p : ℕ) → ¬ IsIn (hull a b) p → (¬ IsIn a p) × (¬ IsIn b p)
apart_hull a b p out = by (nat_lt b.from b.to) refl out
  where
    by : (some : Bool) → nat_lt b.from b.to ≡ some → ¬ IsIn (if some then join a b else a) p → (¬ IsIn a p) × (¬ IsIn b p)
    by true e out = not_joined a b p out
    by false none out = (out, none_in b p none)
