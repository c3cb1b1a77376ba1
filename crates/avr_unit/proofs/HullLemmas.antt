-- Pins that are in a span, in none, and in neither of two.
use Rattle.std.proofs.Common.{◌≡◌, ℕ, ◌<◌, ◌≤◌, false, inl, inr, arith, subst, sym}
use Rattle.std.specs.Prelude.{◌==◌}
use Rattle.std.proofs.lemmas.Bool.Decides.{eqb_tells}
use Rattle.part_law.specs.declared.span.Span.{Span}
use Rattle.part_law.specs.Spans.{IsIn}
use Rattle.avr_unit.specs.Placed.{hull, apart_hull}

pub apart : (x a b : Span) (p : ℕ) → x ≡ hull a b → ¬ IsIn x p → (¬ IsIn a p) × (¬ IsIn b p)
apart x a b p is out = apart_hull a b p (λ h. out (subst (λ (s : Span). IsIn s p) (sym is) h))

-- a pin outside is none of those within
pub outside : (a b k p : ℕ) → ¬ IsIn (record { from = a; to = b }) p → a ≤ k → k < b → (p == k) ≡ false
outside a b k p out from to = elim (eqb_tells p k) [
  | inl is ↦ let e = is.1 in absurd (out (omega (arith, e, from), omega (arith, e, to)))
  | inr other ↦ other.0
]
