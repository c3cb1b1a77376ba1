-- Pins that are in no span, and in neither of two.
use Rattle.std.proofs.Common.{ap, ◌∙◌, ◌&&◌, not, ◌≡◌, ℕ, Bool, true, false, nat_lt, arith, refl}
use Rattle.std.specs.Prelude.{if◌then◌else◌, min, max}
use Rattle.std.proofs.lemmas.Bool.Decides.{nat_tests}
use Rattle.part_law.specs.declared.span.Span.{Span}
use Rattle.part_law.specs.Spans.{IsIn, is_in, join}

-- a span without pins has none
pub none_in : (a : Span) (p : ℕ) → nat_lt a.from a.to ≡ false → ¬ IsIn a p
none_in a p empty h =
    let from = h.0 in
    let to = h.1 in
    grind (arith, nat_tests, empty, from, to)

-- the test tells whether a pin is one of the span
pub in_span : (a : Span) (p : ℕ) → is_in a p ≡ true → IsIn a p
in_span a p = by (nat_lt p a.from) (nat_lt p a.to) refl refl
  where
    by : (x y : Bool) → nat_lt p a.from ≡ x → nat_lt p a.to ≡ y → (not x && y) ≡ true → IsIn a p
    by true y from to h = cc
    by false true from to h = (grind (arith, nat_tests, from), grind (arith, nat_tests, to))
    by false false from to h = cc

pub not_in_span : (a : Span) (p : ℕ) → is_in a p ≡ false → ¬ IsIn a p
not_in_span a p outside h =
    let from : nat_lt p a.from ≡ false = (let f = h.0 in grind (arith, nat_tests, f)) in
    let to : nat_lt p a.to ≡ true = (let t = h.1 in grind (arith, nat_tests, t)) in
    let yes : is_in a p ≡ true = ap (λ (x : Bool). not x && nat_lt p a.to) from ∙ to in
    cc

-- what is not in two that were joined is in neither
pub not_joined : (a b : Span) (p : ℕ) → ¬ IsIn (join a b) p → (¬ IsIn a p) × (¬ IsIn b p)
not_joined a b p = by (nat_lt a.from a.to) refl
  where
    by : (x : Bool) → nat_lt a.from a.to ≡ x → ¬ IsIn (if x then record { from = min a.from b.from; to = max a.to b.to } else b) p → (¬ IsIn a p) × (¬ IsIn b p)
    by true some out = (
      λ h. out (grind (arith, h.0), grind (arith, h.1)),
      λ h. out (grind (arith, h.0), grind (arith, h.1)),
    )
    by false none out = (none_in a p none, out)
