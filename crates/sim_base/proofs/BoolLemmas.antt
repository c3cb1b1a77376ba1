-- What the standard library does not say of Bool.
use Rattle.std.proofs.Common.{◌≡◌, Bool, true, false, not, ◌&&◌, ◌||◌, refl, ap, sym}

pub or_off : (a b : Bool) → b ≡ false → (a || b) ≡ a
or_off true b h = refl
or_off false b h = h

-- no level is both, whatever the condition
pub and_opposite : (a b : Bool) → (a && (b && not b)) ≡ false
and_opposite true true = refl
and_opposite true false = refl
and_opposite false b = refl

pub not_swap : (a b : Bool) → b ≡ not a → a ≡ not b
not_swap true b h = sym (ap not h)
not_swap false b h = sym (ap not h)
