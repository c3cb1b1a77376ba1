-- What steps answer together.
use Rattle.std.proofs.Common.{◌≡◌, Option, None, Some, refl}
use Rattle.avr_unit.specs.Both.{first_of_two}

pub first_of_two-none : {A : Type 0} (a : Option A) → first_of_two a None ≡ a
first_of_two-none (Some x) = refl
first_of_two-none None = refl

pub first_of_two-first_of_two : {A : Type 0} (a b c : Option A) → first_of_two a (first_of_two b c) ≡ first_of_two (first_of_two a b) c
first_of_two-first_of_two (Some x) b c = refl
first_of_two-first_of_two None b c = refl
