-- What is read of a part or a behaviour of one of two kinds (profile).
use Rattle.std.specs.Prelude.{◌⊎◌}
use Rattle.std.proofs.Common.{inl, inr}
use Rattle.part_either.specs.declared.either.Either.{Either}
use Rattle.part_either.specs.declared.either.Either.TheVariants as eithers

abbrev pub either_state : {A B S T : Type 0} → (A → S) → (B → T) → Either A B → S ⊎ T
either_state f g (eithers.Left a) = inl (f a)
either_state f g (eithers.Right b) = inr (g b)

abbrev pub on_either : {A B X : Type 0} → (A → X) → (B → X) → Either A B → X
on_either f g (eithers.Left a) = f a
on_either f g (eithers.Right b) = g b
