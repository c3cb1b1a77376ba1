-- What a part alone does is what its kind does.
use Rattle.std.proofs.Common.{◌≡◌, inl, inr, ℕ, ◌+◌, List, [], ◌∷◌, None, refl, ap}
use Rattle.sim_base.specs.declared.signal.Level.{Level}
use Rattle.sim_base.specs.declared.signal.Drive.{Drive}
use Rattle.part_law.specs.Machine.{Machine}
use Rattle.part_law.specs.Either.{either}
use Rattle.law_board.specs.Alone.{drive_rows}

module _ {A B : Type 0} (m : Machine A) (n : Machine B) where
  pub drive_rows_left : (a : A) (c : ℕ) (ls : List (List Level)) → drive_rows (either m n) (inl a) c ls ≡ drive_rows m a c ls
  drive_rows_left a c [] = refl
  drive_rows_left a c (l ∷ ls) = ap (λ (r : List (List Drive)). m.drives a ∷ r) (drive_rows_left (m.step a c l None).0 (c + 1) ls)

  pub drive_rows_right : (b : B) (c : ℕ) (ls : List (List Level)) → drive_rows (either m n) (inr b) c ls ≡ drive_rows n b c ls
  drive_rows_right b c [] = refl
  drive_rows_right b c (l ∷ ls) = ap (λ (r : List (List Drive)). n.drives b ∷ r) (drive_rows_right (n.step b c l None).0 (c + 1) ls)
