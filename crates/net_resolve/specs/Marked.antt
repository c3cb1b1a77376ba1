-- Numbers that are marked, each once.
use Rattle.std.specs.Prelude.{◌≡◌, ℕ, ◌<◌, length, eqb, List, [], ◌∷◌, ◌++◌, Bool, false, if◌then◌else◌}
use Rattle.std.specs.List.{list_any}

-- whether a list has a number
abbrev pub has : List ℕ → ℕ → Bool
has ns n = list_any (eqb n) ns

-- numbers below `room`
pub record MarksView : Type 0 where
  pub room : ℕ
  pub marked : List ℕ

-- the numbers that are marked once n is too
abbrev pub with_mark : ℕ → List ℕ → List ℕ
with_mark n ns = if has ns n then ns else ns ++ n ∷ []

-- a number is taken out of others
pub record Taken (n : ℕ) (before after : List ℕ) : Type 0 where
  pub rest : (m : ℕ) → has (n ∷ after) m ≡ has before m
  pub gone : has after n ≡ false
  pub fewer : length after < length before
