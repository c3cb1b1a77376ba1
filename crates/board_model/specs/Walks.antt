-- Walks over numbered places, of which there are `count`.
use Rattle.std.specs.Prelude.{◌≡◌, ℕ, zero, suc, Bool, true, false, ◌&&◌, ◌||◌, ◌==◌, List, [], ◌∷◌, ◌++◌}

-- from n one comes to m, step by step
pub data Walk (step : ℕ → ℕ → Bool) (n : ℕ) : ℕ → Type 0 where
  here : Walk step n n
  further : (j m : ℕ) → Walk step n j → step j m ≡ true → Walk step n m

-- whether some number below this one passes a test
abbrev pub any_below : ℕ → (ℕ → Bool) → Bool
any_below zero test = false
any_below (suc j) test = any_below j test || test j

-- the numbers below this one
abbrev pub below : ℕ → List ℕ
below zero = []
below (suc n) = below n ++ n ∷ []

-- whether a walk of at most k steps leads from n to m
unfoldable pub walk_within : ℕ → (ℕ → ℕ → Bool) → ℕ → ℕ → ℕ → Bool
walk_within count step zero n m = n == m
walk_within count step (suc k) n m = walk_within count step k n m || any_below count (λ j. walk_within count step k n j && step j m)

-- whether a walk leads from n to m: one of at most as many steps as there are places does, where any does
abbrev pub leads : ℕ → (ℕ → ℕ → Bool) → ℕ → ℕ → Bool
leads count step n m = walk_within count step count n m
