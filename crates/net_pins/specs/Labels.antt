-- Numbers of labels, which are each the least pin of a net.
use Rattle.std.specs.Prelude.{ℕ, ◌<◌, ◌==◌, List, length, map, filter, Bool, slice_index}
use Rattle.board_model.specs.Walks.{below}

-- both pins of a pair are below a count
abbrev pub IsBelow : ℕ → ℕ × ℕ → Type 0
IsBelow count pair = (pair.0 < count) × (pair.1 < count)

-- whether a pin is its own label, and how many pins below one are
abbrev pub is_own : List ℕ → ℕ → Bool
is_own labels p = slice_index labels p == p

unfoldable pub owns : List ℕ → ℕ → ℕ
owns labels n = length (filter (is_own labels) (below n))

-- each pin's label as a number that counts the labels before it
unfoldable pub numbered : List ℕ → List ℕ
numbered labels = map (λ p. owns labels (slice_index labels p)) (below (length labels))
