-- Contacts, resistors and wires, each by the two numbers that it is between.
use Rattle.std.specs.Prelude.{◌≡◌, ℕ, ◌<◌, List, Some, slice_get}

-- all these numbers are below n
abbrev pub ArePairs : ℕ → List (ℕ × ℕ) → Type 0
ArePairs n pairs = (k : ℕ) (c : ℕ × ℕ) → slice_get pairs k ≡ Some c → (c.0 < n) × (c.1 < n)
