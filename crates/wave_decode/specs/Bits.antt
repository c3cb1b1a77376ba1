-- Bits that are taken one after the other.
use Rattle.std.specs.Prelude.{ℕ, zero, suc, ◌+◌, ◌*◌, ◌/◌, ◌%◌, Bool, true, false}

abbrev pub bit_of : Bool → ℕ
bit_of false = 0
bit_of true = 1

-- the last eight bits, the highest first, after one more
abbrev pub shifted : ℕ → Bool → ℕ
shifted value bit = (2 * value + bit_of bit) % 256

-- the number of so many bits, the lowest first, that a line has from a cycle on, one in so many cycles
unfoldable pub number_from : (ℕ → Bool) → ℕ → ℕ → ℕ → ℕ
number_from line bit t zero = 0
number_from line bit t (suc k) = bit_of (line t) + 2 * number_from line bit (t + bit) k

-- the same, as a register of eight bits has it that takes each at its top
unfoldable pub taken : (ℕ → Bool) → ℕ → ℕ → ℕ → ℕ → ℕ
taken line bit t zero value = value
taken line bit t (suc k) value = taken line bit (t + bit) k (value / 2 + 128 * bit_of (line t))
