-- Numbers drawn from a seed: a linear congruential generator (Knuth, "The Art of Computer Programming", volume 2, "The Linear
-- Congruential Method"; which numbers of it are drawn is the profile's).
use Rattle.std.specs.Prelude.{ℕ, zero, suc, ◌+◌, ◌*◌, ◌/◌, ◌%◌, ◌^◌}

abbrev pub after : ℕ → ℕ
after x = (1664525 * x + 1013904223) % 2 ^ 32

-- the number behind so many draws
unfoldable pub drawn : ℕ → ℕ → ℕ
drawn seed zero = seed
drawn seed (suc n) = after (drawn seed n)

-- draw n from 1 on: the upper half of the number
abbrev pub draw : ℕ → ℕ → ℕ
draw seed n = drawn seed n / 65536
