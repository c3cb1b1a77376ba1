-- Numbers in digits of a radix up to 16 (profile: a letter of either case is a digit, and leading zeros are allowed).
use Rattle.std.specs.Prelude.{ℕ, ◌+◌, ◌*◌, List, length, ◌&&◌, nat_le, nat_lt, Option, None, Some, if◌then◌else◌}
use Rattle.std.specs.List.{list_all, fold}
use Rattle.std.specs.Char.{digit_value}

-- the number that digits of a radix write
abbrev pub value_of : ℕ → List ℕ → ℕ
value_of radix digits = fold (λ n d. radix * n + digit_value d) 0 digits

-- a number of 1 to so many digits of a radix
abbrev pub numeral : ℕ → ℕ → List ℕ → Option ℕ
numeral radix longest text =
    if nat_le 1 (length text) && (nat_le (length text) longest && list_all (λ d. nat_lt (digit_value d) radix) text)
    then Some (value_of radix text) else None
