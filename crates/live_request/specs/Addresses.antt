-- Word addresses of the flash (profile).
use Rattle.std.specs.Prelude.{ℕ, List, [], ◌∷◌, map, Result, Ok}
use Rattle.text_numerals.specs.Numerals.{value_of}
use Rattle.live_request.specs.Words.{◌>>=◌, next, number}

-- the numbers that words of digits write
abbrev pub values : List (List ℕ) → List ℕ
values words = map (value_of 10) words

-- words that are all word addresses: the flash has 16,384 words
unfoldable pub are_addresses : List (List ℕ) → Result (Unit {0}) ℕ
are_addresses [] = Ok tt
are_addresses (word ∷ rest) = number 16383 word >>= λ n. are_addresses rest

-- at least one word address
abbrev pub addresses : List (List ℕ) → Result (List ℕ) ℕ
addresses rest = next rest >>= λ x. are_addresses rest >>= λ all. Ok (values rest)
