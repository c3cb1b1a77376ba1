-- Attributes of a chip: what the diagram gives to each by its name (profile).
use Rattle.std.specs.Prelude.{ℕ, ◌-◌, ◌^◌, ◌==◌, nat_le, nat_lt, List, [], ◌∷◌, Option, None, Some, option_and_then, unwrap_or, if◌then◌else◌}
use Rattle.text_numerals.specs.Numerals.{numeral}
use Rattle.part_catalog.specs.Attributes.{attribute}

-- minus a number up to 2^31, mod 2^32
abbrev pub below_zero : Option ℕ → Option ℕ
below_zero None = None
below_zero (Some n) = if n == 0 then Some 0 else if nat_le n (2 ^ 31) then Some (2 ^ 32 - n) else None

-- a number below 2^32
abbrev pub up_from_zero : Option ℕ → Option ℕ
up_from_zero None = None
up_from_zero (Some n) = if nat_lt n (2 ^ 32) then Some n else None

-- A whole number: perhaps `-`, then 1 to 10 digits, from -2^31 to 2^32 - 1, mod 2^32.
abbrev pub whole_number : List ℕ → Option ℕ
whole_number [] = None
whole_number (first ∷ digits) = if first == 45 then below_zero (numeral 10 10 digits) else up_from_zero (numeral 10 10 (first ∷ digits))

-- the value of an attribute with a default
abbrev pub attr_value : List ℕ → ℕ → List (List ℕ × List ℕ) → ℕ
attr_value name default attrs = unwrap_or (option_and_then whole_number (attribute name attrs)) default
