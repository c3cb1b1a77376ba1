-- The words of a request, read from left to right (profile).
use Rattle.std.specs.Prelude.{ℕ, ◌-◌, ◌==◌, List, [], ◌∷◌, length, drop, take, Bool, true, false, nat_le, Option, None, Some, Result, Ok, Err, if◌then◌else◌}
use Rattle.std.specs.Str.{bytes_eq}
use Rattle.text_model.specs.Lines.{before_first_line}
use Rattle.text_numerals.specs.Numerals.{numeral}
use Rattle.sim_refusals.specs.Refusals.{RequestWords, RequestNumber}

-- the words of a line, which have one space between two
unfoldable pub words : List ℕ → List (List ℕ)
words [] = [] ∷ []
words (b ∷ bs) = if b == 32 then [] ∷ words bs else before_first_line b (words bs)

-- What is read from words: something and the words after it, or the number of the first rule that is broken.
abbrev pub Reading : Type 0 → Type 0
Reading X = Result (X × List (List ℕ)) ℕ

infixl 10 ◌>>=◌
-- one reading and, where no rule is broken, the next
abbrev pub ◌>>=◌ : {X Y : Type 0} → Result X ℕ → (X → Result Y ℕ) → Result Y ℕ
Ok x >>= next = next x
Err number >>= next = Err number

-- the next word
abbrev pub next : List (List ℕ) → Reading (List ℕ)
next [] = Err RequestWords
next (word ∷ rest) = Ok (word, rest)

abbrev pub is_empty : List (List ℕ) → Bool
is_empty [] = true
is_empty (word ∷ rest) = false

-- something, where no word is left
abbrev pub ended : {X : Type 0} → X → List (List ℕ) → Result X ℕ
ended x rest = if is_empty rest then Ok x else Err RequestWords

-- a number that was read, where it is at most the greatest
abbrev pub at_most : ℕ → Option ℕ → Result ℕ ℕ
at_most greatest None = Err RequestNumber
at_most greatest (Some n) = if nat_le n greatest then Ok n else Err RequestNumber

-- a number of 1 to 14 digits that is at most the greatest
abbrev pub number : ℕ → List ℕ → Result ℕ ℕ
number greatest word = at_most greatest (numeral 10 14 word)

abbrev pub next_number : ℕ → List (List ℕ) → Reading ℕ
next_number greatest rest = next rest >>= λ x. number greatest x.0 >>= λ n. Ok (n, x.1)

abbrev pub ends_in : List ℕ → List ℕ → Bool
ends_in end word = bytes_eq (drop (length word - length end) word) end

abbrev pub before : List ℕ → List ℕ → List ℕ
before end word = take (length word - length end) word
