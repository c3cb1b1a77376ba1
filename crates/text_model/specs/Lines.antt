-- The lines of a text (profile: a line ends in LF or in CR LF).
use Rattle.std.specs.Prelude.{ℕ, Bool, false, List, [], ◌∷◌, ◌&&◌, ◌==◌, if◌then◌else◌}

abbrev pub starts_lf : List ℕ → Bool
starts_lf [] = false
starts_lf (b ∷ bs) = b == 10

abbrev pub before_first_line : ℕ → List (List ℕ) → List (List ℕ)
before_first_line b [] = (b ∷ []) ∷ []
before_first_line b (line ∷ rest) = (b ∷ line) ∷ rest

-- A line ends in LF or in CR LF, which are no part of it; the last may lack its ending. A CR alone
-- is a byte of its line.
unfoldable pub lines : List ℕ → List (List ℕ)
lines [] = []
lines (b ∷ bs) =
    if b == 10 then [] ∷ lines bs
    else if b == 13 && starts_lf bs then lines bs
    else before_first_line b (lines bs)
