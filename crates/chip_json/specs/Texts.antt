-- Texts that are lent, as lists of their bytes. No definition of the format cites this.
use Rattle.std.specs.Prelude.{ℕ, List, ◌++◌, map, Option, None, Some}
use Rattle.std.specs.Borrow.{Bor}

abbrev pub texts_in : List (Bor (List ℕ)) → List (List ℕ)
texts_in texts = map (λ (t : Bor (List ℕ)). t.now) texts

-- texts behind others
abbrev pub after : List (List ℕ) → Option (List (List ℕ)) → Option (List (List ℕ))
after before None = None
after before (Some texts) = Some (before ++ texts)
