-- What is said of all parts but the custom chips (profile).
use Rattle.std.specs.Prelude.{ℕ, ◌+◌, List, [], ◌∷◌, ◌++◌, if◌then◌else◌}
use Rattle.sim_base.specs.declared.wiring.Wiring.{Wiring}
use Rattle.law_board.specs.Worlds.{is_chip}

-- what `says` tells of each part and its state, from part i on
abbrev pub rest_from : {S B : Type 0} → Wiring → (ℕ → S → List B) → ℕ → List S → List B
rest_from w says i [] = []
rest_from w says i (s ∷ ss) = (if is_chip w i then [] else says i s) ++ rest_from w says (i + 1) ss
