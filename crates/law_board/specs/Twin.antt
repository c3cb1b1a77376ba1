-- A board and the same board with other custom chips (profile).
use Rattle.std.specs.Prelude.{ℕ, zero, suc, ◌+◌, List, [], ◌∷◌, if◌then◌else◌}
use Rattle.sim_base.specs.declared.wiring.Wiring.{Wiring}
use Rattle.law_board.specs.Worlds.{is_chip}

-- the states from part i on where each chip's is the next of these, as long as there are such
abbrev pub with_chips_from : {S : Type 0} → Wiring → ℕ → List S → List S → List S
with_chips_from w i [] chips = []
with_chips_from w i (s ∷ ss) [] = s ∷ ss
with_chips_from w i (s ∷ ss) (chip ∷ chips) = if is_chip w i then chip ∷ with_chips_from w (i + 1) ss chips else s ∷ with_chips_from w (i + 1) ss (chip ∷ chips)

abbrev pub with_chips : {S : Type 0} → Wiring → List S → List S → List S
with_chips w ss chips = with_chips_from w 0 ss chips

-- how many of the parts before part k are chips
abbrev pub chips_before : Wiring → ℕ → ℕ
chips_before w zero = 0
chips_before w (suc k) = chips_before w k + (if is_chip w k then 1 else 0)
