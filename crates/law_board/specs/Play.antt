-- A board in which some parts, as the custom chips, are replaced by players of rows (profile).
use Rattle.std.specs.Prelude.{◌≡◌, ◌⊎◌, ℕ, ◌+◌, ◌<◌, List, [], ◌∷◌, map, length, Bool, true, get_or, if◌then◌else◌}
use Rattle.std.proofs.Common.{inl, inr}
use Rattle.sim_base.specs.declared.signal.Drive.TheVariants as drives
use Rattle.sim_base.specs.declared.wiring.Wiring.{Wiring}
use Rattle.sim_base.specs.declared.wiring.Input.{Input}
use Rattle.part_law.specs.Machine.{Machine}
use Rattle.part_law.specs.Either.{either}
use Rattle.board_model.specs.Walks.{below}
use Rattle.law_board.specs.Alone.{own_drives}
use Rattle.law_board.specs.Player.{DriveRows, drive_at, PlayerState, new_player, player}

-- a part that may be a player
abbrev pub or_player : {S : Type 0} → Machine S → Machine (S ⊎ PlayerState)
or_player m = either m player

abbrev pub played_from : {S : Type 0} → (ℕ → Bool) → (ℕ → List DriveRows) → ℕ → List S → List (S ⊎ PlayerState)
played_from these rows i [] = []
played_from these rows i (s ∷ ss) = (if these i then inr (new_player (rows i)) else inl s) ∷ played_from these rows (i + 1) ss

-- the start states where each of these parts k is replaced by a player of its rows
abbrev pub played : {S : Type 0} → (ℕ → Bool) → (ℕ → List DriveRows) → List S → List (S ⊎ PlayerState)
played these rows ss = played_from these rows 0 ss

module _ {S : Type 0} (m : Machine S) (w : Wiring) (inputs : List Input) (ss : List S) (n : ℕ) where
  -- the rows have the drives of each of these parts in each of the first n cycles of the board's run
  abbrev pub AreDrives : (ℕ → Bool) → (ℕ → List DriveRows) → Type 0
  AreDrives these rows = (k t : ℕ) → these k ≡ true → t < n → map (λ r. drive_at r t) (rows k) ≡ own_drives m w inputs ss 0 k t

  -- the rows of part k: one for each of the first n cycles of the board's run
  abbrev pub recorded : ℕ → List DriveRows
  recorded k = map (λ p. map (λ t. (t, get_or (own_drives m w inputs ss 0 k t) p drives.Z)) (below n)) (below (length (own_drives m w inputs ss 0 k 0)))
