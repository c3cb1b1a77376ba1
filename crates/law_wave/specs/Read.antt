-- Players of what was read of a wave.
use Rattle.std.specs.Prelude.{◌≡◌, ◌⊎◌, ℕ, suc, ◌+◌, ◌<◌, List, length, map, take, drop, true, Some, slice_get, slice_index}
use Rattle.std.specs.List.{range_with_len}
use Rattle.sim_base.specs.declared.signal.Drive.{Drive}
use Rattle.sim_base.specs.declared.signal.Drive.TheVariants as drives
use Rattle.sim_base.specs.declared.wiring.Wiring.{Wiring}
use Rattle.sim_base.specs.declared.wiring.Input.{Input}
use Rattle.sim_base.specs.Rows.{Row}
use Rattle.text_model.specs.Wave.{Variable}
use Rattle.part_law.specs.Machine.{Machine}
use Rattle.board_model.specs.Board.{states}
use Rattle.law_board.specs.Player.{DriveRows}
use Rattle.law_board.specs.Worlds.{is_chip}
use Rattle.vcd_text.specs.Tracks.{rows_to}
use Rattle.law_wave.specs.Written.{IsPlain, IsTold, written_drive}

-- what the wave of rows says of each of so many pins, up to cycle n
abbrev pub written_rows : List Variable → List Row → ℕ → ℕ → List DriveRows
written_rows variables rows pins n = map (λ pin. rows_to (written_drive variables rows pin) (suc n)) (range_with_len 0 pins)

-- of the rows of all pins, those of part k, which has so many pins
abbrev pub rows_of_part : Wiring → (ℕ → ℕ) → List DriveRows → ℕ → List DriveRows
rows_of_part w counts rows k = take (counts k) (drop (slice_index w.first_pin k) rows)

module _ {S : Type 0} (m : Machine S) (w : Wiring) (inputs : List Input) (ss : List S) (n : ℕ) (variables : List Variable) (counts : ℕ → ℕ) where
  -- In each of the first n cycles each chip has its pins, and each of them drives nothing, or is told whole and drives no wiper.
  pub record AreTold : Type 0 where
    pub many : (k t : ℕ) (s : S) → is_chip w k ≡ true → slice_get (states m w inputs ss 0 t) k ≡ Some s → length (m.drives s) ≡ counts k
    pub each : (k t j : ℕ) (s : S) (d : Drive) → is_chip w k ≡ true → t < n → slice_get (states m w inputs ss 0 t) k ≡ Some s → slice_get (m.drives s) j ≡ Some d →
        (d ≡ drives.Z) ⊎ (IsTold variables (slice_index w.first_pin k + j) × IsPlain d)
