-- The levels of a run's nets, as the rows of a variable have them.
use Rattle.std.specs.Prelude.{ℕ, ◌≡◌, ◌<◌, List, if◌then◌else◌, slice_get}
use Rattle.std.specs.Option.{option_map_or}
use Rattle.sim_base.specs.declared.signal.Level.{Level}
use Rattle.sim_base.specs.declared.signal.Level.TheVariants as levels
use Rattle.sim_base.specs.declared.wiring.Wiring.{Wiring}
use Rattle.sim_base.specs.declared.wiring.Input.{Input}
use Rattle.sim_base.specs.Signal.{is_upper}
use Rattle.part_law.specs.Machine.{Machine}
use Rattle.board_model.specs.Board.{levels_of, states}
use Rattle.wave_decode.specs.Levels.{LevelRow}
use Rattle.wave_decode.specs.Rising.{level_at}

-- a wiper alone on its net is shown as an input reads it
abbrev pub as_shown : Level → Level
as_shown levels.Low = levels.Low
as_shown levels.High = levels.High
as_shown levels.X = levels.X
as_shown levels.Z = levels.Z
as_shown (levels.Wiped w) = if is_upper w then levels.High else levels.Low

module _ {S : Type 0} (m : Machine S) (w : Wiring) (inputs : List Input) (ss : List S) where
  -- the level of a net in cycle t; Z where there is no such net
  abbrev pub net_level : ℕ → ℕ → Level
  net_level net t = option_map_or as_shown (slice_get (levels_of m w (states m w inputs ss 0 t)) net) levels.Z

  -- In each of the first n cycles these rows have the level of a net.
  abbrev pub HaveLevels : ℕ → ℕ → List LevelRow → Type 0
  HaveLevels n net rows = (t : ℕ) → t < n → level_at levels.Z rows t ≡ net_level net t
