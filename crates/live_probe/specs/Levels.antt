-- What a live board shows in a cycle, its own that is not run yet among them: all by the states of the board that is stepped (profile).
use Rattle.std.specs.Prelude.{ℕ, List}
use Rattle.sim_base.specs.declared.signal.Drive.{Drive}
use Rattle.sim_base.specs.declared.signal.Level.{Level}
use Rattle.text_model.specs.Wave.{Source, shown_value}
use Rattle.part_law.specs.declared.part.Part.{Ghosts}
use Rattle.board_model.specs.Board.{levels_of, drives_of}
use Rattle.board_live.specs.LiveView.{LiveView, states_by}

module _ {P : Type 0} (part : Ghosts P) (s : LiveView P) (t : ℕ) where
  -- the levels of the nets in cycle t
  abbrev pub levels_in : List Level
  levels_in = levels_of part.machine s.wiring (states_by part s t)

  -- what each pin drives in it
  abbrev pub drives_in : List Drive
  drives_in = drives_of part.machine (states_by part s t)

  -- and the value of a variable that shows this
  abbrev pub value_in : Source → ℕ
  value_in shows = shown_value levels_in drives_in shows
