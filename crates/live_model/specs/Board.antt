-- A board with the values that were given so far, stepped cycle by cycle from cycle 0 (profile).
use Rattle.std.specs.Prelude.{ℕ, List, Bool, Option, None, find}
use Rattle.std.specs.Option.{option_map}
use Rattle.std.specs.Str.{bytes_eq}
use Rattle.sim_base.specs.declared.signal.Drive.{Drive}
use Rattle.sim_base.specs.declared.signal.Level.{Level}
use Rattle.sim_base.specs.declared.wiring.Wiring.{Wiring}
use Rattle.sim_base.specs.declared.wiring.Input.{Input}
use Rattle.sim_base.specs.Rows.{Row}
use Rattle.text_model.specs.Wave.{Variable, Source, shown_value, begun_text, wave_text}
use Rattle.part_law.specs.Machine.{Machine}
use Rattle.board_model.specs.Board.{states, bytes, levels_of, drives_of}
use Rattle.board_model.specs.Rows.{rows}
use Rattle.law_board.specs.Active.{active_pairs}
use Rattle.board_build.specs.declared.plan.PlanPart.{PlanPart}

-- what does not change while a live board goes on
pub record Setup (S : Type 0) : Type 0 where
  -- how its parts step, their states at cycle 0, and what joins them
  pub machine : Machine S
  pub starts : List S
  pub wiring : Wiring
  -- the parts as they are planned
  pub parts : List PlanPart
  -- the variables of its wave, and whether a wave is written
  pub variables : List Variable
  pub wave : Bool
  -- the report after so many cycles, by the states of its parts then
  pub report : ℕ → List S → List ℕ

module _ {S : Type 0} (b : Setup S) (inputs : List Input) where
  -- the states of its parts after t cycles
  abbrev pub states_at : ℕ → List S
  states_at t = states b.machine b.wiring inputs b.starts 0 t

  -- the bytes that were sent in the cycles below t
  abbrev pub sent_to : ℕ → List ℕ
  sent_to t = bytes b.machine b.wiring inputs b.starts 0 t

  -- the rows of the cycles below t
  abbrev pub rows_to : ℕ → List Row
  rows_to t = rows b.machine b.wiring inputs None b.starts 0 t

  -- the levels and drives of cycle t, which is not run yet, and what a variable has in it
  abbrev pub levels_at : ℕ → List Level
  levels_at t = levels_of b.machine b.wiring (states_at t)

  abbrev pub drives_at : ℕ → List Drive
  drives_at t = drives_of b.machine (states_at t)

  abbrev pub value_at : ℕ → Source → ℕ
  value_at t shows = shown_value (levels_at t) (drives_at t) shows

  abbrev pub report_at : ℕ → List ℕ
  report_at t = b.report t (states_at t)

  -- the wave of the cycles below t, without its last line and with it
  abbrev pub wave_to : ℕ → List ℕ
  wave_to t = begun_text b.variables (rows_to t)

  abbrev pub whole_wave : ℕ → List ℕ
  whole_wave t = wave_text b.variables (rows_to t) t

  -- how many pairs of a cycle below t and a part there are in which the part is active
  abbrev pub wakes_to : ℕ → ℕ
  wakes_to t = active_pairs b.machine b.wiring inputs b.starts 0 t

-- what the first variable of this name shows
abbrev pub source_named : List Variable → List ℕ → Option Source
source_named variables name = option_map (λ (v : Variable). v.shows) (find (λ (v : Variable). bytes_eq v.name name) variables)
