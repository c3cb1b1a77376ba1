-- A project that was read with its wave, and is ready to run.
use Rattle.std.specs.Prelude.{◌≡◌, ℕ, length, Ok}
use Rattle.std.specs.List.{All}
use Rattle.trace_run.specs.Rows.{AreInOrder}
use Rattle.chip_module.specs.Sources.{pins_of}
use Rattle.board_outputs.specs.Variables.{board_variables}
use Rattle.vcd_text.specs.Tracks.{wave_rows}
use Rattle.cli_project.specs.Works.{IsSound, work_of}
use Rattle.cli_replay.specs.declared.replaying.Play.{Play}
use Rattle.cli_replay.specs.Answer as answers

abbrev pub play_of : Play → answers.Play
play_of p = record { work = work_of p.work; rows = p.rows }

-- for a run of n cycles
pub record IsReady (n : ℕ) (p : Play) : Type 0 where
  pub sound : IsSound (work_of p.work)
  pub head : p.head.variables ≡ board_variables (pins_of p.work.chips) p.work.plan
  pub pins : length p.rows ≡ length p.work.plan.wiring.net_of
  pub order : All AreInOrder p.rows
  pub said : wave_rows (board_variables (pins_of p.work.chips) p.work.plan) (length p.work.plan.wiring.net_of) n p.work.wave.items ≡ Ok p.rows
