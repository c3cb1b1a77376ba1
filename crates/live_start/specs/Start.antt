-- A live board of a project before its first cycle (profile).
use Rattle.std.specs.Prelude.{◌≡◌, ◌≤◌, length}
use Rattle.board_model.specs.Fits.{AreInputs}
use Rattle.board_build.specs.declared.plan.Plan.{Plan}
use Rattle.any_part.specs.Start.{Contents}
use Rattle.project_run.specs.Run.{IsLoaded}
use Rattle.live_start.specs.declared.ready.Ready.{Ready}

-- The board of a plan whose parts have these contents is loaded, and its levels can be looked at.
pub record IsReady (has : Contents) (plan : Plan) (ready : Ready) : Type 0 where
  pub loaded : IsLoaded has plan ready.loaded
  pub looks : ready.probe.wiring ≡ plan.wiring
  pub few : length plan.parts ≤ 64
  pub many : length ready.loaded.board.parts ≡ length plan.parts
  pub script : AreInputs (length plan.parts) plan.inputs
