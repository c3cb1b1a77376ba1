-- The turn of the engine at a place of a chip.
use Rattle.std.specs.Prelude.{◌≡◌, ℕ, List, ◌++◌, false, Option, None, Some}
use Rattle.std.specs.Option.{option_to_list}
use Rattle.sim_base.specs.declared.signal.Level.{Level}
use Rattle.chip_engines.specs.declared.engine.Engine.{Engine}
use Rattle.chip_engines.specs.declared.engine.Turn.{Turn}
use Rattle.chip_engines.specs.Engine.{engine_turned}
use Rattle.chip_engines.specs.Serial.{serial_output}

-- what an engine asks for in its turn of cycle t, and that it drives what it drove where it tells so
pub record Tells (t : ℕ) (before now : List Level) (e : Engine) (turn : Turn) : Type 0 where
  pub asks : option_to_list turn.first ++ option_to_list turn.second ≡ (engine_turned e t before now).1
  pub drives : turn.moved ≡ false → serial_output (engine_turned e t before now).0.serial (engine_turned e t before now).0.early ≡ serial_output e.serial e.early

-- The engine at a place has had its turn, if one stands there.
abbrev pub HasTurnedAt : ℕ → List Level → List Level → Option Engine → Option Engine → Option Turn → Type 0
HasTurnedAt t before now o p None = (o ≡ None) × (p ≡ None)
HasTurnedAt t before now o p (Some turn) = (e : Engine) × (o ≡ Some e) × (p ≡ Some (engine_turned e t before now).0) × Tells t before now e turn
