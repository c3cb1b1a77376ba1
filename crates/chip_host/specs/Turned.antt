-- The turn of the engine at a place, as the host takes it. No public clause cites it.
use Rattle.std.specs.Prelude.{◌≡◌, ℕ, List, Option, None, Some}
use Rattle.sim_base.specs.declared.signal.Level.{Level}
use Rattle.chip_engines.specs.declared.engine.Engine.{Engine}
use Rattle.chip_engines.specs.declared.engine.Turn.{Turn}
use Rattle.chip_engines.specs.Engine.{engine_turned}
use Rattle.chip_engines.specs.Turned.{Tells}
use Rattle.chip_host.specs.Inventory.{HostState, left, engine_at}
use Rattle.chip_host.specs.HostCall.{set_engine}

-- what it leaves of the host, and what the engine tells
pub record HasGone (place : ℕ) (before : List Level) (h r : HostState) (e : Engine) (turn : Turn) : Type 0 where
  pub host : r ≡ left h (set_engine h.inventory place (engine_turned e h.moment.now before h.moment.levels).0)
  pub told : Tells h.moment.now before h.moment.levels e turn

abbrev pub HasTurned : ℕ → List Level → HostState → HostState → Option Turn → Type 0
HasTurned place before h r None = (r ≡ h) × (engine_at h.inventory place ≡ None)
HasTurned place before h r (Some turn) = (e : Engine) × (engine_at h.inventory place ≡ Some e) × HasGone place before h r e turn
