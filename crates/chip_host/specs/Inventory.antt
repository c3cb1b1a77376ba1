-- What a chip has got from its host (profile).
use Rattle.std.specs.Prelude.{ℕ, ◌==◌, List, Bool, true, false, if◌then◌else◌, Option, None, Some, slice_get, unwrap_or}
use Rattle.sim_base.specs.declared.signal.Drive.{Drive}
use Rattle.sim_base.specs.declared.signal.Drive.TheVariants as drives
use Rattle.sim_base.specs.declared.signal.Level.{Level}
use Rattle.chip_abi.specs.declared.host_name.HostName.{HostName}
use Rattle.chip_host.specs.declared.pin.Mode.{Mode}
use Rattle.chip_host.specs.declared.pin.Mode.TheVariants as modes
use Rattle.chip_host.specs.declared.pin.Pin.{Pin}
use Rattle.chip_host.specs.declared.watch.Watch.{Watch}
use Rattle.chip_host.specs.declared.timer.Timer.{Timer}
use Rattle.chip_engines.specs.declared.engine.Engine.{Engine}
use Rattle.chip_engines.specs.Engine.{driven}
use Rattle.sim_base.specs.Display.{DisplaySize}
use Rattle.chip_output.specs.Output.{OutputState}

-- what calls change: each pin that pinInit gave, each pin's watch, the timers by their ids
pub record Inventory : Type 0 where
  pub pins : List (Option Pin)
  pub watches : List (Option Watch)
  pub timers : List Timer
  -- the values of the attributes, by their ids
  pub attributes : List ℕ
  -- 24 places for engines, 8 of each kind, in the order of their turns: UARTs, SPI slaves, I2C slaves, each kind by its ids
  pub engines : List (Option Engine)
  -- what the chip has printed and drawn
  pub output : OutputState

-- what stands for good: the imported functions in order, the names of the pins, the diagram's attributes, and the size of the display
pub record Given : Type 0 where
  pub table : List HostName
  pub names : List (Option (List ℕ))
  pub attrs : List (List ℕ × List ℕ)
  pub display : Option DisplaySize

-- what no call changes: what stands for good, whether the chip is being set up, the cycle, and the levels in it
pub record Moment : Type 0 where
  pub given : Given
  pub init : Bool
  pub now : ℕ
  pub levels : List Level

pub record HostState : Type 0 where
  pub moment : Moment
  pub inventory : Inventory

abbrev pub pin : Mode → Bool → Pin
pin mode high = record { mode = mode; high = high }

-- modes by their numbers: 16 and 17 set the kept value
abbrev pub with_mode : ℕ → Bool → Pin
with_mode mode high =
    if mode == 1 then pin modes.Output high
    else if mode == 2 then pin modes.PullHigh high
    else if mode == 3 then pin modes.PullLow high
    else if mode == 16 then pin modes.Output false
    else if mode == 17 then pin modes.Output true
    else pin modes.Input high

abbrev pub mode_drive : Mode → Bool → Drive
mode_drive modes.Input high = drives.Z
mode_drive modes.Output true = drives.High
mode_drive modes.Output false = drives.Low
mode_drive modes.PullHigh high = drives.PullHigh
mode_drive modes.PullLow high = drives.PullLow

abbrev pub drive_of : Option Pin → Drive
drive_of None = drives.Z
drive_of (Some p) = mode_drive p.mode p.high

abbrev pub joined : {X : Type 0} → Option (Option X) → Option X
joined None = None
joined (Some o) = o

abbrev pub pin_at : Inventory → ℕ → Option Pin
pin_at d i = joined (slice_get d.pins i)

abbrev pub watch_at : Inventory → ℕ → Option Watch
watch_at d i = joined (slice_get d.watches i)

abbrev pub engine_at : Inventory → ℕ → Option Engine
engine_at d k = joined (slice_get d.engines k)

-- the pin that an engine drives
abbrev pub out_pin : Option Engine → Option ℕ
out_pin None = None
out_pin (Some e) = e.pins.out

-- The first engine that drives a pin counts before the pin's mode.
abbrev pub pin_drives : Inventory → ℕ → Drive
pin_drives d i = unwrap_or (driven i d.engines) (drive_of (pin_at d i))

abbrev pub left : HostState → Inventory → HostState
left h d = record { moment = h.moment; inventory = d }
