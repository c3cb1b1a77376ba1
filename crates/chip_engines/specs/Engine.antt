-- An engine behind its pins, and the engines of a chip (profile).
use Rattle.std.specs.Prelude.{◌≢◌, ℕ, ◌+◌, ◌==◌, ◌&&◌, ◌||◌, not, List, [], ◌∷◌, Bool, true, false, if◌then◌else◌, Option, None, Some, IfSome, slice_get, unwrap_or}
use Rattle.std.specs.Option.{option_to_list}
use Rattle.sim_base.specs.Signal.{reads}
use Rattle.sim_base.specs.declared.signal.Drive.{Drive}
use Rattle.sim_base.specs.declared.signal.Level.{Level}
use Rattle.sim_base.specs.declared.signal.Level.TheVariants as levels
use Rattle.slave_request.specs.declared.request.EngineRequest.{EngineRequest}
use Rattle.slave_serial.specs.Uart.{waits_sent, begins}
use Rattle.slave_serial.specs.Spi.{opened, stopped}
use Rattle.chip_engines.specs.declared.serial.Serial.{Serial}
use Rattle.chip_engines.specs.declared.serial.Serial.TheVariants as serials
use Rattle.chip_engines.specs.declared.serial.Inputs.{Inputs}
use Rattle.chip_engines.specs.declared.engine.Pins.{Pins}
use Rattle.chip_engines.specs.declared.engine.Callbacks.{Callbacks}
use Rattle.chip_engines.specs.declared.engine.Engine.{Engine}
use Rattle.chip_engines.specs.Serial.{serial, serial_output, serial_busy, with_byte, with_answer, IsSerial}

-- an idle one
abbrev pub new_engine : Serial → Pins → ℕ → Callbacks → Engine
new_engine s pins user calls = record { serial = s; pins = pins; early = false; later = None; user = user; calls = calls; buffer = 0 }

-- A pin of -1 reads 1.
abbrev pub pin_reads : Option ℕ → List Level → Bool
pin_reads None ls = true
pin_reads (Some i) ls = reads (unwrap_or (slice_get ls i) levels.Z)

abbrev pub inputs_of : Pins → List Level → Inputs
inputs_of p ls = record { first = pin_reads p.first ls; second = pin_reads p.second ls }

-- Before cycle 0 all pins read 0, those of -1 too.
abbrev pub inputs_before : Pins → ℕ → List Level → Inputs
inputs_before p t ls = if t == 0 then record { first = false; second = false } else inputs_of p ls

-- Its turn of cycle t, on the levels of the chip's pins in the cycle before and in this one.
abbrev pub engine_turned : Engine → ℕ → List Level → List Level → Engine × List EngineRequest
engine_turned e t before now =
    let after = serial.step e.serial t (inputs_before e.pins t before) (inputs_of e.pins now) in
    (record e { serial = after.0; early = e.early && not (t == 0) }, after.1)

abbrev pub engine_due : ℕ → Option Engine → Bool
engine_due t None = false
engine_due t (Some e) = serial.due e.serial t

-- what it drives a pin to
abbrev pub out_drives : ℕ → Option ℕ → Option Drive → Option Drive
out_drives pin None d = None
out_drives pin (Some out) d = if out == pin then d else None

abbrev pub drives_at : ℕ → Engine → Option Drive
drives_at pin e = out_drives pin e.pins.out (serial_output e.serial e.early)

-- whether `Sent` is asked for behind the request that is served
abbrev pub waits_sent_in : Option EngineRequest → Bool
waits_sent_in later = waits_sent (option_to_list later)

abbrev pub is_busy : Engine → Bool
is_busy e = serial_busy e.serial (waits_sent_in e.later)

-- A UART sends so many bytes from an address on, from the cycle behind t on.
abbrev pub sends_by : Serial → Engine → ℕ → Bool → ℕ → ℕ → Engine
sends_by (serials.Uart u) e t early buffer count = record e { serial = serials.Uart (begins u t count); early = early; buffer = buffer }
sends_by (serials.Spi s) e t early buffer count = e
sends_by (serials.I2c s) e t early buffer count = e

abbrev pub sends : Engine → ℕ → Bool → ℕ → ℕ → Engine
sends e = sends_by e.serial e

-- An SPI slave exchanges so many bytes at an address.
abbrev pub exchanges_by : Serial → Engine → ℕ → ℕ → ℕ → Engine
exchanges_by (serials.Spi s) e t buffer count = record e { serial = serials.Spi (opened s count t); buffer = buffer }
exchanges_by (serials.Uart u) e t buffer count = e
exchanges_by (serials.I2c s) e t buffer count = e

abbrev pub exchanges : Engine → ℕ → ℕ → ℕ → Engine
exchanges e = exchanges_by e.serial e

-- It is stopped in cycle t, and tells so in the next one.
abbrev pub stops_by : Serial → Engine → ℕ → Engine
stops_by (serials.Spi s) e t = record e { serial = serials.Spi (record s { transaction = stopped s.transaction (t + 1) }) }
stops_by (serials.Uart u) e t = e
stops_by (serials.I2c s) e t = e

abbrev pub stops : Engine → ℕ → Engine
stops e = stops_by e.serial e

abbrev pub gets_byte : Engine → ℕ → Engine
gets_byte e x = record e { serial = with_byte e.serial x }

abbrev pub gets_answer : Engine → ℕ → Engine
gets_answer e x = record e { serial = with_answer e.serial x }

-- that it is one that comes up
abbrev pub IsEngine : Engine → Type 0
IsEngine e = IsSerial e.serial

-- ---- the engines of a chip: a list of places, with an engine or none at each

abbrev pub any_engine_due : ℕ → List (Option Engine) → Bool
any_engine_due t [] = false
any_engine_due t (o ∷ os) = engine_due t o || any_engine_due t os

abbrev pub place_drives : ℕ → Option Engine → Option Drive
place_drives pin None = None
place_drives pin (Some e) = drives_at pin e

abbrev pub or_next : Option Drive → Option Drive → Option Drive
or_next None d = d
or_next (Some d) next = Some d

-- what the first engine that drives a pin drives it to
abbrev pub driven : ℕ → List (Option Engine) → Option Drive
driven pin [] = None
driven pin (o ∷ os) = or_next (place_drives pin o) (driven pin os)

abbrev pub is_free : Option Engine → Bool
is_free None = true
is_free (Some e) = false

-- that all of them are ones that come up
abbrev pub AreEngines : List (Option Engine) → Type 0
AreEngines [] = Unit {0}
AreEngines (o ∷ os) = IfSome o IsEngine × AreEngines os

-- that nothing stands at a place
abbrev pub HasNone : {X : Type 0} → List (Option X) → ℕ → Type 0
HasNone {X = X} os k = (x : X) → slice_get os k ≢ Some (Some x)
