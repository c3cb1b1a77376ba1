-- What is kept of a chip's pins, and which of them may be driven otherwise. No public clause cites it.
use Rattle.std.specs.Prelude.{◌≡◌, ◌<◌, ◌+◌, ℕ, nat_lt, Bool, true, false, if◌then◌else◌, Option, None, Some, List, length, slice_get}
use Rattle.sim_base.specs.declared.signal.Drive.{Drive}
use Rattle.part_law.specs.declared.span.Span.{Span}
use Rattle.part_law.specs.Spans.{IsIn, all_pins, no_pins}
use Rattle.slave_request.specs.declared.request.EngineRequest.{EngineRequest}
use Rattle.slave_request.specs.declared.request.EngineRequest.TheVariants as requests
use Rattle.chip_engines.specs.declared.engine.Engine.{Engine}
use Rattle.chip_host.specs.Inventory.{out_pin}
use Rattle.chip_host.specs.Chip.{Chip, chip_drive}

-- that it is what they drive
abbrev pub Shows : Chip → List Drive → Type 0
Shows s ds = (k : ℕ) → k < length ds → slice_get ds k ≡ Some (chip_drive s k)

-- that each pin that is not in a span drives in one state what it does in the other; a chip has 64 pins at most
abbrev pub DrivesBut : Span → Chip → Chip → Type 0
DrivesBut span s r = (i : ℕ) → i < 64 → ¬ IsIn span i → chip_drive s i ≡ chip_drive r i

-- the pin of an engine, where it has one
abbrev pub out_span : Option ℕ → Span
out_span None = no_pins
out_span (Some i) = if nat_lt i 64 then record { from = i; to = i + 1 } else no_pins

-- the pin of the engine at a place, where it drives something else behind its turn
abbrev pub moved_span : Bool → Option Engine → Span
moved_span false o = no_pins
moved_span true o = out_span (out_pin o)

-- behind a request that is served: a byte moves the engine's pin at most, and a callback may move any
abbrev pub request_span : EngineRequest → Option ℕ → Span
request_span requests.None out = no_pins
request_span (requests.Fetch n) out = out_span out
request_span (requests.Store n x) out = no_pins
request_span (requests.Received x) out = all_pins
request_span requests.Sent out = all_pins
request_span (requests.Done n) out = all_pins
request_span (requests.Connect address read) out = all_pins
request_span requests.Read out = all_pins
request_span (requests.Write x) out = all_pins
request_span requests.Disconnect out = all_pins
