-- Host calls: what each function of the host answers and leaves (profile, docs/CHIPS.md). A call tests its phase, then the id, the
-- limit, addresses and text.
use Rattle.std.specs.Prelude.{ℕ, ◌+◌, ◌*◌, ◌-◌, ◌^◌, ◌/◌, ◌==◌, nat_lt, max, List, [], ◌∷◌, ◌++◌, length, drop, slice_get, slice_set, take, option_map, option_and_then, unwrap_or, ◌||◌, Bool, false, not, if◌then◌else◌, Option, None, Some, Result, Ok, Err}
use Rattle.std.specs.List.{position_from}
use Rattle.std.specs.Str.{bytes_eq}
use Rattle.sim_base.specs.declared.signal.Level.{Level}
use Rattle.sim_base.specs.declared.signal.Level.TheVariants as levels
use Rattle.sim_base.specs.Signal.{reads}
use Rattle.wasm_num.specs.declared.trap.Trap.{Trap}
use Rattle.wasm_num.specs.declared.trap.Trap.TheVariants as traps
use Rattle.wasm_num.specs.declared.value.Value.{Value}
use Rattle.wasm_num.specs.declared.value.Value.TheVariants.{I32, I64}
use Rattle.wasm_num.specs.Mem.{Mem, has}
use Rattle.wasm_semantics.specs.Eval.{Answer}
use Rattle.chip_abi.specs.declared.output_name.OutputName.{OutputName}
use Rattle.chip_abi.specs.HostNames.{output_of}
use Rattle.chip_output.specs.Output.{OutputState}
use Rattle.chip_output.specs.Calls.{output_does}
use Rattle.chip_abi.specs.declared.host_name.HostName.{HostName}
use Rattle.chip_abi.specs.declared.host_name.HostName.TheVariants as names
use Rattle.chip_host.specs.declared.pin.Pin.{Pin}
use Rattle.chip_host.specs.declared.watch.Watch.{Watch}
use Rattle.chip_host.specs.declared.timer.Timer.{Timer}
use Rattle.chip_host.specs.declared.timer.Delay.{Delay}
use Rattle.chip_host.specs.declared.timer.Delay.TheVariants as delays
use Rattle.chip_abi.specs.Reading.{word_at, text_in}
use Rattle.chip_host.specs.Attributes.{attr_value}
use Rattle.chip_host.specs.Inventory.{Inventory, Moment, HostState, with_mode, pin_at, engine_at}
use Rattle.chip_engines.specs.declared.engine.Callbacks.{Callbacks}
use Rattle.chip_engines.specs.declared.engine.Engine.{Engine}
use Rattle.chip_engines.specs.Serial.{uart_of, spi_of, i2c_of}
use Rattle.chip_engines.specs.Engine.{new_engine, is_free, is_busy, sends, exchanges, stops}

-- what a call that leaves the memory answers, and what it leaves of what the chip has got
pub record Done : Type 0 where
  pub answer : Result (Option Value) Trap
  pub inventory : Inventory

abbrev pub gives : ℕ → Inventory → Done
gives n d = record { answer = Ok (Some (I32 n)); inventory = d }

abbrev pub nothing : Inventory → Done
nothing d = record { answer = Ok None; inventory = d }

abbrev pub fails : Trap → Inventory → Done
fails t d = record { answer = Err t; inventory = d }

-- ---- pins

abbrev pub has_name : List ℕ → Option (List ℕ) → Bool
has_name text None = false
has_name text (Some name) = bytes_eq text name

abbrev pub kept : Option Pin → Bool
kept None = false
kept (Some p) = p.high

abbrev pub set_pin : Inventory → ℕ → Pin → Inventory
set_pin d i p = record d { pins = slice_set d.pins i (Some p) }

abbrev pub init_at : Option ℕ → ℕ → Inventory → Done
init_at None mode d = gives (2 ^ 32 - 1) d
init_at (Some i) mode d = gives i (set_pin d i (with_mode mode (kept (pin_at d i))))

abbrev pub init_named : Result (List ℕ) Trap → List (Option (List ℕ)) → ℕ → Inventory → Done
init_named (Err t) names mode d = fails t d
init_named (Ok text) names mode d = init_at (position_from (has_name text) 0 names) mode d

-- name's address, mode; answers the pin's position, or -1 where it is not declared
abbrev pub pin_init : Moment → ℕ → ℕ → Mem → Inventory → Done
pin_init a addr mode m d = if a.init then init_named (text_in 64 (drop addr m.bytes)) a.given.names mode d else fails traps.HostPhase d

abbrev pub one_if : Bool → ℕ
one_if b = if b then 1 else 0

abbrev pub level_of : List Level → ℕ → Level
level_of ls i = unwrap_or (slice_get ls i) levels.Z

abbrev pub read_pin : Option Pin → Level → Inventory → Done
read_pin None l d = gives 0 d
read_pin (Some p) l d = gives (one_if (reads l)) d

abbrev pub write_pin : Option Pin → ℕ → Bool → Inventory → Done
write_pin None i high d = nothing d
write_pin (Some p) i high d = nothing (set_pin d i (record p { high = high }))

abbrev pub watch_from : Result ℕ Trap → Result ℕ Trap → Result ℕ Trap → Result Watch Trap
watch_from (Ok user) (Ok edge) (Ok callback) = Ok (record { user = user; edge = edge; callback = callback })
watch_from (Err t) edge callback = Err t
watch_from (Ok user) (Err t) callback = Err t
watch_from (Ok user) (Ok edge) (Err t) = Err t

abbrev pub put_watch : Result Watch Trap → ℕ → Inventory → Done
put_watch (Err t) i d = fails t d
put_watch (Ok w) i d = gives 1 (record d { watches = slice_set d.watches i (Some w) })

abbrev pub watch_pin : Option Pin → ℕ → ℕ → Mem → Inventory → Done
watch_pin None i addr m d = gives 0 d
watch_pin (Some p) i addr m d = put_watch (watch_from (word_at m (addr + 0)) (word_at m (addr + 4)) (word_at m (addr + 8))) i d

-- ---- timers

abbrev pub timer_from : Result ℕ Trap → Result ℕ Trap → Result Timer Trap
timer_from (Ok user) (Ok callback) = Ok (record { user = user; callback = callback; due = None; again = None })
timer_from (Err t) callback = Err t
timer_from (Ok user) (Err t) = Err t

abbrev pub add_timer : Result Timer Trap → Inventory → Done
add_timer (Err t) d = fails t d
add_timer (Ok x) d = gives (length d.timers) (record d { timers = d.timers ++ x ∷ [] })

abbrev pub timer_init : Moment → ℕ → Mem → Inventory → Done
timer_init a addr m d =
    if not a.init then fails traps.HostPhase d
    else if nat_lt (length d.timers) 32 then add_timer (timer_from (word_at m (addr + 0)) (word_at m (addr + 4))) d
    else fails traps.HostLimit d

-- a delay in cycles
abbrev pub cycles_of : Delay → ℕ
cycles_of (delays.Micros x) = max 1 (16 * x)
cycles_of (delays.Nanos x) = max 1 ((2 * x + 124) / 125)

abbrev pub started : ℕ → Delay → Bool → Timer → Timer
started now delay again x = record x { due = Some (now + cycles_of delay); again = if again then Some delay else None }

abbrev pub start_timer : Option Timer → ℕ → ℕ → Delay → Bool → Inventory → Done
start_timer None id now delay again d = nothing d
start_timer (Some x) id now delay again d = nothing (record d { timers = slice_set d.timers id (started now delay again x) })

abbrev pub stop_timer : Option Timer → ℕ → Inventory → Done
stop_timer None id d = nothing d
stop_timer (Some x) id d = nothing (record d { timers = slice_set d.timers id (record x { due = None }) })

abbrev pub mode_pin : Option Pin → ℕ → ℕ → Inventory → Done
mode_pin None i mode d = nothing d
mode_pin (Some p) i mode d = nothing (set_pin d i (with_mode mode p.high))

abbrev pub unwatch : Option (Option Watch) → ℕ → Inventory → Done
unwatch None i d = nothing d
unwatch (Some w) i d = nothing (record d { watches = slice_set d.watches i None })

-- ---- attributes

abbrev pub attribute_from : Result (List ℕ) Trap → ℕ → List (List ℕ × List ℕ) → Result ℕ Trap
attribute_from (Err t) default attrs = Err t
attribute_from (Ok name) default attrs = Ok (attr_value name default attrs)

abbrev pub add_attribute : Result ℕ Trap → Inventory → Done
add_attribute (Err t) d = fails t d
add_attribute (Ok n) d = gives (length d.attributes) (record d { attributes = d.attributes ++ n ∷ [] })

-- name's address, default; answers the id
abbrev pub attr_init : Moment → ℕ → ℕ → Mem → Inventory → Done
attr_init a addr default m d =
    if not a.init then fails traps.HostPhase d
    else if nat_lt (length d.attributes) 64 then add_attribute (attribute_from (text_in 64 (drop addr m.bytes)) default a.given.attrs) d
    else fails traps.HostLimit d

abbrev pub read_attribute : ℕ → Inventory → Done
read_attribute id d = gives (unwrap_or (slice_get d.attributes id) 0) d

-- ---- engines: those of a kind stand from a place on

abbrev pub uarts : ℕ
uarts = 0

abbrev pub spis : ℕ
spis = 8

abbrev pub i2cs : ℕ
i2cs = 16

abbrev pub set_engine : Inventory → ℕ → Engine → Inventory
set_engine d k e = record d { engines = slice_set d.engines k (Some e) }

-- the engine of a kind with an id
abbrev pub engine_of : ℕ → ℕ → Inventory → Option Engine
engine_of base id d = if nat_lt id 8 then engine_at d (base + id) else None

-- A configured pin that was not given counts as -1.
abbrev pub given_pin : Inventory → ℕ → Option ℕ
given_pin d i = option_map (λ (p : Pin). i) (pin_at d i)

abbrev pub no_calls : Callbacks
no_calls = record { received = 0; sent = 0; done = 0; connect = 0; read = 0; write = 0; disconnect = 0 }

-- A configuration is words, one after the other, and is read up to the first that is outside of the memory.
abbrev pub both : {X Y : Type 0} → Result X Trap → Result Y Trap → Result (X × Y) Trap
both (Ok x) (Ok y) = Ok (x, y)
both (Ok x) (Err t) = Err t
both (Err t) r = Err t

abbrev pub two_words : Mem → ℕ → ℕ → Result (ℕ × ℕ) Trap
two_words m addr from = both (word_at m (addr + from)) (word_at m (addr + (from + 4)))

abbrev pub four_words : Mem → ℕ → ℕ → Result ((ℕ × ℕ) × (ℕ × ℕ)) Trap
four_words m addr from = both (two_words m addr from) (two_words m addr (from + 8))

abbrev pub with_two : {X : Type 0} → Result (ℕ × ℕ) Trap → (ℕ → ℕ → Result X Trap) → Result X Trap
with_two (Ok w) f = f w.0 w.1
with_two (Err t) f = Err t

abbrev pub with_four : {X : Type 0} → Result ((ℕ × ℕ) × (ℕ × ℕ)) Trap → (ℕ → ℕ → ℕ → ℕ → Result X Trap) → Result X Trap
with_four (Ok w) f = f w.0.0 w.0.1 w.1.0 w.1.1
with_four (Err t) f = Err t

abbrev pub uart_from : Mem → ℕ → Inventory → Result Engine Trap
uart_from m addr d =
    with_four (four_words m addr 0) (λ (user rx tx baud : ℕ). with_two (two_words m addr 16) (λ (received sent : ℕ).
    Ok (new_engine (uart_of baud) (record { first = given_pin d rx; second = None; out = given_pin d tx }) user (record no_calls { received = received; sent = sent }))))

abbrev pub spi_from : Mem → ℕ → Inventory → Result Engine Trap
spi_from m addr d =
    with_four (four_words m addr 0) (λ (user sck mosi miso : ℕ). with_two (two_words m addr 16) (λ (mode done : ℕ).
    Ok (new_engine (spi_of mode) (record { first = given_pin d sck; second = given_pin d mosi; out = given_pin d miso }) user (record no_calls { done = done }))))

abbrev pub i2c_from : Mem → ℕ → Inventory → Result Engine Trap
i2c_from m addr d =
    with_four (four_words m addr 0) (λ (user address scl sda : ℕ). with_four (four_words m addr 16) (λ (connect read write disconnect : ℕ).
    Ok (new_engine (i2c_of address) (record { first = given_pin d scl; second = given_pin d sda; out = given_pin d sda }) user
    (record no_calls { connect = connect; read = read; write = write; disconnect = disconnect }))))

abbrev pub init_engine : Option ℕ → ℕ → Result Engine Trap → Inventory → Done
init_engine None base read d = fails traps.HostLimit d
init_engine (Some id) base (Err t) d = fails t d
init_engine (Some id) base (Ok e) d = gives id (set_engine d (base + id) e)

-- the first id of a kind that was not given
abbrev pub free_id : ℕ → Inventory → Option ℕ
free_id base d = position_from is_free 0 (take 8 (drop base d.engines))

-- configuration; answers the id
abbrev pub engine_init : Moment → ℕ → Result Engine Trap → Inventory → Done
engine_init a base read d = if a.init then init_engine (free_id base d) base read d else fails traps.HostPhase d

-- id, buffer, count; 1, or 0 while sending
abbrev pub write_uart : Option Engine → ℕ → ℕ → ℕ → Moment → Mem → Inventory → Done
write_uart None id buffer count a m d = gives 0 d
write_uart (Some e) id buffer count a m d =
    if not (has m buffer count) then fails traps.HostAddress d
    else if is_busy e then gives 0 d
    else gives 1 (set_engine d (uarts + id) (sends e a.now a.init buffer count))

-- id, buffer, count
abbrev pub start_spi : Option Engine → ℕ → ℕ → ℕ → Moment → Mem → Inventory → Done
start_spi None id buffer count a m d = nothing d
start_spi (Some e) id buffer count a m d =
    if not (has m buffer count) then fails traps.HostAddress d
    else if count == 0 || is_busy e then nothing d
    else nothing (set_engine d (spis + id) (exchanges e a.now buffer count))

abbrev pub stop_spi : Option Engine → ℕ → Moment → Inventory → Done
stop_spi None id a d = nothing d
stop_spi (Some e) id a d = nothing (set_engine d (spis + id) (stops e a.now))

-- ---- each function

abbrev pub host_does : HostName → List Value → Moment → Mem → Inventory → Done
host_does names.PinInit (I32 name ∷ I32 mode ∷ []) a m d = pin_init a name mode m d
host_does names.PinRead (I32 i ∷ []) a m d = read_pin (pin_at d i) (level_of a.levels i) d
host_does names.PinWrite (I32 i ∷ I32 value ∷ []) a m d = write_pin (pin_at d i) i (not (value == 0)) d
host_does names.PinWatch (I32 i ∷ I32 addr ∷ []) a m d = watch_pin (pin_at d i) i addr m d
host_does names.AttrInit (I32 name ∷ I32 default ∷ []) a m d = attr_init a name default m d
host_does names.AttrRead (I32 id ∷ []) a m d = read_attribute id d
host_does names.TimerInit (I32 addr ∷ []) a m d = timer_init a addr m d
host_does names.TimerStart (I32 id ∷ I32 x ∷ I32 again ∷ []) a m d = start_timer (slice_get d.timers id) id a.now (delays.Micros x) (not (again == 0)) d
host_does names.GetSimNanos [] a m d = record { answer = Ok (Some (I64 (125 * a.now / 2))); inventory = d }
host_does names.PinMode (I32 i ∷ I32 mode ∷ []) a m d = mode_pin (pin_at d i) i mode d
host_does names.PinWatchStop (I32 i ∷ []) a m d = unwatch (slice_get d.watches i) i d
host_does names.TimerStartNanos (I32 id ∷ I64 x ∷ I32 again ∷ []) a m d = start_timer (slice_get d.timers id) id a.now (delays.Nanos x) (not (again == 0)) d
host_does names.TimerStop (I32 id ∷ []) a m d = stop_timer (slice_get d.timers id) id d
host_does names.UartInit (I32 addr ∷ []) a m d = engine_init a uarts (uart_from m addr d) d
host_does names.UartWrite (I32 id ∷ I32 buffer ∷ I32 count ∷ []) a m d = write_uart (engine_of uarts id d) id buffer count a m d
host_does names.SpiInit (I32 addr ∷ []) a m d = engine_init a spis (spi_from m addr d) d
host_does names.SpiStart (I32 id ∷ I32 buffer ∷ I32 count ∷ []) a m d = start_spi (engine_of spis id d) id buffer count a m d
host_does names.SpiStop (I32 id ∷ []) a m d = stop_spi (engine_of spis id d) id a d
host_does names.I2cInit (I32 addr ∷ []) a m d = engine_init a i2cs (i2c_from m addr d) d
host_does name args a m d = fails traps.Unreachable d

abbrev pub host_at : Option HostName → List Value → Moment → Mem → Inventory → Done
host_at None args a m d = fails traps.Unreachable d
host_at (Some name) args a m d = host_does name args a m d

-- ---- what a call answers, and what it leaves of the host and of the memory

abbrev pub leaves_memory : Mem → Done → Answer Inventory
leaves_memory m done = record { answer = done.answer; host = done.inventory; memory = m }

abbrev pub leaves_output : Inventory → Answer OutputState → Answer Inventory
leaves_output d a = record { answer = a.answer; host = record d { output = a.host }; memory = a.memory }

-- a call on the output, or any other, which leaves the memory as it is
abbrev pub call_does : Option OutputName → Option HostName → List Value → Moment → Mem → Inventory → Answer Inventory
call_does (Some output) name args a m d = leaves_output d (output_does output args a.init m d.output)
call_does None name args a m d = leaves_memory m (host_at name args a m d)

abbrev pub in_host : HostState → Answer Inventory → Answer HostState
in_host h a = record { answer = a.answer; host = record { moment = h.moment; inventory = a.host }; memory = a.memory }

abbrev pub answers : HostState → ℕ → List Value → Mem → Answer HostState
answers h import args m =
    let name = slice_get h.moment.given.table import in in_host h (call_does (option_and_then output_of name) name args h.moment m h.inventory)
