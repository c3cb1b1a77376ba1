-- A chip as a machine: in a cycle each due timer calls back by its id, then each watch whose edge came, by its pin, and then each
-- engine has its turn, by kind and id (profile).
use Rattle.std.specs.Prelude.{◌≡◌, ℕ, zero, suc, ◌+◌, ◌%◌, ◌^◌, ◌==◌, ◌&&◌, ◌||◌, nat_lt, List, [], ◌∷◌, length, map, replicate, slice_get, slice_set, unwrap_or, Bool, true, false, if◌then◌else◌, Option, None, Some, option_map}
use Rattle.std.specs.List.{range_with_len}
use Rattle.sim_base.specs.declared.signal.Drive.{Drive}
use Rattle.sim_base.specs.declared.signal.Drive.TheVariants as drives
use Rattle.sim_base.specs.declared.signal.Level.{Level}
use Rattle.sim_base.specs.declared.signal.Level.TheVariants as levels
use Rattle.sim_base.specs.Signal.{reads}
use Rattle.part_law.specs.Machine.{Machine}
use Rattle.part_law.specs.declared.span.Span.{Span}
use Rattle.wasm_num.specs.declared.value.Value.{Value}
use Rattle.wasm_num.specs.declared.value.Value.TheVariants.{I32}
use Rattle.wasm_decode.specs.declared.module.Module.{Module}
use Rattle.wasm_num.specs.Mem.{Mem}
use Rattle.wasm_semantics.specs.Eval.{State, End, Gives, Fails, Wrong, call}
use Rattle.wasm_exec.specs.Programs.{memory_at_first, first_globals}
use Rattle.wasm_exec.specs.Instances.{Running, state_of}
use Rattle.wasm_exec.specs.Slots.{slot_call}
use Rattle.wasm_program.specs.ProgramOf.{program_of}
use Rattle.slave_request.specs.declared.request.EngineRequest.{EngineRequest}
use Rattle.slave_request.specs.declared.request.EngineRequest.TheVariants as requests
use Rattle.chip_engines.specs.declared.engine.Engine.{Engine}
use Rattle.chip_output.specs.Output.{new_output}
use Rattle.chip_engines.specs.Engine.{engine_turned, any_engine_due, gets_byte, gets_answer}
use Rattle.chip_host.specs.declared.watch.Watch.{Watch}
use Rattle.chip_host.specs.declared.timer.Timer.{Timer}
use Rattle.chip_host.specs.declared.timer.Delay.{Delay}
use Rattle.chip_host.specs.declared.death.Death.{Death}
use Rattle.chip_host.specs.Inventory.{Inventory, Given, HostState, pin_drives, watch_at, engine_at}
use Rattle.chip_host.specs.HostCall.{answers, cycles_of, level_of, one_if, set_engine}

pub record Chip : Type 0 where
  pub running : Running
  pub given : Given
  -- the fuel of each call
  pub budget : ℕ
  -- the levels of the last step
  pub held : List Level
  pub inventory : Inventory
  -- the trap that ended it, and its cycle
  pub dead : Option Death

-- a chip that takes the turns of `cycle`
pub record ChipAt : Type 0 where
  pub chip : Chip
  pub cycle : ℕ
  pub wakes : ℕ
  -- the levels of the step before the last one
  pub before : List Level

-- a chip on a board: before the step of `cycle`
pub record OnBoard : Type 0 where
  pub chip : Chip
  pub cycle : ℕ
  pub wakes : ℕ
  -- the pins whose drives its last wake may have changed
  pub moved : Span

-- the chip that an instance and a host make
abbrev pub chip_from : Running → HostState → ℕ → Option Death → Chip
chip_from r h budget dead = record { running = r; given = h.moment.given; budget = budget; held = h.moment.levels; inventory = h.inventory; dead = dead }

abbrev pub is_live_by : Option Death → Bool
is_live_by None = true
is_live_by (Some d) = false

abbrev pub is_live : Chip → Bool
is_live s = is_live_by s.dead

-- ---- calls into the module

abbrev pub host_of : Chip → Bool → ℕ → HostState
host_of s init t = record { moment = record { given = s.given; init = init; now = t; levels = s.held }; inventory = s.inventory }

abbrev pub after : Chip → State HostState → Option Death → Chip
after s e dead = record {
  running = record { wasm = s.running.wasm; memory = e.memory; globals = e.globals };
  given = s.given;
  budget = s.budget;
  held = s.held;
  inventory = e.host.inventory;
  dead = dead;
}

-- what an evaluation leaves: a trap ends the chip
abbrev pub ended : Chip → ℕ → End HostState → Chip
ended s t (Gives vs e) = after s e s.dead
ended s t (Fails trap e) = after s e (Some (record { trap = trap; cycle = t }))
ended s t Wrong = s

-- a callback by its place in the table, with the full budget; 0 is none
unfoldable pub called : Chip → ℕ → ℕ → List Value → Chip
called s t zero args = s
called s t (suc n) args = ended s t (slot_call (call answers (program_of s.running.wasm) 256) (program_of s.running.wasm) (suc n) args false (state_of s.running (host_of s false t) s.budget))

-- an i32 that a callback gives
abbrev pub value_of : List Value → ℕ
value_of (I32 n ∷ []) = n
value_of vs = 0

abbrev pub answer_of : End HostState → Option ℕ
answer_of (Gives vs e) = Some (value_of vs)
answer_of (Fails trap e) = None
answer_of Wrong = None

-- a callback that answers, and what it answers where it does not trap; 0 is none, which answers what stands for it
unfoldable pub replied : Chip → ℕ → ℕ → List Value → ℕ → Chip × Option ℕ
replied s t zero args absent = (s, Some absent)
replied s t (suc n) args absent =
    let e = slot_call (call answers (program_of s.running.wasm) 256) (program_of s.running.wasm) (suc n) args true (state_of s.running (host_of s false t) s.budget) in
    (ended s t e, answer_of e)

-- a function without parameters, at time 0 while the chip is set up
unfoldable pub set_up : Chip → ℕ → Chip
set_up s f = ended s 0 (call answers (program_of s.running.wasm) 256 f [] (state_of s.running (host_of s true 0) s.budget))

-- ---- turns

abbrev pub is_at : ℕ → Option ℕ → Bool
is_at t None = false
is_at t (Some u) = u == t

abbrev pub timer_due : ℕ → Option Timer → Bool
timer_due t None = false
timer_due t (Some x) = is_at t x.due

-- a repeating timer is started again before its callback, another is stopped before it
abbrev pub again : ℕ → Timer → Timer
again t x = record x { due = option_map (λ (d : Delay). t + cycles_of d) x.again }

abbrev pub with_timer : Chip → ℕ → Timer → Chip
with_timer s id x = record s { inventory = record s.inventory { timers = slice_set s.inventory.timers id x } }

abbrev pub fired : Chip → ℕ → ℕ → Option Timer → Chip
fired s t id None = s
fired s t id (Some x) = called (with_timer s id (again t x)) t x.callback (I32 x.user ∷ [])

-- the turn of a timer: it calls back where it is due at its turn
abbrev pub timer_turn : Chip → ℕ → ℕ → Chip
timer_turn s t id = if is_live s && timer_due t (slice_get s.inventory.timers id) then fired s t id (slice_get s.inventory.timers id) else s

-- the turns of the first n timers
abbrev pub timer_turns : Chip → ℕ → ℕ → Chip
timer_turns s t zero = s
timer_turns s t (suc n) = timer_turn (timer_turns s t n) t n

-- 1 rising, 2 falling, 3 both, any other none
abbrev pub is_edge : ℕ → Bool → Bool → Bool
is_edge edge false true = edge == 1 || edge == 3
is_edge edge true false = edge == 2 || edge == 3
is_edge edge true true = false
is_edge edge false false = false

abbrev pub watch_fires : Option Watch → Bool → Bool → Bool
watch_fires None before now = false
watch_fires (Some w) before now = is_edge w.edge before now

abbrev pub reading : List Level → ℕ → Bool
reading ls i = reads (level_of ls i)

abbrev pub watched : Chip → ℕ → ℕ → Option Watch → Chip
watched s t i None = s
watched s t i (Some w) = called s t w.callback (I32 w.user ∷ I32 i ∷ I32 (one_if (reading s.held i)) ∷ [])

-- the turn of a pin's watch: it calls back where the reading against that of the cycle before is its edge at its turn
abbrev pub watch_turn : Chip → ℕ → List Level → ℕ → Chip
watch_turn s t before i = if is_live s && watch_fires (watch_at s.inventory i) (reading before i) (reading s.held i) then watched s t i (watch_at s.inventory i) else s

abbrev pub watch_turns : Chip → ℕ → List Level → ℕ → Chip
watch_turns s t before zero = s
watch_turns s t before (suc n) = watch_turn (watch_turns s t before n) t before n

-- ---- engines

abbrev pub with_engine : Chip → ℕ → Engine → Chip
with_engine s k e = record s { inventory = set_engine s.inventory k e }

abbrev pub change_by : (Engine → Engine) → Chip → ℕ → Option Engine → Chip
change_by f s k None = s
change_by f s k (Some e) = with_engine s k (f e)

-- the engine at a place is changed
abbrev pub change : (Engine → Engine) → Chip → ℕ → Chip
change f s k = change_by f s k (engine_at s.inventory k)

-- What a callback answered, where it did; the answer of `read` counts mod 256.
abbrev pub takes_byte : ℕ → Chip → Option ℕ → Chip
takes_byte k s None = s
takes_byte k s (Some n) = change (λ (e : Engine). gets_byte e (n % 256)) s k

abbrev pub takes_answer : ℕ → Chip → Option ℕ → Chip
takes_answer k s None = s
takes_answer k s (Some n) = change (λ (e : Engine). gets_answer e n) s k

-- byte n of the engine's bytes in the memory
abbrev pub byte_address : Engine → ℕ → ℕ
byte_address e n = (e.buffer + n) % 2 ^ 32

abbrev pub byte_in : Mem → ℕ → ℕ
byte_in m addr = unwrap_or (slice_get m.bytes addr) 0

abbrev pub with_stored : Mem → ℕ → ℕ → Mem
with_stored m addr x = if nat_lt addr (length m.bytes) then record m { bytes = slice_set m.bytes addr x } else m

abbrev pub stored : Chip → ℕ → ℕ → Chip
stored s addr x = record s { running = record (s.running) { memory = with_stored s.running.memory addr x } }

-- A request of an engine, which stands at place k. Without a callback, `connect` and `write` answer 1 and `read` 255.
abbrev pub serves : Chip → ℕ → ℕ → Engine → EngineRequest → Chip
serves s t k e requests.None = s
serves s t k e (requests.Fetch n) = with_engine s k (gets_byte e (byte_in s.running.memory (byte_address e n)))
serves s t k e (requests.Store n x) = stored s (byte_address e n) x
serves s t k e (requests.Received x) = called s t e.calls.received (I32 e.user ∷ I32 x ∷ [])
serves s t k e requests.Sent = called s t e.calls.sent (I32 e.user ∷ [])
serves s t k e (requests.Done n) = called s t e.calls.done (I32 e.user ∷ I32 e.buffer ∷ I32 n ∷ [])
serves s t k e (requests.Connect address read) =
    let r = replied s t e.calls.connect (I32 e.user ∷ I32 address ∷ I32 (one_if read) ∷ []) 1 in takes_answer k r.0 r.1
serves s t k e requests.Read = let r = replied s t e.calls.read (I32 e.user ∷ []) 255 in takes_byte k r.0 r.1
serves s t k e (requests.Write x) = let r = replied s t e.calls.write (I32 e.user ∷ I32 x ∷ []) 1 in takes_answer k r.0 r.1
serves s t k e requests.Disconnect = called s t e.calls.disconnect (I32 e.user ∷ [])

abbrev pub serves_at : Chip → ℕ → ℕ → Option Engine → EngineRequest → Option EngineRequest → Chip
serves_at s t k None r later = s
serves_at s t k (Some e) r later = let w = record e { later = later } in serves (with_engine s k w) t k w r

-- A request of the engine at place k of a live chip, behind which it asks for a further one in its turn.
abbrev pub served : Chip → ℕ → ℕ → Option EngineRequest → Option EngineRequest → Chip
served s t k None later = s
served s t k (Some r) later = if is_live s then serves_at s t k (engine_at s.inventory k) r later else s

abbrev pub next_of : List EngineRequest → Option EngineRequest
next_of [] = None
next_of (r ∷ rs) = Some r

-- all requests of a turn
abbrev pub all_served : Chip → ℕ → ℕ → List EngineRequest → Chip
all_served s t k [] = s
all_served s t k (r ∷ rs) = all_served (served s t k (Some r) (next_of rs)) t k rs

abbrev pub takes_turn : Chip → ℕ → List Level → ℕ → Option Engine → Chip
takes_turn s t before k None = s
takes_turn s t before k (Some e) = let after = engine_turned e t before s.held in all_served (with_engine s k after.0) t k after.1

-- the turn of the engine at a place
abbrev pub engine_turn : Chip → ℕ → List Level → ℕ → Chip
engine_turn s t before k = if is_live s then takes_turn s t before k (engine_at s.inventory k) else s

-- the turns of the first n places
abbrev pub engine_turns : Chip → ℕ → List Level → ℕ → Chip
engine_turns s t before zero = s
engine_turns s t before (suc n) = engine_turn (engine_turns s t before n) t before n

abbrev pub engines_last : Chip → ℕ → List Level → Chip
engines_last s t before = engine_turns s t before (length s.inventory.engines)

abbrev pub seeing : Chip → List Level → Chip
seeing s ls = record s { held = ls }

abbrev pub timers_first : Chip → ℕ → Chip
timers_first s t = timer_turns s t (length s.inventory.timers)

abbrev pub chip_step : Chip → ℕ → List Level → Chip
chip_step s t ls = engines_last (watch_turns (timers_first (seeing s ls) t) t s.held (length s.given.names)) t s.held

-- a chip behind all turns of its cycle
abbrev pub turned : ChipAt → ChipAt
turned a =
    let fired = timers_first a.chip a.cycle in
    record { chip = engines_last (watch_turns fired a.cycle a.before (length fired.given.names)) a.cycle a.before; cycle = a.cycle + 1; wakes = a.wakes + 1; before = a.before }

-- ---- what it shows

abbrev pub chip_drive : Chip → ℕ → Drive
chip_drive s i = if is_live s then pin_drives s.inventory i else drives.Z

-- What a trap leaves for good: all pins are released, and a step on whatever levels changes nothing but the levels that the chip
-- sees. So nothing is called any more, and it is over in the next cycle too.
pub record IsOver (s : Chip) : Type 0 where
  pub released : (pin : ℕ) → chip_drive s pin ≡ drives.Z
  pub still : (t : ℕ) (ls : List Level) → chip_step s t ls ≡ seeing s ls

abbrev pub any_due : ℕ → List Timer → Bool
any_due t [] = false
any_due t (x ∷ xs) = is_at t x.due || any_due t xs

abbrev pub chip : Machine Chip
chip = record {
  step = λ s t ls input. (chip_step s t ls, None);
  drives = λ s. map (chip_drive s) (range_with_len 0 (length s.given.names));
  contacts = λ s. [];
  held = λ s. s.held;
  due = λ s t. t == 0 || (is_live s && (any_due t s.inventory.timers || any_engine_due t s.inventory.engines));
  valid = λ s t. true;
}

-- ---- the start

abbrev pub no_pins : {X : Type 0} → ℕ → List (Option X)
no_pins n = replicate n None

-- a host before anything ran
abbrev pub first_host : Given → HostState
first_host given = record {
  moment = record { given = given; init = true; now = 0; levels = replicate (length given.names) levels.Z };
  inventory = record { pins = no_pins (length given.names); watches = no_pins (length given.names); timers = []; attributes = []; engines = no_pins 24; output = new_output given.display };
}

-- before anything ran
abbrev pub made : Module → Given → ℕ → Chip
made m given budget = record {
  running = record { wasm = m; memory = memory_at_first m; globals = first_globals m };
  given = given;
  budget = budget;
  held = replicate (length given.names) levels.Z;
  inventory = record { pins = no_pins (length given.names); watches = no_pins (length given.names); timers = []; attributes = []; engines = no_pins 24; output = new_output given.display };
  dead = None;
}

abbrev pub then_set_up : Chip → ℕ → Chip
then_set_up s f = if is_live s then set_up s f else s

abbrev pub started : Option ℕ → Chip → Chip
started None s = s
started (Some f) s = set_up s f

-- after the start function and chipInit
abbrev pub start_state : Module → ℕ → Given → ℕ → Chip
start_state m init given budget = then_set_up (started m.start (made m given budget)) init
