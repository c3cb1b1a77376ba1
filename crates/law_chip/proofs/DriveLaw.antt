-- A pin of a chip that has no name drives nothing, and none is a wiper.
use Rattle.std.proofs.Common.{◌≡◌, ◌≢◌, ◌%◌, ◌==◌, ℕ, zero, suc, List, [], ◌∷◌, length, Bool, true, false, not, ◌&&◌, ◌||◌}
use Rattle.std.proofs.Common.{if◌then◌else◌, Option, None, Some, refl, ap, ◌∙◌}
use Rattle.std.specs.Prelude.{reverse, slice_get, unwrap_or, option_map}
use Rattle.std.specs.List.{list_all}
use Rattle.std.proofs.lemmas.Bool.{and_parts, not-true}
use Rattle.sim_base.specs.declared.signal.Drive.{Drive}
use Rattle.sim_base.specs.declared.signal.Drive.TheVariants as drives
use Rattle.sim_base.specs.declared.signal.Level.{Level}
use Rattle.wasm_num.specs.declared.value.Value.{Value}
use Rattle.wasm_num.specs.declared.value.Value.TheVariants.{I32}
use Rattle.wasm_decode.specs.declared.module.Module.{Module}
use Rattle.wasm_semantics.specs.Eval.{End, Gives, Fails, Wrong, call}
use Rattle.wasm_exec.specs.Instances.{state_of}
use Rattle.wasm_exec.specs.Slots.{slot_call, slot_type}
use Rattle.wasm_program.specs.ProgramOf.{program_of}
use Rattle.wasm_program.proofs.Keeping.{KeepsEnd, call_keeps, indirect_call_keeps}
use Rattle.slave_request.specs.declared.request.EngineRequest.{EngineRequest}
use Rattle.slave_request.specs.declared.request.EngineRequest.TheVariants as requests
use Rattle.slave_serial.specs.Pins.{output}
use Rattle.slave_serial.specs.Sending.{next_line}
use Rattle.chip_engines.specs.declared.serial.Serial.{Serial}
use Rattle.chip_engines.specs.declared.serial.Serial.TheVariants as serials
use Rattle.chip_engines.specs.declared.engine.Pins.{Pins}
use Rattle.chip_engines.specs.declared.engine.Engine.{Engine}
use Rattle.chip_engines.specs.Serial.{serial_output}
use Rattle.chip_engines.specs.Engine.{driven, place_drives, out_drives, or_next, engine_turned, gets_byte, gets_answer}
use Rattle.chip_host.specs.declared.pin.Pin.{Pin}
use Rattle.chip_host.specs.declared.pin.Mode.{Mode}
use Rattle.chip_host.specs.declared.pin.Mode.TheVariants as modes
use Rattle.chip_host.specs.declared.timer.Timer.{Timer}
use Rattle.chip_host.specs.declared.watch.Watch.{Watch}
use Rattle.chip_host.specs.Inventory.{Given, HostState, drive_of, joined, mode_drive, pin_at, pin_drives, watch_at, engine_at}
use Rattle.chip_host.specs.HostCall.{answers, one_if}
use Rattle.chip_host.specs.Chip.{Chip, chip_step, chip_drive, is_live, host_of, ended, called, replied, set_up, made, started, start_state, no_pins}
use Rattle.chip_host.specs.Chip.{timer_due, again, with_timer, fired, timer_turns, watch_fires, reading, watched, watch_turns, seeing, timers_first}
use Rattle.chip_host.specs.Chip.{with_engine, change_by, takes_byte, takes_answer, serves, serves_at, served, next_of, all_served, takes_turn, engine_turns}
use Rattle.law_chip.specs.Named.{is_named, is_at, is_off, HasFree}
use Rattle.law_chip.proofs.CallLemmas.{state_at, free_state, state_is, state_free, host_keeps, engine_off, set_engine_free}

module _ (names : List (Option (List ℕ))) (i : ℕ) (un : is_named names i ≡ false) where
  -- ---- calls into the module

  ended_named : (s : Chip) (t : ℕ) (e : End HostState) → HasFree names i s → KeepsEnd (state_at names i un) (free_state names i un) e → HasFree names i (ended s t e)
  ended_named s t (Gives vs e) is kept = record { same = is.same; free = (state_free names i un e.host kept).1 }
  ended_named s t (Fails trap e) is kept = record { same = is.same; free = (state_free names i un e.host kept).1 }
  ended_named s t Wrong is kept = is

  slot_kept : (s : Chip) (t n : ℕ) (args : List Value) (gives : Bool) → HasFree names i s → KeepsEnd (state_at names i un) (free_state names i un)
      (slot_call (call answers (program_of s.running.wasm) 256) (program_of s.running.wasm) n args gives (state_of s.running (host_of s false t) s.budget))
  slot_kept s t n args gives is =
      indirect_call_keeps (state_at names i un) (free_state names i un) answers (program_of s.running.wasm) (host_keeps names i un) 256 (length (slot_type args gives).results)
      (Some (slot_type args gives)) (I32 n ∷ reverse args) (state_of s.running (host_of s false t) s.budget) (state_is names i un (host_of s false t) is.same is.free)

  called_named : (s : Chip) (t slot : ℕ) (args : List Value) → HasFree names i s → HasFree names i (called s t slot args)
  unfolding called
  called_named s t zero args is = is
  called_named s t (suc n) args is = ended_named s t _ is (slot_kept s t (suc n) args false is)

  replied_named : (s : Chip) (t slot : ℕ) (args : List Value) (absent : ℕ) → HasFree names i s → HasFree names i (replied s t slot args absent).0
  unfolding replied
  replied_named s t zero args absent is = is
  replied_named s t (suc n) args absent is = ended_named s t _ is (slot_kept s t (suc n) args true is)

  set_up_named : (s : Chip) (f : ℕ) → HasFree names i s → HasFree names i (set_up s f)
  unfolding set_up
  set_up_named s f is =
      ended_named s 0 _ is (call_keeps (state_at names i un) (free_state names i un) answers (program_of s.running.wasm) (host_keeps names i un) 256 f []
      (state_of s.running (host_of s true 0) s.budget) (state_is names i un (host_of s true 0) is.same is.free))

  if_named : (b : Bool) (x y : Chip) → HasFree names i x → HasFree names i y → HasFree names i (if b then x else y)
  if_named true x y p q = p
  if_named false x y p q = q

  -- ---- turns

  fired_named : (s : Chip) (t id : ℕ) (o : Option Timer) → HasFree names i s → HasFree names i (fired s t id o)
  fired_named s t id None is = is
  fired_named s t id (Some x) is = called_named (with_timer s id (again t x)) t x.callback (I32 x.user ∷ [])
      (record { same = is.same; free = record { pin = is.free.pin; engines = is.free.engines } })

  timers_named : (s : Chip) (t n : ℕ) → HasFree names i s → HasFree names i (timer_turns s t n)
  timers_named s t zero is = is
  timers_named s t (suc n) is =
      let r = timer_turns s t n in
      if_named (is_live r && timer_due t (slice_get r.inventory.timers n)) (fired r t n (slice_get r.inventory.timers n)) r
      (fired_named r t n (slice_get r.inventory.timers n) (timers_named s t n is)) (timers_named s t n is)

  watched_named : (s : Chip) (t j : ℕ) (o : Option Watch) → HasFree names i s → HasFree names i (watched s t j o)
  watched_named s t j None is = is
  watched_named s t j (Some w) is = called_named s t w.callback _ is

  watches_named : (s : Chip) (t : ℕ) (before : List Level) (n : ℕ) → HasFree names i s → HasFree names i (watch_turns s t before n)
  watches_named s t before zero is = is
  watches_named s t before (suc n) is =
      let r = watch_turns s t before n in
      if_named (is_live r && watch_fires (watch_at r.inventory n) (reading before n) (reading r.held n)) (watched r t n (watch_at r.inventory n)) r
      (watched_named r t n (watch_at r.inventory n) (watches_named s t before n is)) (watches_named s t before n is)

  -- ---- engines

  with_engine_named : (s : Chip) (k : ℕ) (e : Engine) → HasFree names i s → is_off i (Some e) ≡ true → HasFree names i (with_engine s k e)
  with_engine_named s k e is off = record { same = is.same; free = set_engine_free names i un s.inventory is.free k e off }

  change_named : (f : Engine → Engine) → ((e : Engine) → (f e).pins ≡ e.pins) → (s : Chip) (k : ℕ) (o : Option Engine) → HasFree names i s → is_off i o ≡ true →
      HasFree names i (change_by f s k o)
  change_named f same s k None is own = is
  change_named f same s k (Some e) is own = with_engine_named s k (f e) is (ap (λ (p : Pins). not (is_at i p.out)) (same e) ∙ own)

  byte_named : (s : Chip) (k : ℕ) (o : Option ℕ) → HasFree names i s → HasFree names i (takes_byte k s o)
  byte_named s k None is = is
  byte_named s k (Some n) is =
      change_named (λ (e : Engine). gets_byte e (n % 256)) (λ e. refl) s k (engine_at s.inventory k) is (engine_off names i un s.inventory is.free k)

  answer_named : (s : Chip) (k : ℕ) (o : Option ℕ) → HasFree names i s → HasFree names i (takes_answer k s o)
  answer_named s k None is = is
  answer_named s k (Some n) is =
      change_named (λ (e : Engine). gets_answer e n) (λ e. refl) s k (engine_at s.inventory k) is (engine_off names i un s.inventory is.free k)

  serves_named : (s : Chip) (t k : ℕ) (e : Engine) (r : EngineRequest) → HasFree names i s → is_off i (Some e) ≡ true → HasFree names i (serves s t k e r)
  serves_named s t k e requests.None is out = is
  serves_named s t k e (requests.Fetch n) is out = with_engine_named s k (gets_byte e _) is out
  serves_named s t k e (requests.Store n x) is out = record { same = is.same; free = is.free }
  serves_named s t k e (requests.Received x) is out = called_named s t e.calls.received _ is
  serves_named s t k e requests.Sent is out = called_named s t e.calls.sent _ is
  serves_named s t k e (requests.Done n) is out = called_named s t e.calls.done _ is
  serves_named s t k e (requests.Connect address read) is out =
      let r = replied s t e.calls.connect (I32 e.user ∷ I32 address ∷ I32 (one_if read) ∷ []) 1 in answer_named r.0 k r.1 (replied_named s t e.calls.connect _ 1 is)
  serves_named s t k e requests.Read is out = let r = replied s t e.calls.read (I32 e.user ∷ []) 255 in byte_named r.0 k r.1 (replied_named s t e.calls.read _ 255 is)
  serves_named s t k e (requests.Write x) is out =
      let r = replied s t e.calls.write (I32 e.user ∷ I32 x ∷ []) 1 in answer_named r.0 k r.1 (replied_named s t e.calls.write _ 1 is)
  serves_named s t k e requests.Disconnect is out = called_named s t e.calls.disconnect _ is

  serves_at_named : (s : Chip) (t k : ℕ) (o : Option Engine) (r : EngineRequest) (later : Option EngineRequest) → HasFree names i s → is_off i o ≡ true →
      HasFree names i (serves_at s t k o r later)
  serves_at_named s t k None r later is own = is
  serves_at_named s t k (Some e) r later is own =
      let w : Engine = record e { later = later } in serves_named (with_engine s k w) t k w r (with_engine_named s k w is own) own

  served_named : (s : Chip) (t k : ℕ) (r later : Option EngineRequest) → HasFree names i s → HasFree names i (served s t k r later)
  served_named s t k None later is = is
  served_named s t k (Some r) later is =
      if_named (is_live s) (serves_at s t k (engine_at s.inventory k) r later) s
      (serves_at_named s t k (engine_at s.inventory k) r later is (engine_off names i un s.inventory is.free k)) is

  all_served_named : (s : Chip) (t k : ℕ) (rs : List EngineRequest) → HasFree names i s → HasFree names i (all_served s t k rs)
  all_served_named s t k [] is = is
  all_served_named s t k (r ∷ rs) is = all_served_named (served s t k (Some r) (next_of rs)) t k rs (served_named s t k (Some r) (next_of rs) is)

  turn_named : (s : Chip) (t : ℕ) (before : List Level) (k : ℕ) (o : Option Engine) → HasFree names i s → is_off i o ≡ true → HasFree names i (takes_turn s t before k o)
  turn_named s t before k None is own = is
  turn_named s t before k (Some e) is own =
      let after = engine_turned e t before s.held in all_served_named (with_engine s k after.0) t k after.1 (with_engine_named s k after.0 is own)

  engines_named : (s : Chip) (t : ℕ) (before : List Level) (n : ℕ) → HasFree names i s → HasFree names i (engine_turns s t before n)
  engines_named s t before zero is = is
  engines_named s t before (suc n) is =
      let r = engine_turns s t before n in
      let more = engines_named s t before n is in
      if_named (is_live r) (takes_turn r t before n (engine_at r.inventory n)) r
      (turn_named r t before n (engine_at r.inventory n) more (engine_off names i un r.inventory more.free n)) more

  -- ---- a chip's run

  pub step_named : (s : Chip) (t : ℕ) (ls : List Level) → HasFree names i s → HasFree names i (chip_step s t ls)
  step_named s t ls is =
      let first = timers_named (seeing s ls) t (length s.inventory.timers) (record { same = is.same; free = is.free }) in
      let turned = watch_turns (timers_first (seeing s ls) t) t s.held (length s.given.names) in
      engines_named turned t s.held (length turned.inventory.engines) (watches_named (timers_first (seeing s ls) t) t s.held (length s.given.names) first)

none_at : {A : Type 0} (n i : ℕ) → joined (slice_get (no_pins {X = A} n) i) ≡ None
none_at zero i = refl
none_at (suc n) zero = refl
none_at (suc n) (suc i) = none_at n i

none_off : (i n : ℕ) → list_all (is_off i) (no_pins n) ≡ true
none_off i zero = refl
none_off i (suc n) = none_off i n

pub start_named : (m : Module) (init : ℕ) (given : Given) (budget i : ℕ) → is_named given.names i ≡ false → HasFree given.names i (start_state m init given budget)
start_named m init given budget i un = if_named given.names i un (is_live s) (set_up s init) s (set_up_named given.names i un s init is) is
  where
    first : Chip
    first = made m given budget

    first_named : HasFree given.names i first
    first_named = record { same = refl; free = record { pin = none_at (length given.names) i; engines = none_off i 24 } }

    by_start : (o : Option ℕ) → HasFree given.names i (started o first)
    by_start None = first_named
    by_start (Some f) = set_up_named given.names i un first f first_named

    s : Chip
    s = started m.start first

    is : HasFree given.names i s
    is = by_start m.start

-- ---- what it drives

module _ (i : ℕ) where
  out_none : (out : Option ℕ) (d : Option Drive) → not (is_at i out) ≡ true → out_drives i out d ≡ None
  out_none None d off = refl
  out_none (Some out) d off = ap (λ (b : Bool). if b then d else None) (not-true (out == i) off)

  place_none : (o : Option Engine) → is_off i o ≡ true → place_drives i o ≡ None
  place_none None off = refl
  place_none (Some e) off = out_none e.pins.out (serial_output e.serial e.early) off

  driven_none : (es : List (Option Engine)) → list_all (is_off i) es ≡ true → driven i es ≡ None
  driven_none [] off = refl
  driven_none (o ∷ es) off =
      let both = and_parts (is_off i o) (list_all (is_off i) es) off in
      ap (λ (d : Option Drive). or_next d (driven i es)) (place_none o both.0) ∙ driven_none es both.1

-- A pin without a name drives nothing: it is one that no call gives and no engine drives.
pub unnamed_drives : (names : List (Option (List ℕ))) (s : Chip) (i : ℕ) → HasFree names i s → chip_drive s i ≡ drives.Z
unnamed_drives names s i is = live (is_live s)
  where
    live : (b : Bool) → (if b then pin_drives s.inventory i else drives.Z) ≡ drives.Z
    live true =
        ap (λ (d : Option Drive). unwrap_or d (drive_of (pin_at s.inventory i))) (driven_none i s.inventory.engines is.free.engines)
        ∙ ap drive_of is.free.pin
    live false = refl

-- no wiper
abbrev IsNoWiper : Drive → Type 0
IsNoWiper d = (w : ℕ) → d ≢ drives.Wiper w

output_plain : (b : Bool) → IsNoWiper (output b)
output_plain true w e = cc
output_plain false w e = cc

z_plain : IsNoWiper drives.Z
z_plain w e = cc

low_plain : IsNoWiper drives.Low
low_plain w e = cc

mode_plain : (mode : Mode) (high : Bool) → IsNoWiper (mode_drive mode high)
mode_plain modes.Input high w e = cc
mode_plain modes.Output true w e = cc
mode_plain modes.Output false w e = cc
mode_plain modes.PullHigh high w e = cc
mode_plain modes.PullLow high w e = cc

pin_plain : (o : Option Pin) → IsNoWiper (drive_of o)
pin_plain None = z_plain
pin_plain (Some p) = mode_plain p.mode p.high

abbrev MayBePlain : Option Drive → Type 0
MayBePlain None = Unit {0}
MayBePlain (Some d) = IsNoWiper d

serial_plain : (s : Serial) (early : Bool) → MayBePlain (serial_output s early)
serial_plain (serials.Uart u) early = output_plain (early || next_line u.sending)
serial_plain (serials.Spi s) early = go s.miso
  where
    go : (o : Option Bool) → MayBePlain (option_map output o)
    go None = tt
    go (Some b) = output_plain b
serial_plain (serials.I2c s) early = go s.low
  where
    go : (b : Bool) → MayBePlain (if b then Some drives.Low else None)
    go true = low_plain
    go false = tt

out_plain : (i : ℕ) (out : Option ℕ) (d : Option Drive) → MayBePlain d → MayBePlain (out_drives i out d)
out_plain i None d is = tt
out_plain i (Some out) d is = go (out == i)
  where
    go : (b : Bool) → MayBePlain (if b then d else None)
    go true = is
    go false = tt

place_plain : (i : ℕ) (o : Option Engine) → MayBePlain (place_drives i o)
place_plain i None = tt
place_plain i (Some e) = out_plain i e.pins.out (serial_output e.serial e.early) (serial_plain e.serial e.early)

next_plain : (a b : Option Drive) → MayBePlain a → MayBePlain b → MayBePlain (or_next a b)
next_plain None b p q = q
next_plain (Some d) b p q = p

driven_plain : (i : ℕ) (es : List (Option Engine)) → MayBePlain (driven i es)
driven_plain i [] = tt
driven_plain i (o ∷ es) = next_plain (place_drives i o) (driven i es) (place_plain i o) (driven_plain i es)

-- A chip never drives a wiper.
pub no_wiper : (s : Chip) (i : ℕ) → IsNoWiper (chip_drive s i)
no_wiper s i = live (is_live s)
  where
    or_mode : (o : Option Drive) → MayBePlain o → IsNoWiper (unwrap_or o (drive_of (pin_at s.inventory i)))
    or_mode None is = pin_plain (pin_at s.inventory i)
    or_mode (Some d) is = is

    live : (b : Bool) → IsNoWiper (if b then pin_drives s.inventory i else drives.Z)
    live true = or_mode (driven i s.inventory.engines) (driven_plain i s.inventory.engines)
    live false = z_plain
