-- The laws of a chip's machine.
use Rattle.std.proofs.Common.{◌≡◌, ℕ, zero, suc, List, [], ◌∷◌, length, Bool, true, false, ◌&&◌, ◌||◌, Option, None, Some, refl, sym, ap, ◌∙◌}
use Rattle.std.specs.Prelude.{◌==◌, if◌then◌else◌, slice_get, IfSome}
use Rattle.std.proofs.lemmas.List.FromFn.{length-map-range_with_len}
use Rattle.std.proofs.lemmas.Bool.{or_parts, and_right, cond-false}
use Rattle.sim_base.specs.declared.signal.Drive.TheVariants as drives
use Rattle.sim_base.specs.declared.signal.Level.{Level}
use Rattle.wasm_num.specs.declared.value.Value.{Value}
use Rattle.wasm_num.specs.declared.value.Value.TheVariants.{I32}
use Rattle.wasm_decode.specs.declared.module.Module.{Module}
use Rattle.wasm_semantics.specs.Eval.{End, Gives, Fails, Wrong}
use Rattle.part_law.specs.Machine.{Laws, idle}
use Rattle.chip_host.specs.declared.death.Death.{Death}
use Rattle.chip_host.specs.declared.watch.Watch.{Watch}
use Rattle.chip_host.specs.declared.timer.Timer.{Timer}
use Rattle.slave_request.specs.declared.request.EngineRequest.{EngineRequest}
use Rattle.slave_request.specs.declared.request.EngineRequest.TheVariants as requests
use Rattle.chip_engines.specs.declared.engine.Engine.{Engine}
use Rattle.chip_engines.specs.Engine.{engine_turned, any_engine_due}
use Rattle.chip_engines.proofs.EngineLemmas.{engine_rests, set_same, none_due as none_due_engine}
use Rattle.chip_host.specs.Inventory.{Given, HostState, joined, watch_at, engine_at}
use Rattle.chip_host.specs.HostCall.{one_if}
use Rattle.chip_host.specs.Chip.{Chip, chip, chip_step, chip_drive, is_live_by, is_live, IsOver, ended, called, set_up, made, started, start_state, is_at, timer_due, again, with_timer, fired, timer_turn, timer_turns, is_edge, watch_fires, reading, watched, watch_turn, watch_turns, seeing, timers_first, any_due, replied, change_by, takes_byte, takes_answer, serves, serves_at, served, next_of, all_served, with_engine, takes_turn, engine_turn, engine_turns, engines_last}

-- ---- what no turn changes

pub record Fixed : Type 0 where
  pub given : Given
  pub budget : ℕ
  pub held : List Level

abbrev pub fixed_of : Chip → Fixed
fixed_of s = record { given = s.given; budget = s.budget; held = s.held }

ended_fixed : (s : Chip) (t : ℕ) (e : End HostState) → fixed_of (ended s t e) ≡ fixed_of s
ended_fixed s t (Gives vs e) = refl
ended_fixed s t (Fails trap e) = refl
ended_fixed s t Wrong = refl

if_fixed : (b : Bool) (x y s : Chip) → fixed_of x ≡ fixed_of s → fixed_of y ≡ fixed_of s → fixed_of (if b then x else y) ≡ fixed_of s
if_fixed true x y s p q = p
if_fixed false x y s p q = q

pub called_fixed : (s : Chip) (t slot : ℕ) (args : List Value) → fixed_of (called s t slot args) ≡ fixed_of s
unfolding called
called_fixed s t zero args = refl
called_fixed s t (suc n) args = ended_fixed s t _

fired_fixed : (s : Chip) (t id : ℕ) (o : Option Timer) → fixed_of (fired s t id o) ≡ fixed_of s
fired_fixed s t id None = refl
fired_fixed s t id (Some x) = called_fixed (with_timer s id (again t x)) t x.callback _

watched_fixed : (s : Chip) (t i : ℕ) (o : Option Watch) → fixed_of (watched s t i o) ≡ fixed_of s
watched_fixed s t i None = refl
watched_fixed s t i (Some w) = called_fixed s t w.callback _

replied_fixed : (s : Chip) (t slot : ℕ) (args : List Value) (absent : ℕ) → fixed_of (replied s t slot args absent).0 ≡ fixed_of s
unfolding replied
replied_fixed s t zero args absent = refl
replied_fixed s t (suc n) args absent = ended_fixed s t _

change_fixed : (f : Engine → Engine) (s : Chip) (k : ℕ) (o : Option Engine) → fixed_of (change_by f s k o) ≡ fixed_of s
change_fixed f s k None = refl
change_fixed f s k (Some e) = refl

byte_fixed : (s : Chip) (k : ℕ) (o : Option ℕ) → fixed_of (takes_byte k s o) ≡ fixed_of s
byte_fixed s k None = refl
byte_fixed s k (Some n) = change_fixed _ s k (engine_at s.inventory k)

answer_fixed : (s : Chip) (k : ℕ) (o : Option ℕ) → fixed_of (takes_answer k s o) ≡ fixed_of s
answer_fixed s k None = refl
answer_fixed s k (Some n) = change_fixed _ s k (engine_at s.inventory k)

serves_fixed : (s : Chip) (t k : ℕ) (e : Engine) (r : EngineRequest) → fixed_of (serves s t k e r) ≡ fixed_of s
serves_fixed s t k e requests.None = refl
serves_fixed s t k e (requests.Fetch n) = refl
serves_fixed s t k e (requests.Store n x) = refl
serves_fixed s t k e (requests.Received x) = called_fixed s t e.calls.received _
serves_fixed s t k e requests.Sent = called_fixed s t e.calls.sent _
serves_fixed s t k e (requests.Done n) = called_fixed s t e.calls.done _
serves_fixed s t k e (requests.Connect address read) =
    let r = replied s t e.calls.connect (I32 e.user ∷ I32 address ∷ I32 (one_if read) ∷ []) 1 in answer_fixed r.0 k r.1 ∙ replied_fixed s t e.calls.connect _ 1
serves_fixed s t k e requests.Read = let r = replied s t e.calls.read (I32 e.user ∷ []) 255 in byte_fixed r.0 k r.1 ∙ replied_fixed s t e.calls.read _ 255
serves_fixed s t k e (requests.Write x) = let r = replied s t e.calls.write (I32 e.user ∷ I32 x ∷ []) 1 in answer_fixed r.0 k r.1 ∙ replied_fixed s t e.calls.write _ 1
serves_fixed s t k e requests.Disconnect = called_fixed s t e.calls.disconnect _

serves_at_fixed : (s : Chip) (t k : ℕ) (o : Option Engine) (r : EngineRequest) (later : Option EngineRequest) → fixed_of (serves_at s t k o r later) ≡ fixed_of s
serves_at_fixed s t k None r later = refl
serves_at_fixed s t k (Some e) r later = let w : Engine = record e { later = later } in serves_fixed (with_engine s k w) t k w r

served_fixed : (s : Chip) (t k : ℕ) (r later : Option EngineRequest) → fixed_of (served s t k r later) ≡ fixed_of s
served_fixed s t k None later = refl
served_fixed s t k (Some r) later = if_fixed (is_live s) (serves_at s t k (engine_at s.inventory k) r later) s s (serves_at_fixed s t k (engine_at s.inventory k) r later) refl

all_fixed : (s : Chip) (t k : ℕ) (rs : List EngineRequest) → fixed_of (all_served s t k rs) ≡ fixed_of s
all_fixed s t k [] = refl
all_fixed s t k (r ∷ rs) = all_fixed (served s t k (Some r) (next_of rs)) t k rs ∙ served_fixed s t k (Some r) (next_of rs)

takes_turn_fixed : (s : Chip) (t : ℕ) (before : List Level) (k : ℕ) (o : Option Engine) → fixed_of (takes_turn s t before k o) ≡ fixed_of s
takes_turn_fixed s t before k None = refl
takes_turn_fixed s t before k (Some e) =
    let after = engine_turned e t before s.held in all_fixed (with_engine s k after.0) t k after.1

pub engine_turns_fixed : (s : Chip) (t : ℕ) (before : List Level) (n : ℕ) → fixed_of (engine_turns s t before n) ≡ fixed_of s
engine_turns_fixed s t before zero = refl
engine_turns_fixed s t before (suc n) =
    let r = engine_turns s t before n in
    if_fixed (is_live r) (takes_turn r t before n (engine_at r.inventory n)) r s
    (takes_turn_fixed r t before n (engine_at r.inventory n) ∙ engine_turns_fixed s t before n) (engine_turns_fixed s t before n)

engines_last_fixed : (s : Chip) (t : ℕ) (before : List Level) → fixed_of (engines_last s t before) ≡ fixed_of s
engines_last_fixed s t before = engine_turns_fixed s t before (length s.inventory.engines)

pub timer_turns_fixed : (s : Chip) (t n : ℕ) → fixed_of (timer_turns s t n) ≡ fixed_of s
timer_turns_fixed s t zero = refl
timer_turns_fixed s t (suc n) =
    let r = timer_turns s t n in
    if_fixed (is_live r && timer_due t (slice_get r.inventory.timers n)) (fired r t n (slice_get r.inventory.timers n)) r s (fired_fixed r t n (slice_get r.inventory.timers n) ∙ timer_turns_fixed s t n) (timer_turns_fixed s t n)

pub watch_turns_fixed : (s : Chip) (t : ℕ) (before : List Level) (n : ℕ) → fixed_of (watch_turns s t before n) ≡ fixed_of s
watch_turns_fixed s t before zero = refl
watch_turns_fixed s t before (suc n) =
    let r = watch_turns s t before n in
    if_fixed (is_live r && watch_fires (watch_at r.inventory n) (reading before n) (reading r.held n)) (watched r t n (watch_at r.inventory n)) r s (watched_fixed r t n (watch_at r.inventory n) ∙ watch_turns_fixed s t before n) (watch_turns_fixed s t before n)

pub step_fixed : (s : Chip) (t : ℕ) (ls : List Level) → fixed_of (chip_step s t ls) ≡ record { given = s.given; budget = s.budget; held = ls }
step_fixed s t ls =
    engines_last_fixed (watch_turns (timers_first (seeing s ls) t) t s.held (length s.given.names)) t s.held
    ∙ watch_turns_fixed (timers_first (seeing s ls) t) t s.held (length s.given.names) ∙ timer_turns_fixed (seeing s ls) t (length s.inventory.timers)

-- ---- cycles in which nothing comes

none_due : (t : ℕ) (xs : List Timer) (i : ℕ) → any_due t xs ≡ false → timer_due t (slice_get xs i) ≡ false
none_due t [] i e = refl
none_due t (x ∷ xs) zero e = (or_parts (is_at t x.due) (any_due t xs) e).0
none_due t (x ∷ xs) (suc i) e = none_due t xs i (or_parts (is_at t x.due) (any_due t xs) e).1

and_false : (a b c : Bool) → (a && b) ≡ false → (b ≡ false → c ≡ false) → (a && c) ≡ false
and_false true b c e k = k e
and_false false b c e k = refl

no_edge : (e : ℕ) (b : Bool) → is_edge e b b ≡ false
no_edge e true = refl
no_edge e false = refl

no_fires : (o : Option Watch) (b : Bool) → watch_fires o b b ≡ false
no_fires None b = refl
no_fires (Some w) b = no_edge w.edge b

timers_rest : (s : Chip) (t n : ℕ) → (is_live s && any_due t s.inventory.timers) ≡ false → timer_turns s t n ≡ s
timers_rest s t zero h = refl
timers_rest s t (suc n) h =
    let one : timer_turn s t n ≡ s = cond-false _ _ s (and_false (is_live s) (any_due t s.inventory.timers) (timer_due t (slice_get s.inventory.timers n)) h (none_due t s.inventory.timers n)) in
    ap (λ (r : Chip). timer_turn r t n) (timers_rest s t n h) ∙ one

watches_rest : (s : Chip) (t n : ℕ) → watch_turns s t s.held n ≡ s
watches_rest s t zero = refl
watches_rest s t (suc n) =
    let one : watch_turn s t s.held n ≡ s = cond-false _ _ s (and_right (is_live s) _ (no_fires (watch_at s.inventory n) (reading s.held n))) in
    ap (λ (r : Chip). watch_turn r t s.held n) (watches_rest s t n) ∙ one

no_turn : (s : Chip) (t k : ℕ) (o : Option Engine) → engine_at s.inventory k ≡ o → (t == 0) ≡ false → any_engine_due t s.inventory.engines ≡ false → takes_turn s t s.held k o ≡ s
no_turn s t k None at later none = refl
no_turn s t k (Some e) at later none =
    let there : slice_get s.inventory.engines k ≡ Some (Some e) = inside (slice_get s.inventory.engines k) e at in
    ap (λ (p : Engine × List EngineRequest). all_served (with_engine s k p.0) t k p.1) (engine_rests e t s.held later (none_due_engine t s.inventory.engines k e none there))
    ∙ ap (λ (os : List (Option Engine)). record s { inventory = record s.inventory { engines = os } }) (set_same s.inventory.engines k (Some e) there)
  where
    inside : (o : Option (Option Engine)) (e : Engine) → joined o ≡ Some e → o ≡ Some (Some e)
    inside None e h = absurd cc
    inside (Some p) e h = ap (λ (x : Option Engine). Some x) h

engines_rest : (s : Chip) (t n : ℕ) → (t == 0) ≡ false → (is_live s && any_engine_due t s.inventory.engines) ≡ false → engine_turns s t s.held n ≡ s
engines_rest s t zero later h = refl
engines_rest s t (suc n) later h =
    let one : engine_turn s t s.held n ≡ s = by (is_live s) refl in
    ap (λ (r : Chip). engine_turn r t s.held n) (engines_rest s t n later h) ∙ one
  where
    by : (b : Bool) → is_live s ≡ b → (if b then takes_turn s t s.held n (engine_at s.inventory n) else s) ≡ s
    by true live = no_turn s t n (engine_at s.inventory n) refl later (sym (ap (λ (b : Bool). b && any_engine_due t s.inventory.engines) live) ∙ h)
    by false live = refl

and_or_first : (a b c : Bool) → (a && (b || c)) ≡ false → (a && b) ≡ false
and_or_first true b c h = (or_parts b c h).0
and_or_first false b c h = refl

and_or_second : (a b c : Bool) → (a && (b || c)) ≡ false → (a && c) ≡ false
and_or_second true b c h = (or_parts b c h).1
and_or_second false b c h = refl

-- a cycle in which no timer and no engine is due, on held levels, changes nothing
pub chip_still : (s : Chip) (t : ℕ) → chip.due s t ≡ false → idle chip s t ≡ s
chip_still s t h =
    let later : (t == 0) ≡ false = (or_parts (t == 0) (is_live s && (any_due t s.inventory.timers || any_engine_due t s.inventory.engines)) h).0 in
    let none = (or_parts (t == 0) (is_live s && (any_due t s.inventory.timers || any_engine_due t s.inventory.engines)) h).1 in
    let timers : timers_first s t ≡ s = timers_rest s t (length s.inventory.timers) (and_or_first (is_live s) (any_due t s.inventory.timers) (any_engine_due t s.inventory.engines) none) in
    ap (λ (r : Chip). engines_last (watch_turns r t s.held (length s.given.names)) t s.held) timers
    ∙ ap (λ (r : Chip). engines_last r t s.held) (watches_rest s t (length s.given.names))
    ∙ engines_rest s t (length s.inventory.engines) later (and_or_second (is_live s) (any_due t s.inventory.timers) (any_engine_due t s.inventory.engines) none)

dead_timers : (s : Chip) (t n : ℕ) → is_live s ≡ false → timer_turns s t n ≡ s
dead_timers s t n e = timers_rest s t n (ap (λ (b : Bool). b && any_due t s.inventory.timers) e)

dead_watches : (s : Chip) (t : ℕ) (before : List Level) (n : ℕ) → is_live s ≡ false → watch_turns s t before n ≡ s
dead_watches s t before zero e = refl
dead_watches s t before (suc n) e =
    let one : watch_turn s t before n ≡ s = cond-false _ _ s (ap (λ (b : Bool). b && watch_fires (watch_at s.inventory n) (reading before n) (reading s.held n)) e) in
    ap (λ (r : Chip). watch_turn r t before n) (dead_watches s t before n e) ∙ one

dead_engines : (s : Chip) (t : ℕ) (before : List Level) (n : ℕ) → is_live s ≡ false → engine_turns s t before n ≡ s
dead_engines s t before zero e = refl
dead_engines s t before (suc n) e =
    let one : engine_turn s t before n ≡ s = cond-false (is_live s) _ s e in
    ap (λ (r : Chip). engine_turn r t before n) (dead_engines s t before n e) ∙ one

-- a dead chip's step changes nothing but the held levels
pub dead_still : (s : Chip) (t : ℕ) (ls : List Level) → is_live s ≡ false → chip_step s t ls ≡ seeing s ls
dead_still s t ls e =
    ap (λ (r : Chip). engines_last (watch_turns r t s.held (length s.given.names)) t s.held) (dead_timers (seeing s ls) t (length s.inventory.timers) e)
    ∙ ap (λ (r : Chip). engines_last r t s.held) (dead_watches (seeing s ls) t s.held (length s.given.names) e)
    ∙ dead_engines (seeing s ls) t s.held (length s.inventory.engines) e

-- a chip that has a trap is over
pub over_if : (s : Chip) (o : Option Death) → o ≡ s.dead → IfSome o (λ d. IsOver s)
over_if s None e = tt
over_if s (Some d) e =
    let dead : is_live s ≡ false = ap is_live_by (sym e) in
    record { released = λ pin. cond-false (is_live s) _ drives.Z dead; still = λ t ls. dead_still s t ls dead }

-- as many drives as pins
pub drive_count : (s : Chip) → length (chip.drives s) ≡ length s.given.names
drive_count s = length-map-range_with_len (chip_drive s) 0 (length s.given.names)

set_up_fixed : (s : Chip) (f : ℕ) → fixed_of (set_up s f) ≡ fixed_of s
unfolding set_up
set_up_fixed s f = ended_fixed s 0 _

started_fixed : (o : Option ℕ) (s : Chip) → fixed_of (started o s) ≡ fixed_of s
started_fixed None s = refl
started_fixed (Some f) s = set_up_fixed s f

-- what a chip is given stands for good from its start
pub start_given : (m : Module) (init : ℕ) (given : Given) (budget : ℕ) → (start_state m init given budget).given ≡ given
start_given m init given budget =
    let first = made m given budget in
    let s = started m.start first in
    ap (λ (f : Fixed). f.given) (if_fixed (is_live s) (set_up s init) s first (set_up_fixed s init ∙ started_fixed m.start first) (started_fixed m.start first))

pub chip_laws : Laws chip
chip_laws = record {
  holds_levels = λ s t ls input. ap (λ (f : Fixed). f.held) (step_fixed s t ls);
  begins_due = λ s. refl;
  keeps_pins = λ s t ls input. drive_count (chip_step s t ls) ∙ ap (λ (f : Fixed). length f.given.names) (step_fixed s t ls) ∙ sym (drive_count s);
  keeps_contacts = λ s t ls input. refl;
  keeps_valid = λ s t ls input h. refl;
  glides_drives = λ s t v h. ap chip.drives (chip_still s t h);
  glides_contacts = λ s t v h. refl;
  glides_silent = λ s t v h. refl;
}
