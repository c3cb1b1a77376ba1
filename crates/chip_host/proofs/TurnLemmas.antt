-- The turns of a chip's cycle, and what they leave of what its pins drive.
use Rattle.std.proofs.Common.{◌≡◌, ◌<◌, ◌≤◌, ◌+◌, ◌-◌, ℕ, zero, suc, Bool, true, false, List, length, ◌++◌, Option, None, Some, refl, ap, sym, subst, ◌∙◌, arith}
use Rattle.std.specs.Prelude.{◌&&◌, if◌then◌else◌, slice_get, slice_set}
use Rattle.sim_base.specs.declared.signal.Level.{Level}
use Rattle.chip_engines.specs.declared.engine.Engine.{Engine}
use Rattle.slave_request.specs.declared.request.EngineRequest.{EngineRequest}
use Rattle.wasm_exec.specs.Instances.{Running}
use Rattle.std.specs.Option.{is_some, option_to_list}
use Rattle.chip_engines.specs.declared.engine.Turn.{Turn}
use Rattle.chip_engines.specs.Engine.{HasNone, engine_turned}
use Rattle.chip_engines.specs.Turned.{HasTurnedAt}
use Rattle.chip_engines.proofs.EngineLemmas.{set_same}
use Rattle.chip_host.specs.declared.death.Death.{Death}
use Rattle.chip_host.specs.declared.watch.Watch.{Watch}
use Rattle.chip_host.specs.Turned.{HasGone, HasTurned}
use Rattle.part_law.specs.Spans.{IsIn}
use Rattle.chip_host.specs.Shown.{moved_span}
use Rattle.chip_host.proofs.MovedLemmas.{set_there, turned_but}
use Rattle.chip_host.specs.Inventory.{HostState, joined, left, watch_at, engine_at}
use Rattle.chip_host.specs.Chip.{Chip, ChipAt, chip_from, chip_drive, is_live_by, is_live, with_engine, all_served, takes_turn, engine_turn, engine_turns, engines_last, reading, watch_fires, watched, watch_turn, watch_turns}

if_same : {X : Type 0} (b : Bool) (x : X) → (if b then x else x) ≡ x
if_same true x = refl
if_same false x = refl

-- where nothing stands, nothing is found
pub none_found : {X : Type 0} (os : List (Option X)) (k : ℕ) → HasNone os k → joined (slice_get os k) ≡ None
none_found {X = X} os k none = by (slice_get os k) refl
  where
    by : (o : Option (Option X)) → slice_get os k ≡ o → joined o ≡ None
    by None e = refl
    by (Some None) e = refl
    by (Some (Some g)) e = absurd (none g e)

no_turn : (s : Chip) (t : ℕ) (before : List Level) (k : ℕ) → engine_at s.inventory k ≡ None → engine_turn s t before k ≡ s
no_turn s t before k none = ap (λ (o : Option Engine). if is_live s then takes_turn s t before k o else s) none ∙ if_same (is_live s) s

no_watch : (s : Chip) (t : ℕ) (before : List Level) (i : ℕ) → watch_at s.inventory i ≡ None → watch_turn s t before i ≡ s
no_watch s t before i none =
    ap (λ (o : Option Watch). if is_live s && watch_fires o (reading before i) (reading s.held i) then watched s t i o else s) none ∙ if_same (is_live s && false) s

-- where no pin has a watch, the turns of the watches leave all as it is
pub unwatched : (s : Chip) (t : ℕ) (before : List Level) (n : ℕ) → ((i : ℕ) → watch_at s.inventory i ≡ None) → watch_turns s t before n ≡ s
unwatched s t before zero none = refl
unwatched s t before (suc n) none = ap (λ (r : Chip). watch_turn r t before n) (unwatched s t before n none) ∙ no_watch s t before n (none n)

skipped_by : (s : Chip) (t : ℕ) (before : List Level) (j n : ℕ) → ((k : ℕ) → n ≤ k → k < j + n → engine_at (engine_turns s t before n).inventory k ≡ None) → engine_turns s t before (j + n) ≡ engine_turns s t before n
skipped_by s t before zero n none = let e : 0 + n ≡ n = omega arith in ap (engine_turns s t before) e
skipped_by s t before (suc j) n none =
    let e : suc j + n ≡ suc (j + n) = omega arith in
    ap (engine_turns s t before) e
    ∙ ap (λ (r : Chip). engine_turn r t before (j + n)) (skipped_by s t before j n (λ k l (h : k < j + n). none k l (omega (arith, h))))
    ∙ no_turn (engine_turns s t before n) t before (j + n) (none (j + n) (omega arith) (omega arith))

-- places at which no engine stands have no turn
pub skipped : (s : Chip) (t : ℕ) (before : List Level) (n m : ℕ) → n ≤ m → ((k : ℕ) → n ≤ k → k < m → engine_at (engine_turns s t before n).inventory k ≡ None) → engine_turns s t before m ≡ engine_turns s t before n
skipped s t before n m l none =
    let e : m ≡ (m - n) + n = omega (arith, l) in
    ap (engine_turns s t before) e ∙ skipped_by s t before (m - n) n (λ k a (b : k < (m - n) + n). none k a (omega (arith, l, b)))

-- behind the turns of the places up to one
abbrev pub behind : ChipAt → ℕ → ChipAt
behind a n = record a { chip = engine_turns a.chip a.cycle a.before n }

pub none_behind : (a : ChipAt) (n : ℕ) → ((k : ℕ) → 0 ≤ k → k < n → engine_at a.chip.inventory k ≡ None) → a ≡ behind a n
none_behind a n none = ap (λ (s : Chip). record a { chip = s }) (sym (skipped a.chip a.cycle a.before 0 n (omega arith) none))

pub more_behind : (a b c : ChipAt) (n m : ℕ) → b ≡ behind a n → c ≡ record b { chip = engine_turn b.chip b.cycle b.before n } → n + 1 ≤ m → ((k : ℕ) → n + 1 ≤ k → k < m → engine_at c.chip.inventory k ≡ None) → c ≡ behind a m
more_behind a b c n m first turn l none =
    let next : c ≡ behind a (suc n) = turn ∙ ap (λ (x : ChipAt). record x { chip = engine_turn x.chip x.cycle x.before n }) first in
    next
    ∙ ap (λ (s : Chip). record a { chip = s })
    (sym (skipped a.chip a.cycle a.before (suc n) m (omega (arith, l)) (λ k (g : suc n ≤ k) h. subst (λ (x : ChipAt). engine_at x.chip.inventory k ≡ None) next (none k (omega (arith, g)) h))))

pub all_behind : (a b : ChipAt) (n : ℕ) → b ≡ behind a n → 24 ≤ n → n ≤ 24 → length a.chip.inventory.engines ≡ 24 → b ≡ record a { chip = engines_last a.chip a.cycle a.before }
all_behind a b n e l h count =
    let all : n ≡ length a.chip.inventory.engines = omega (arith, l, h, count) in
    e ∙ ap (behind a) all

-- ---- the turn of the engine at a place, as the host takes it

-- the turn that is taken at its place
pub turned_at : (h : HostState) (place : ℕ) (before : List Level) (o p : Option Engine) (r : Option Turn) → slice_get h.inventory.engines place ≡ Some o → HasTurnedAt h.moment.now before h.moment.levels o p r
    → HasTurned place before h (left h (record h.inventory { engines = slice_set h.inventory.engines place p })) r
turned_at h place before o p None at turned =
    let same : slice_set h.inventory.engines place p ≡ h.inventory.engines =
    ap (slice_set h.inventory.engines place) (turned.1 ∙ sym turned.0) ∙ set_same h.inventory.engines place o at in
    (ap (λ (os : List (Option Engine)). left h (record h.inventory { engines = os })) same, ap joined at ∙ turned.0)
turned_at h place before o p (Some turn) at turned = (
  turned.0,
  ap joined at ∙ turned.1,
  record { host = ap (λ (q : Option Engine). left h (record h.inventory { engines = slice_set h.inventory.engines place q })) turned.2; told = turned.3 },
)

abbrev pub at_host : Running → HostState → ℕ → Option Death → ℕ → List Level → ChipAt
at_host m h budget dead wakes before = record { chip = chip_from m h budget dead; cycle = h.moment.now; wakes = wakes; before = before }

abbrev pub taking : ChipAt → ℕ → ChipAt
taking a place = record a { chip = engine_turn a.chip a.cycle a.before place }

pub alive : (d : Option Death) → false ≡ is_some d → is_live_by d ≡ true
alive None e = refl
alive (Some x) e = absurd cc

module _ (m : Running) (h r : HostState) (budget : ℕ) (dead : Option Death) (wakes : ℕ) (before : List Level) (place : ℕ) (live : is_live_by dead ≡ true) where
  live_turn : (o : Option Engine) → engine_at h.inventory place ≡ o → engine_turn (chip_from m h budget dead) h.moment.now before place ≡ takes_turn (chip_from m h budget dead) h.moment.now before place o
  live_turn o at =
      let s : Chip = chip_from m h budget dead in
      ap (λ (b : Bool). if b then takes_turn s h.moment.now before place (engine_at s.inventory place) else s) live ∙ ap (takes_turn s h.moment.now before place) at

  pub goes_on : (e : Engine) (turn : Turn) → engine_at h.inventory place ≡ Some e → HasGone place before h r e turn
      → record (at_host m r budget dead wakes before) { chip = all_served (chip_from m r budget dead) r.moment.now place (option_to_list turn.first ++ option_to_list turn.second) } ≡ taking (at_host m h budget dead wakes before) place
  goes_on e turn at gone =
      let s : Chip = chip_from m h budget dead in
      let next : HostState → ChipAt = λ (x : HostState). record (at_host m x budget dead wakes before) { chip = all_served (chip_from m x budget dead) x.moment.now place (option_to_list turn.first ++ option_to_list turn.second) } in
      let g : Engine = (engine_turned e h.moment.now before h.moment.levels).0 in
      ap next gone.host
      ∙ ap (λ (rs : List EngineRequest). record (at_host m h budget dead wakes before) { chip = all_served (with_engine s place g) h.moment.now place rs }) gone.told.asks
      ∙ sym (ap (λ (x : Chip). record (at_host m h budget dead wakes before) { chip = x }) (live_turn (Some e) at))

  -- the pins that an engine's turn leaves alone
  pub goes_but : (e : Engine) (turn : Turn) → engine_at h.inventory place ≡ Some e → HasGone place before h r e turn → (i : ℕ) → i < 64 → ¬ IsIn (moved_span turn.moved (engine_at r.inventory place)) i → chip_drive (chip_from m r budget dead) i ≡ chip_drive (chip_from m h budget dead) i
  goes_but e turn at gone i l out =
      let s : Chip = chip_from m h budget dead in
      let g : Engine = (engine_turned e h.moment.now before h.moment.levels).0 in
      let there : engine_at r.inventory place ≡ Some g = ap (λ (x : HostState). engine_at x.inventory place) gone.host ∙ set_there s place e g at in
      ap (λ (x : HostState). chip_drive (chip_from m x budget dead) i) gone.host
      ∙ turned_but s place e g turn.moved i at gone.told.drives l (subst (λ (o : Option Engine). ¬ IsIn (moved_span turn.moved o) i) there out) refl

  pub goes_none : r ≡ h → engine_at h.inventory place ≡ None → at_host m r budget dead wakes before ≡ taking (at_host m h budget dead wakes before) place
  goes_none same at =
      ap (λ (x : HostState). at_host m x budget dead wakes before) same ∙ sym (ap (λ (x : Chip). record (at_host m h budget dead wakes before) { chip = x }) (live_turn None at))
