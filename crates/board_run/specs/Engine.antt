-- From where the engine of a board may go on, and what it did on its way. No public clause cites this.
use Rattle.std.specs.Prelude.{[], ◌≡◌, ◌≢◌, ◌⊎◌, ℕ, ◌+◌, ◌-◌, ◌<◌, ◌≤◌, ◌||◌, ◌==◌, List, length, map, take, drop, Bool, true, false, if◌then◌else◌, Option, None, Some, slice_get, slice_set}
use Rattle.std.specs.Option.{is_some}
use Rattle.sim_base.specs.declared.signal.Level.{Level}
use Rattle.sim_base.specs.declared.wiring.Wiring.{Wiring}
use Rattle.sim_base.specs.declared.wiring.Input.{Input}
use Rattle.sim_base.specs.Causes.{Rose}
use Rattle.sim_base.specs.Rows.{Row, Handed, Appends, IsBehind}
use Rattle.sim_base.specs.declared.bench.WriteEnd.{WriteEnd}
use Rattle.sim_base.specs.declared.bench.WriteEnd.TheVariants as writes
use Rattle.sim_base.specs.declared.limits.TheConstants.{MOST_CYCLES}
use Rattle.sim_base.specs.declared.watcher.Watcher.{Ghosts as Watching}
use Rattle.part_law.specs.Machine.{IsFirstDue}
use Rattle.part_law.specs.declared.part.Part.{Ghosts}
use Rattle.board_model.specs.Board.{input_at, bytes}
use Rattle.board_model.specs.Rows.{rows, row_if}
use Rattle.board_model.specs.Fits.{Fits}
use Rattle.law_board.specs.Steady.{IsSteady}
use Rattle.board_run.specs.Changes.{LastTells}
use Rattle.board_run.specs.CutOff.{IsCutOff}
use Rattle.board_run.specs.Upcoming.{AreBehind, IsInOrder}
use Rattle.board_run.specs.ReadingView.{Suits, IsTold, IsRead, levels_on, retold, reread, shown_at}
use Rattle.board_run.specs.Parts.{has_part, AreNone}
use Rattle.board_run.specs.Lagging.{glided, AreLate, MayTurnAt, to_wake, turned, OthersStay, Replaced, Shifted, TookTurn, AreDue, AllTurn, AreCounted}
use Rattle.board_run.specs.Legs.{Kept, Lags, Leg, IsAlone}
use Rattle.board_run.specs.declared.engine.Engine.{Engine}
use Rattle.board_run.specs.declared.part_set.PartSet.{PartSet}
use Rattle.board_run.specs.declared.turn.Woken.{Woken}

-- what joins its parts
abbrev pub wiring_of : {P : Type 0} → Engine P → Wiring
wiring_of e = e.reading.nets.wiring

-- what it keeps beside the parts
abbrev pub kept_of : {P : Type 0} → Engine P → Kept
kept_of e = record { input = e.input; changed = e.changed; dues = e.dues; reading = e.reading; answers = e.answers }

-- the script's values of its cycle, which end before a place
abbrev pub given : {P : Type 0} → Engine P → ℕ → List Input
given e place = take (place - e.input) (drop e.input e.inputs)

-- u is the next cycle from the engine's on, not after n, in which something may happen
pub record IsNext {P : Type 0} (e : Engine P) (n u : ℕ) : Type 0 where
  pub from : e.cycle ≤ u
  pub within : u ≤ n
  pub stays : (e.changed || (e.cycle == 0)) ≡ true → u ≡ e.cycle
  pub late : AreLate e.dues u
  pub silent : (v k : ℕ) → e.cycle ≤ v → v < u → input_at e.inputs v k ≡ None
  pub behind : AreBehind e.inputs e.input u
  pub event : (e.changed || (e.cycle == 0)) ≡ false → u < n → ((k : ℕ) × (slice_get e.dues k ≡ Some (Some u))) ⊎ ((k : ℕ) × (input_at e.inputs u k ≢ None))

-- part `who` may go on by itself up to a limit, not after n
pub record MayStretch {P : Type 0} (e : Engine P) (who limit n : ℕ) : Type 0 where
  pub fresh : e.changed ≡ false
  pub after : 0 < e.cycle
  pub within : limit ≤ n
  pub alone : IsAlone e.inputs e.dues e.input who e.cycle limit

-- the watcher is whole, and the levels of its last row, if there was one, are those that were read
pub record Watches {P W : Type 0} (watcher : Watching W) (e : Engine P) (out : W) : Type 0 where
  pub whole : watcher.whole out ≡ true
  pub later : IsBehind watcher.last watcher.seen out e.cycle e.reading.nets.levels

module _ {P : Type 0} (part : Ghosts P) where
  -- the states at the engine's cycle of the board whose parts lag behind
  abbrev pub states_of : Engine P → List part.State
  states_of e = map (glided part.machine part.state part.now part.wakes e.cycle) e.parts

  -- the rows and bytes of the cycles from there to u
  abbrev pub rows_to : Engine P → ℕ → List Row
  rows_to e u = rows part.machine (wiring_of e) e.inputs (shown_at e.cycle e.reading) (states_of e) e.cycle (u - e.cycle)

  abbrev pub bytes_to : Engine P → ℕ → List ℕ
  bytes_to e u = bytes part.machine (wiring_of e) e.inputs (states_of e) e.cycle (u - e.cycle)

  -- The invariant of the engine.
  pub record MayRun (e : Engine P) : Type 0 where
    pub lags : Lags part.machine (wiring_of e) part.state part.now part.wakes e.cycle e.parts (kept_of e)
    pub behind : AreBehind e.inputs e.input e.cycle
    pub order : IsInOrder e.inputs

  -- The nets were resolved, and those parts differ that have a pin whose level is not the one that they hold.
  pub record MayTurnOn (e : Engine P) (differ : PartSet) : Type 0 where
    pub end : e.cycle < MOST_CYCLES
    pub few : length e.parts ≤ 64
    pub may : (k : ℕ) → MayTurnAt part.machine part.state part.now part.wakes e.cycle e.parts e.dues k
    pub valid : (k : ℕ) (p : P) → slice_get e.parts k ≡ Some p → part.machine.valid (part.state p) (part.now p) ≡ true
    pub dues_long : length e.dues ≡ length e.parts
    pub answers_long : length e.answers ≡ length e.parts
    pub silent : AreNone e.answers
    pub fits : Fits part.machine (wiring_of e) (map part.state e.parts)
    pub suits : Suits (wiring_of e) e.reading
    pub told : IsTold part.machine (map part.state e.parts) e.reading.nets
    pub differs : (k : ℕ) (p : P) → slice_get e.parts k ≡ Some p → has_part differ k ≡ true → 0 < e.cycle
        → part.machine.held (part.state p) ≢ levels_on part.machine (wiring_of e) e.reading.nets.levels k (part.state p)

  -- the levels of a part's pins, which are the first of these
  abbrev pub own_of : P → List Level → List Level
  own_of p levels = take (length (part.machine.drives (part.state p))) levels

  -- Part i may have its turn; it may hear its levels where one of them is not the one that it holds, and no value comes.
  pub record MayTurnPart (e : Engine P) (i : ℕ) (may_hear : Bool) (differ : PartSet) (place : ℕ) : Type 0 where
    pub end : e.cycle < MOST_CYCLES
    pub here : i < length e.parts
    pub few : length e.parts ≤ 64
    pub may : MayTurnAt part.machine part.state part.now part.wakes e.cycle e.parts e.dues i
    pub valid : (p : P) → slice_get e.parts i ≡ Some p → part.machine.valid (part.state p) (part.now p) ≡ true
    pub dues_long : length e.dues ≡ length e.parts
    pub answers_long : length e.answers ≡ length e.parts
    pub given_within : (e.input ≤ place) × (place ≤ length e.inputs)
    pub fits : Fits part.machine (wiring_of e) (map part.state e.parts)
    pub suits : Suits (wiring_of e) e.reading
    pub told : IsTold part.machine (map part.state e.parts) e.reading.nets
    pub differs : (p : P) → slice_get e.parts i ≡ Some p → has_part differ i ≡ true → 0 < e.cycle
        → part.machine.held (part.state p) ≢ levels_on part.machine (wiring_of e) e.reading.nets.levels i (part.state p)
    pub hears : may_hear ≡ true → (has_part differ i ≡ true) × (input_at (given e place) e.cycle i ≡ None) × (slice_get e.answers i ≡ Some None)

  -- A part that was p and due at d had its turn in cycle t, on these levels of its pins; it is q and due at e.
  pub record TurnedTo (t : ℕ) (own : List Level) (input : Option ℕ) (differs : Bool) (p q : P) (d e byte : Option ℕ) (touched : Bool) (steps more : ℕ) : Type 0 where
    pub turn : turned part.machine part.state part.now part.wakes (to_wake d t input differs) t own input p q byte touched
    pub first : IsFirstDue part.machine (part.state q) (part.now q) e
    pub later : (u : ℕ) → e ≡ Some u → t < u
    pub others : touched ≡ true → OthersStay part.machine part.state part.now part.wakes part.moves t p q
    pub steps_are : more ≡ steps + (if to_wake d t input differs then 1 else 0)

  -- Part i had its turn, of which the nets were not told yet.
  pub record TurnedAt (old new : Engine P) (i : ℕ) (differ : PartSet) (place : ℕ) (woken : Woken) (steps more : ℕ) : Type 0 where
    pub p : P
    pub q : P
    pub d : Option ℕ
    pub e : Option ℕ
    pub byte : Option ℕ
    pub was : slice_get old.parts i ≡ Some p
    pub due_was : slice_get old.dues i ≡ Some d
    pub same : new ≡ record old { parts = slice_set old.parts i q; dues = slice_set old.dues i e; answers = slice_set old.answers i byte }
    pub sent_is : woken.sent ≡ is_some byte
    pub turn : TurnedTo old.cycle (levels_on part.machine (wiring_of old) old.reading.nets.levels i (part.state p)) (input_at (given old place) old.cycle i) (has_part differ i) p q d e byte woken.changed steps more

  -- A part of an engine is to be told to its nets: they were told what the parts before it show, and where it did not move it shows the same.
  pub record MayTell (e : Engine P) (i : ℕ) (touched : Bool) : Type 0 where
    pub before : List P
    pub p : P
    pub q : P
    pub replaced : Replaced part.machine (wiring_of e) part.state i before e.parts e.reading.nets p q
    pub suits : Suits (wiring_of e) e.reading
    pub still : touched ≡ false → (part.machine.drives (part.state q) ≡ part.machine.drives (part.state p)) × (part.machine.contacts (part.state q) ≡ part.machine.contacts (part.state p))
    pub others : touched ≡ true → (j : ℕ) → part.moves q j ≡ false → slice_get (part.machine.drives (part.state q)) j ≡ slice_get (part.machine.drives (part.state p)) j

  -- The nets were told of it.
  pub record ToldOf (old new : Engine P) (i : ℕ) (changed : Bool) : Type 0 where
    pub same : new ≡ record old { reading = retold old.reading new.reading.nets.drives new.reading.nets.closed }
    pub fits : Fits part.machine (wiring_of old) (map part.state old.parts)
    pub told : IsTold part.machine (map part.state old.parts) new.reading.nets
    pub shifted : (before : List P) (p q : P) → Replaced part.machine (wiring_of old) part.state i before old.parts old.reading.nets p q → Shifted part.machine part.state p q changed

  -- Part i had its turn, and the nets were told of it.
  pub record TurnedPart (old new : Engine P) (i : ℕ) (differ : PartSet) (place : ℕ) (woken : Woken) (steps more : ℕ) : Type 0 where
    pub p : P
    pub q : P
    pub d : Option ℕ
    pub e : Option ℕ
    pub byte : Option ℕ
    pub was : slice_get old.parts i ≡ Some p
    pub due_was : slice_get old.dues i ≡ Some d
    pub same : new ≡ record old { parts = slice_set old.parts i q; dues = slice_set old.dues i e; answers = slice_set old.answers i byte; reading = retold old.reading new.reading.nets.drives new.reading.nets.closed }
    pub sent_is : woken.sent ≡ is_some byte
    pub fits : Fits part.machine (wiring_of old) (map part.state (slice_set old.parts i q))
    pub told : IsTold part.machine (map part.state (slice_set old.parts i q)) new.reading.nets
    pub took : TookTurn part.machine (wiring_of old) part.state part.now part.wakes old.reading.nets.levels old.cycle i (input_at (given old place) old.cycle i) (has_part differ i) d p q byte woken.changed
    pub first : IsFirstDue part.machine (part.state q) (part.now q) e
    pub later : (u : ℕ) → e ≡ Some u → old.cycle < u
    pub steps_are : more ≡ steps + (if to_wake d old.cycle (input_at (given old place) old.cycle i) (has_part differ i) then 1 else 0)

  -- The parts had their turn in the cycle; the script's values before a place were of it.
  pub record TurnedOn (old new : Engine P) (differ : PartSet) (place : ℕ) (woken : Woken) (steps more : ℕ) : Type 0 where
    pub same : new ≡ record old { parts = new.parts; dues = new.dues; answers = new.answers; reading = retold old.reading new.reading.nets.drives new.reading.nets.closed }
    pub long : length new.parts ≡ length old.parts
    pub dues_long : length new.dues ≡ length old.dues
    pub answers_long : length new.answers ≡ length old.answers
    pub turns : AllTurn part.machine (wiring_of old) part.state part.now part.wakes (given old place) old.reading.nets.levels differ old.cycle old.parts new.parts new.answers woken.changed
    pub told : IsTold part.machine (map part.state new.parts) new.reading.nets
    pub due : AreDue part.machine part.state part.now part.wakes new.parts new.dues
    pub silent : woken.sent ≡ false → AreNone new.answers
    pub counted : AreCounted part.machine (wiring_of old) part.state part.now part.wakes (given old place) old.reading.nets.levels differ old.cycle old.parts steps more

  -- It went on as the board does.
  pub record WentOn (old new : Engine P) (steps more : ℕ) : Type 0 where
    pub may : MayRun new
    pub same_wiring : wiring_of new ≡ wiring_of old
    pub same_inputs : new.inputs ≡ old.inputs
    pub leg : Leg part.machine (wiring_of old) part.state part.now part.wakes old.inputs old.cycle new.cycle old.parts new.parts old.reading new.reading steps more
    pub tells : old.cycle < new.cycle → LastTells part.machine (wiring_of old) old.inputs new.changed (states_of old) old.cycle (new.cycle - old.cycle)

  -- and nothing new was shown
  pub record Rests (old new : Engine P) (steps more : ℕ) : Type 0 where
    pub on : WentOn old new steps more
    pub steady : old.cycle < new.cycle → IsSteady part.machine (wiring_of old) old.inputs (states_of old) old.cycle (new.cycle - old.cycle)
    pub stays : new.cycle ≡ old.cycle → new.changed ≡ old.changed

  -- its parts were brought to its cycle
  pub record Settled (old new : Engine P) : Type 0 where
    pub same : new ≡ record old { parts = new.parts; dues = new.dues }
    pub long : length new.parts ≡ length old.parts
    pub dues_long : length new.dues ≡ length old.dues
    pub each : (k : ℕ) (p q : P) → slice_get old.parts k ≡ Some p → slice_get new.parts k ≡ Some q
        → (part.state q ≡ glided part.machine part.state part.now part.wakes old.cycle p) × (part.now q ≡ old.cycle) × (part.wakes q ≡ part.wakes p)
    pub due : AreDue part.machine part.state part.now part.wakes new.parts new.dues

-- A write failed in the cycle before u.
pub record FailedIn {P W : Type 0} (part : Ghosts P) (watcher : Watching W) (old : Engine P) (u : ℕ) (out after : W) : Type 0 where
  pub v : ℕ
  pub follows : u ≡ v + 1
  pub cut_off : IsCutOff part.machine (wiring_of old) old.inputs (shown_at old.cycle old.reading) (states_of part old) old.cycle v watcher.whole watcher.faults watcher.stands watcher.stopped out after

-- It went on, and what the board shows meanwhile was handed out; or it ended with the cycle in which a write failed.
pub record Showed {P W : Type 0} (part : Ghosts P) (watcher : Watching W) (end : WriteEnd) (old new : Engine P) (steps more : ℕ) (out after : W) : Type 0 where
  pub on : WentOn part old new steps more
  pub ok : end ≡ writes.Ok → Handed watcher.whole watcher.faults watcher.stands out after (rows_to part old new.cycle) (bytes_to part old new.cycle)
      × IsBehind watcher.last watcher.seen after new.cycle new.reading.nets.levels
  pub failed : end ≡ writes.Failed → Rose (watcher.faults out) (watcher.faults after) × FailedIn part watcher old new.cycle out after
  pub place : watcher.place after ≡ watcher.place out

-- The row of its cycle was handed out, if it has one, or writing failed within it; some parts have a pin whose level is another one than before.
pub record ShowedCycle {P W : Type 0} (part : Ghosts P) (watcher : Watching W) (end : WriteEnd) (old new : Engine P) (differ : PartSet) (out after : W) : Type 0 where
  pub same : Bool
  pub rest : new ≡ record old { reading = reread old.reading new.reading }
  pub read : IsRead part.machine (wiring_of old) (map part.state old.parts) old.reading (reread old.reading new.reading) same differ
  pub ok : end ≡ writes.Ok → Handed watcher.whole watcher.faults watcher.stands out after (row_if part.machine (wiring_of old) (shown_at old.cycle old.reading) (map part.state old.parts) old.cycle) []
  pub later : end ≡ writes.Ok → IsBehind watcher.last watcher.seen after (old.cycle + 1) new.reading.nets.levels
  pub failed : end ≡ writes.Failed → Rose (watcher.faults out) (watcher.faults after)
      × Appends (watcher.stands out) (watcher.stopped after) (row_if part.machine (wiring_of old) (shown_at old.cycle old.reading) (map part.state old.parts) old.cycle) []
  pub place : watcher.place after ≡ watcher.place out
