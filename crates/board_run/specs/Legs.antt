-- A board on its way whose parts lag behind: what holds at a cycle, and what a leg of the way does. No public clause cites this.
use Rattle.std.specs.Prelude.{◌≡◌, ◌≢◌, ℕ, ◌+◌, ◌-◌, ◌<◌, ◌≤◌, List, [], length, map, Bool, true, false, Option, None, Some, slice_get}
use Rattle.sim_base.specs.declared.wiring.Wiring.{Wiring}
use Rattle.sim_base.specs.declared.wiring.Input.{Input}
use Rattle.std.specs.Option.{option_to_list}
use Rattle.part_law.specs.Machine.{Machine, glide, dues, sent, IsSame, IsFirstDue}
use Rattle.part_law.specs.declared.part.Went.{Went}
use Rattle.board_model.specs.Board.{input_at, states}
use Rattle.board_model.specs.Rows.{shown_before}
use Rattle.board_model.specs.Fits.{Fits}
use Rattle.law_board.specs.Active.{active_cycles, active_pairs}
use Rattle.board_run.specs.Upcoming.{AreBehind}
use Rattle.board_run.specs.ReadingView.{ReadingView, Suits, IsOf, IsTold, levels_on, shown_at}
use Rattle.board_run.specs.Parts.{AreNone}
use Rattle.board_run.specs.Lagging.{glided, MayTurnAt}

-- what an engine keeps beside the parts
pub record Kept : Type 0 where
  -- where the script goes on
  pub input : ℕ
  -- whether a drive or a contact changed since the nets were resolved
  pub changed : Bool
  -- the first due cycle of each part
  pub dues : List (Option ℕ)
  pub reading : ReadingView
  pub answers : List (Option ℕ)

-- each part stands at the cycle
abbrev pub AreAt : {P : Type 0} → (P → ℕ) → ℕ → List P → Type 0
AreAt {P = P} now t parts = (k : ℕ) (p : P) → slice_get parts k ≡ Some p → now p ≡ t

module _ {S P : Type 0} (m : Machine S) (w : Wiring) (state : P → S) (now wakes : P → ℕ) where
  -- The invariant of the engine at cycle t. The states of the board are `map (glided t) parts`.
  pub record Lags (t : ℕ) (parts : List P) (kept : Kept) : Type 0 where
    pub few : length parts ≤ 64
    pub may : (k : ℕ) → MayTurnAt m state now wakes t parts kept.dues k
    pub valid : (k : ℕ) (p : P) → slice_get parts k ≡ Some p → m.valid (state p) (now p) ≡ true
    pub dues_long : length kept.dues ≡ length parts
    pub answers_long : length kept.answers ≡ length parts
    pub silent : AreNone kept.answers
    pub fits : Fits m w (map state parts)
    pub suits : Suits w kept.reading
    pub fresh : kept.changed ≡ false → IsOf m w (map state parts) kept.reading
    pub told : IsTold m (map state parts) kept.reading.nets
    pub holds : (k : ℕ) (p : P) → slice_get parts k ≡ Some p → 0 < t → m.held (state p) ≡ levels_on m w kept.reading.nets.levels k (state p)

  -- From cycle t to cycle u the parts went on as the board does, and were woken where they are active.
  pub record Leg (inputs : List Input) (t u : ℕ) (old new : List P) (reading after : ReadingView) (steps more : ℕ) : Type 0 where
    pub order : t ≤ u
    pub long : length new ≡ length old
    pub states_are : map (glided m state now wakes u) new ≡ states m w inputs (map (glided m state now wakes t) old) t (u - t)
    pub before_is : shown_before m w inputs (shown_at t reading) (map (glided m state now wakes t) old) t (u - t) ≡ shown_at u after
    pub woken : (k : ℕ) (p q : P) → slice_get old k ≡ Some p → slice_get new k ≡ Some q → wakes q ≡ wakes p + active_cycles m w inputs (map (glided m state now wakes t) old) t (u - t) k
    pub steps_are : more ≡ steps + active_pairs m w inputs (map (glided m state now wakes t) old) t (u - t)

-- A part that was p and lagged behind cycle t went on by itself, to a limit at most; it is q and due at d.
pub record WentBy {S P : Type 0} (m : Machine S) (state : P → S) (now wakes : P → ℕ) (moves : P → ℕ → Bool) (t limit : ℕ) (p q : P) (d : Option ℕ) (went : Went) (steps more : ℕ) : Type 0 where
  pub further : t < went.to
  pub within : went.to ≤ limit
  pub now_is : now q ≡ went.to
  pub state_is : state q ≡ glide m (glided m state now wakes t p) t (went.to - t)
  pub woken_is : wakes q ≡ wakes p + dues m (glided m state now wakes t p) t (went.to - t)
  pub steps_are : more ≡ steps + dues m (glided m state now wakes t p) t (went.to - t)
  pub same : IsSame m (glided m state now wakes t p) t (went.to - t)
  pub sent_is : sent m (glided m state now wakes t p) t (went.to - t) ≡ option_to_list went.byte
  pub silent : sent m (glided m state now wakes t p) t (went.to - t - 1) ≡ []
  pub drives : went.changed ≡ false → m.drives (state q) ≡ m.drives (glided m state now wakes t p)
  pub contacts : went.changed ≡ false → m.contacts (state q) ≡ m.contacts (glided m state now wakes t p)
  pub others : (pin : ℕ) → moves q pin ≡ false → slice_get (m.drives (state q)) pin ≡ slice_get (m.drives (glided m state now wakes t p)) pin
  pub first : IsFirstDue m (state q) (now q) d

-- up to this cycle no part but `who` is due and the script says nothing
pub record IsAlone (inputs : List Input) (dues : List (Option ℕ)) (i who t limit : ℕ) : Type 0 where
  pub here : who < length dues
  pub further : t < limit
  pub others : (k u : ℕ) → k ≢ who → slice_get dues k ≡ Some (Some u) → limit ≤ u
  pub silent : (v k : ℕ) → t ≤ v → v < limit → input_at inputs v k ≡ None
  pub behind : AreBehind inputs i limit
