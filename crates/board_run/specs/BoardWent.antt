-- How a board moved on, as its users see it.
use Rattle.std.specs.Prelude.{◌≡◌, ℕ, ◌+◌, ◌-◌, ◌<◌, ◌≤◌, map, false, Some, slice_get}
use Rattle.part_law.specs.declared.part.Part.{Ghosts}
use Rattle.board_model.specs.Board.{states}
use Rattle.board_model.specs.Rows.{shown_before}
use Rattle.law_board.specs.Active.{active_cycles, active_pairs}
use Rattle.law_board.specs.Steady.{IsSteady}
use Rattle.board_run.specs.BoardView.{BoardView}
use Rattle.board_run.specs.Changes.{LastTells}

module _ {P : Type 0} (part : Ghosts P) (old new : BoardView P) (steps more : ℕ) where
  -- It is at the same cycle or a later one, as the stepped board would be there. Each part was woken in its active cycles, and
  -- `steps` rose by one a wake.
  pub record BoardWent : Type 0 where
    pub from : old.cycle ≤ new.cycle
    pub alive : new.given_up ≡ false
    pub same_wiring : new.wiring ≡ old.wiring
    pub same_inputs : new.inputs ≡ old.inputs
    pub states_are : map part.state new.parts ≡ states part.machine old.wiring old.inputs (map part.state old.parts) old.cycle (new.cycle - old.cycle)
    pub before_is : new.before ≡ shown_before part.machine old.wiring old.inputs old.before (map part.state old.parts) old.cycle (new.cycle - old.cycle)
    pub tells : old.cycle < new.cycle → LastTells part.machine old.wiring old.inputs new.changed (map part.state old.parts) old.cycle (new.cycle - old.cycle)
    pub steps_are : more ≡ steps + active_pairs part.machine old.wiring old.inputs (map part.state old.parts) old.cycle (new.cycle - old.cycle)
    pub woken : (k : ℕ) (p q : P) → slice_get old.parts k ≡ Some p → slice_get new.parts k ≡ Some q
        → part.wakes q ≡ part.wakes p + active_cycles part.machine old.wiring old.inputs (map part.state old.parts) old.cycle (new.cycle - old.cycle) k

  -- And it showed nothing new in the cycles that it passed over.
  pub record RanStill : Type 0 where
    pub went : BoardWent
    pub steady : old.cycle < new.cycle → IsSteady part.machine old.wiring old.inputs (map part.state old.parts) old.cycle (new.cycle - old.cycle)
    pub stays : new.cycle ≡ old.cycle → new.changed ≡ old.changed
