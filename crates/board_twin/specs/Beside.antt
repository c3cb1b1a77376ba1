-- A twin on its way: a board, and beside it the chips of a second one, each left behind where it was woken last. No public clause
-- cites this.
use Rattle.std.specs.Prelude.{◌≡◌, ℕ, ◌+◌, ◌<◌, ◌≤◌, List, length, map, Bool, not, ◌||◌, true, false, Option, None, Some, slice_get, slice_index, slice_set, if◌then◌else◌}
use Rattle.std.specs.List.{sum_by}
use Rattle.sim_base.specs.declared.signal.Level.{Level}
use Rattle.sim_base.specs.declared.wiring.Wiring.{Wiring}
use Rattle.part_law.specs.Machine.{IsFirstDue}
use Rattle.part_law.specs.declared.part.Part.{Ghosts}
use Rattle.board_model.specs.Board.{level_at, levels_of, states}
use Rattle.board_model.specs.Rows.{same_list, same_level}
use Rattle.board_model.proofs.Lists.{Done}
use Rattle.law_board.specs.Active.{active_in, active_pairs, sum_below}
use Rattle.law_board.specs.FirstDiff.{Difference, part_diff, stepped_beside, first_beside}
use Rattle.law_board.specs.Stands.{Stands}
use Rattle.law_board.specs.Twin.{chips_before, with_chips}
use Rattle.law_board.specs.Worlds.{is_chip}
use Rattle.board_run.specs.BoardView.{BoardView}
use Rattle.board_run.specs.Lagging.{glided, to_wake, turned}
use Rattle.board_run.specs.ReadingView.{levels_on}
use Rattle.board_twin.specs.declared.beside.Beside.{Beside}
use Rattle.board_twin.specs.declared.chips.Chips.{Chips}
use Rattle.board_twin.specs.Twins.{AreTwins, TwinView, other_states}

abbrev pub view_of : {P : Type 0} → Beside P → TwinView P
view_of b = record { board = b.board; chips = b.chips.parts }

-- there is room for what is kept of the chips
pub record HasRoom {P : Type 0} (b : Beside P) : Type 0 where
  pub levels : length b.chips.levels ≡ b.board.wiring.nets
  pub own : length b.chips.own ≡ length b.board.wiring.net_of

-- the chip of part k among those of the parts that are chips
abbrev pub IsChipOf : {P : Type 0} → Wiring → List P → ℕ → P → Type 0
IsChipOf w chips k q = (is_chip w k ≡ true) × (slice_get chips (chips_before w k) ≡ Some q)

module _ {P : Type 0} (part : Ghosts P) where
  -- where a chip is at cycle t, if nothing comes
  abbrev pub at_cycle : ℕ → P → part.State
  at_cycle t p = glided part.machine part.state part.now part.wakes t p

  -- 1 where a chip in this state is active in cycle t on these levels of its pins, else 0
  abbrev pub wake_in : ℕ → List Level → part.State → ℕ
  wake_in t own s = if part.machine.due s t || not (same_list same_level own (part.machine.held s)) then 1 else 0

  -- A chip that was p is q after its turn in cycle t on these levels of its pins: it was woken, or left as it was.
  pub record TookTurn (t : ℕ) (own : List Level) (p q : P) : Type 0 where
    pub differs : Bool
    pub differs_is : 0 < t → differs ≡ not (same_list same_level own (part.machine.held (part.state p)))
    pub due : Option ℕ
    pub first : IsFirstDue part.machine (part.state p) (part.now p) due
    pub byte : Option ℕ
    pub turn : turned part.machine part.state part.now part.wakes (to_wake due t None differs) t own None p q byte true

  -- a chip that may be left behind up to cycle t, and holds these levels
  pub record IsBehind (t : ℕ) (held : List Level) (p : P) : Type 0 where
    pub stands : Stands part.machine t (part.now p) (part.state p) (at_cycle t p)
    pub count : part.wakes p ≤ part.now p
    pub holds : 0 < t → part.machine.held (part.state p) ≡ held

  -- chip j may have its turn in cycle t, with these nets at its pins
  pub record MayTurnChip (t : ℕ) (nets : List ℕ) (c : Chips P) (j : ℕ) : Type 0 where
    pub p : P
    pub here : slice_get c.parts j ≡ Some p
    pub behind : IsBehind t (map (level_at c.levels) nets) p
    pub pins : length nets ≡ length (part.machine.drives (part.state p))
    pub room : length nets ≤ length c.own

  -- and had it, on these levels
  pub record TurnedChip (t : ℕ) (own : List Level) (j : ℕ) (old new : Chips P) (steps more : ℕ) : Type 0 where
    pub p : P
    pub q : P
    pub here : slice_get old.parts j ≡ Some p
    pub parts : new.parts ≡ slice_set old.parts j q
    pub levels : new.levels ≡ old.levels
    pub own_long : length new.own ≡ length old.own
    pub took : TookTurn t own p q
    pub counted : more ≡ steps + wake_in t own (at_cycle t p)
    pub woken : part.wakes q + steps ≡ part.wakes p + more

  module _ (w : Wiring) where
    -- They can be compared with the chips of these parts.
    pub record AreComparable (parts chips : List P) : Type 0 where
      pub few : length parts ≤ 64
      pub sized : length w.chip ≡ length parts
      pub has : (k : ℕ) → is_chip w k ≡ true → (q : P) × (slice_get chips (chips_before w k) ≡ Some q)
      pub pins : (k : ℕ) (p q : P) → slice_get parts k ≡ Some p → IsChipOf w chips k q → length (part.machine.drives (part.state q)) ≡ length (part.machine.drives (part.state p))

    -- Each part that is a chip has one, which may be left behind up to cycle t and holds the levels that were kept.
    pub record AreBehind (t : ℕ) (c : Chips P) : Type 0 where
      pub has : (k : ℕ) → is_chip w k ≡ true → (q : P) × (slice_get c.parts (chips_before w k) ≡ Some q)
      pub each : (k : ℕ) (q : P) → IsChipOf w c.parts k q → IsBehind t (levels_on part.machine w c.levels k (part.state q)) q
      pub fit : (k : ℕ) (q : P) → IsChipOf w c.parts k q → slice_index w.first_pin k + length (part.machine.drives (part.state q)) ≤ length w.net_of
      pub levels_long : length c.levels ≡ w.nets
      pub own_long : length c.own ≡ length w.net_of

    module _ (ls : List Level) (t : ℕ) (old : Chips P) where
      -- 1 where the chip, if there is one, is woken
      abbrev pub wake_of : ℕ → Option P → ℕ
      wake_of k None = 0
      wake_of k (Some q) = wake_in t (levels_on part.machine w ls k (part.state q)) (at_cycle t q)

      abbrev pub chip_wake : ℕ → ℕ
      chip_wake k = if is_chip w k then wake_of k (slice_get old.parts (chips_before w k)) else 0

      -- chip j had its turn as the chip of a part
      abbrev pub TookAs : ℕ → P → P → Type 0
      TookAs j p q = (k : ℕ) → is_chip w k ≡ true → chips_before w k ≡ j → TookTurn t (levels_on part.machine w ls k (part.state p)) p q

      -- The chips of the parts before part i had their turn in cycle t, and the others are as they were.
      pub record ChipsTurned (i : ℕ) (new : Chips P) (steps more : ℕ) : Type 0 where
        pub done : Done TookAs (chips_before w i) old.parts new.parts
        pub steps_are : more ≡ steps + sum_below i chip_wake
        pub woken : sum_by part.wakes new.parts + steps ≡ sum_by part.wakes old.parts + more

  -- the pairs of a cycle below n and a chip of the second board that is active in it, beside the first board
  module _ (start : TwinView P) where
    abbrev pub own_at : ℕ → List part.State
    own_at t = states part.machine start.board.wiring start.board.inputs (map part.state start.board.parts) 0 t

    abbrev pub beside_at : ℕ → List part.State
    beside_at t = stepped_beside part.machine start.board.wiring start.board.inputs (map part.state start.board.parts) (other_states part.state start) 0 t

    abbrev pub active_beside : ℕ → ℕ → ℕ
    active_beside t k =
        if is_chip start.board.wiring k
        then active_in part.machine start.board.wiring start.board.inputs (levels_of part.machine start.board.wiring (own_at t)) t k (slice_get (beside_at t) k)
        else 0

    abbrev pub beside_pairs : ℕ → ℕ
    beside_pairs n = sum_below n (λ t. sum_below (length (other_states part.state start)) (active_beside t))

    abbrev pub own_pairs : ℕ → ℕ
    own_pairs n = active_pairs part.machine start.board.wiring start.board.inputs (map part.state start.board.parts) 0 n

    -- The first board at its cycle.
    pub record BoardAt (b : BoardView P) : Type 0 where
      pub alive : b.given_up ≡ false
      pub same_wiring : b.wiring ≡ start.board.wiring
      pub same_inputs : b.inputs ≡ start.board.inputs
      pub states_are : map part.state b.parts ≡ own_at b.cycle
      pub woken : sum_by part.wakes b.parts ≡ sum_by part.wakes start.board.parts + own_pairs b.cycle

    -- The second one's chips beside it at cycle t, where nothing differed before.
    pub record ChipsAt (t : ℕ) (c : Chips P) : Type 0 where
      pub behind : AreBehind start.board.wiring t c
      pub stand : (k : ℕ) (q : P) → IsChipOf start.board.wiring c.parts k q → slice_get (beside_at t) k ≡ Some (at_cycle t q)
      -- the board's chips hold the same levels
      pub of_board : 0 < t → (k : ℕ) (s : part.State) → is_chip start.board.wiring k ≡ true → slice_get (own_at t) k ≡ Some s →
          part.machine.held s ≡ levels_on part.machine start.board.wiring c.levels k s
      pub none : first_beside part.machine start.board.wiring start.board.inputs (map part.state start.board.parts) (other_states part.state start) 0 t ≡ None

    -- A twin on its way from its start, with so many wakes of the chips.
    pub record Abreast (b : Beside P) (steps more : ℕ) : Type 0 where
      pub twins : AreTwins part.machine part.state part.now part.wakes start
      pub board : BoardAt b.board
      pub chips : ChipsAt b.board.cycle b.chips
      pub wakes : ℕ
      pub woken : sum_by part.wakes b.chips.parts ≡ sum_by part.wakes start.chips + wakes
      pub most : wakes ≤ beside_pairs b.board.cycle
      pub counted : more ≡ steps + own_pairs b.board.cycle + wakes

  -- from wherever it started
  pub record OnWay (b : Beside P) (more : ℕ) : Type 0 where
    pub start : TwinView P
    pub steps : ℕ
    pub is : Abreast start b steps more

  -- it went on, from wherever it started
  abbrev pub WentOn : Beside P → Beside P → ℕ → ℕ → Type 0
  WentOn old new more most = (start : TwinView P) (steps : ℕ) → Abreast start old steps more → Abreast start new steps most

  -- how its chips drive otherwise in its cycle
  abbrev pub difference_of : Beside P → Option Difference
  difference_of b =
      part_diff part.machine b.board.wiring b.board.cycle 0 (map part.state b.board.parts) (with_chips b.board.wiring (map part.state b.board.parts) (map part.state b.chips.parts))
