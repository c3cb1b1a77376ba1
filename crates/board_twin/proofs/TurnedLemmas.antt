-- The turns of the chips, part by part.
use Rattle.std.proofs.Common.{◌≡◌, ◌≢◌, inl, inr, ℕ, zero, suc, ◌+◌, ◌-◌, ◌<◌, ◌≤◌, List, ◌∙◌, length, map, take, drop, Bool, true, false, Option, None, Some, refl, ap, sym, arith, subst, get_or, length-drop, length-take-le}
use Rattle.std.specs.Prelude.{slice_get, slice_index, slice_set, ◌&&◌, ◌||◌, not, if◌then◌else◌}
use Rattle.std.proofs.lemmas.List.Sums.{sum_by-set}
use Rattle.std.proofs.lemmas.Option.{get_or_from_slice_get, slice_get-get_or, slice_get_within, unwrap_or-slice_get}
use Rattle.std.specs.List.{sum_by}
use Rattle.sim_base.specs.declared.limits.TheConstants.{MOST_CYCLES}
use Rattle.sim_base.specs.declared.signal.Level.{Level}
use Rattle.sim_base.specs.declared.wiring.Wiring.{Wiring}
use Rattle.part_law.specs.Machine.{Machine, Laws, IsFirstDue}
use Rattle.part_law.specs.declared.part.Part.{Ghosts}
use Rattle.board_model.specs.Board.{level_at, own_nets}
use Rattle.board_model.specs.Rows.{same_list, same_level}
use Rattle.board_model.proofs.Lists.{Done, done_more, done_none}
use Rattle.law_board.specs.Active.{sum_below}
use Rattle.law_board.specs.Stands.{Stands}
use Rattle.law_board.specs.Twin.{chips_before}
use Rattle.law_board.specs.Worlds.{is_chip}
use Rattle.law_board.proofs.StandsLaw.{stands_holds}
use Rattle.law_board.proofs.StretchLaw.{levels_are}
use Rattle.board_run.specs.Lagging.{is_at, to_wake}
use Rattle.board_run.specs.ReadingView.{levels_on}
use Rattle.board_run.proofs.NextLemmas.{below_or}
use Rattle.board_run.proofs.TurnLemmas.{due_is}
use Rattle.board_twin.specs.Beside.{AreBehind, ChipsTurned, IsBehind, MayTurnChip, TookAs, TookTurn, TurnedChip, at_cycle, chip_wake, wake_in, wake_of}
use Rattle.board_twin.specs.declared.chips.Chips.{Chips}
use Rattle.board_twin.proofs.DifferenceLemmas.{drop_here}

-- a chip is woken where it is active
pub wakes_where : {S : Type 0} (m : Machine S) (laws : Laws m) (a t : ℕ) (r s : S) (due : Option ℕ) (own : List Level) (differs : Bool) → t < MOST_CYCLES → Stands m t a r s → IsFirstDue m r a due →
    (0 < t → differs ≡ not (same_list same_level own (m.held r))) → to_wake due t None differs ≡ (m.due s t || not (same_list same_level own (m.held s)))
wakes_where m laws a t r s due own differs end stands first is =
    let here : is_at due t ≡ m.due s t = due_is m r s a t due end stands first in
    elim (below_or 0 t) [
      | inl later ↦ rw (here, is later, stands_holds m laws t a r s stands) refl
      | inr start ↦
          let z : t ≡ 0 = omega (arith, start) in
          let yes : m.due s t ≡ true = ap (m.due s) z ∙ laws.begins_due s in
          rw (here, yes) refl
    ]

-- levels of which one differs from those that are held are others
pub other_levels : (own held : List Level) (differs : Bool) → differs ≡ not (same_list same_level own held) → differs ≡ true → held ≢ own
other_levels own held differs is other same =
    let e : same_list same_level own held ≡ true = ap (same_list same_level own) same ∙ levels_are own in
    absurd (let x : false ≡ true = sym (is ∙ ap not e) ∙ other in cc)

pub before_next : (w : Wiring) (i : ℕ) (b : Bool) → is_chip w i ≡ b → chips_before w (i + 1) ≡ chips_before w i + (if b then 1 else 0)
before_next w i b is = let e : i + 1 ≡ suc i = omega arith in ap (chips_before w) e ∙ ap (λ (x : Bool). chips_before w i + (if x then 1 else 0)) is

pub one_most : (b : Bool) → (if b then 1 else 0) ≤ 1
one_most true = omega arith
one_most false = omega arith

pub before_most : (w : Wiring) (k : ℕ) → chips_before w k ≤ k
before_most w zero = omega arith
before_most w (suc k) =
    let n = before_next w k (is_chip w k) refl in
    let e : k + 1 ≡ suc k = omega arith in
    let f = ap (chips_before w) e in
    let m = before_most w k in
    let o = one_most (is_chip w k) in
    omega (arith, n, f, m, o)

before_after : (w : Wiring) (k j : ℕ) → is_chip w k ≡ true → chips_before w k < chips_before w (k + 1 + j)
before_after w k zero is = let e : k + 1 + 0 ≡ k + 1 = omega arith in let n = before_next w k true is in let f = ap (chips_before w) e in omega (arith, n, f)
before_after w k (suc j) is = let e : k + 1 + suc j ≡ suc (k + 1 + j) = omega arith in let n = before_after w k j is in let f = ap (chips_before w) e in omega (arith, n, f)

-- a chip has another place than one of a later part
pub before_below : (w : Wiring) (k i : ℕ) → k < i → is_chip w k ≡ true → chips_before w k < chips_before w i
before_below w k i less is = let e : k + 1 + (i - (k + 1)) ≡ i = omega (arith, less) in subst (λ (x : ℕ). chips_before w k < chips_before w x) e (before_after w k (i - (k + 1)) is)

-- so a place is that of one part
one_place : (w : Wiring) (k i : ℕ) → is_chip w k ≡ true → is_chip w i ≡ true → chips_before w k ≡ chips_before w i → i ≡ k
one_place w k i chip is same = elim (below_or k i) [
  | inl less ↦ absurd (let b = before_below w k i less chip in omega (arith, b, same))
  | inr more ↦ elim (below_or i k) [
    | inl less ↦ absurd (let b = before_below w i k less is in omega (arith, b, same))
    | inr most ↦ omega (arith, more, most)
  ]
]

-- what the wiring tells of a part
pub chip_is : (w : Wiring) (k : ℕ) {b : Bool} (chips : List Bool) → chips ≡ w.chip → get_or chips k false ≡ b → is_chip w k ≡ b
chip_is w k chips same read = unwrap_or-slice_get w.chip k false ∙ ap (λ (l : List Bool). get_or l k false) (sym same) ∙ read

length_own : (w : Wiring) (k n : ℕ) → slice_index w.first_pin k + n ≤ length w.net_of → length (own_nets w k n) ≡ n
length_own w k n room =
    let l = length-drop (slice_index w.first_pin k) w.net_of in
    length-take-le n (drop (slice_index w.first_pin k) w.net_of) (omega (arith, l, room))

-- net by net
pub levels_more : (nets : List ℕ) (i : ℕ) (now before : List Level) (same : Bool) → i < length nets →
    ((same && same_level (level_at now (get_or nets i 0)) (level_at before (get_or nets i 0))) && same_list same_level (map (level_at now) (drop (i + 1) nets)) (map (level_at before) (drop (i + 1) nets)))
    ≡ (same && same_list same_level (map (level_at now) (drop i nets)) (map (level_at before) (drop i nets)))
levels_more nets i now before true inside =
    sym (ap (λ (l : List ℕ). same_list same_level (map (level_at now) l) (map (level_at before) l)) (drop_here nets i (get_or nets i 0) (slice_get-get_or nets i 0 inside)))
levels_more nets i now before false inside = refl

module _ {P : Type 0} (part : Ghosts P) (w : Wiring) (ls : List Level) (t : ℕ) (old : Chips P) (steps : ℕ) where
  abbrev Turns : ℕ → Chips P → ℕ → Type 0
  Turns i new more = ChipsTurned part w ls t old i new steps more

  pub turned_none : Turns 0 old steps
  turned_none = record { done = done_none _ old.parts; steps_are = omega arith; woken = refl }

  one_more : (i : ℕ) → sum_below (i + 1) (chip_wake part w ls t old) ≡ sum_below i (chip_wake part w ls t old) + chip_wake part w ls t old i
  one_more i = let e : i + 1 ≡ suc i = omega arith in ap (λ (x : ℕ). sum_below x (chip_wake part w ls t old)) e

  -- a part that is no chip
  pub turned_skip : (i more : ℕ) (new : Chips P) → Turns i new more → is_chip w i ≡ false → Turns (i + 1) new more
  turned_skip i more new so_far other =
      let place : chips_before w i ≡ chips_before w (i + 1) = (let n = before_next w i false other in omega (arith, n)) in
      let none : chip_wake part w ls t old i ≡ 0 = ap (λ (b : Bool). if b then wake_of part w ls t old i (slice_get old.parts (chips_before w i)) else 0) other in
      let s = so_far.steps_are in
      let sum = one_more i in
      record {
        done = subst (λ (j : ℕ). Done (TookAs part w ls t old) j old.parts new.parts) place so_far.done;
        steps_are = omega (arith, s, none, sum);
        woken = so_far.woken;
      }

  -- the chip of part i, which stands at place j as it was
  module _ (i j more : ℕ) (new : Chips P) (so_far : Turns i new more) (behind : AreBehind part w t old) (is : is_chip w i ≡ true) (place : j ≡ chips_before w i) where
    was : slice_get new.parts j ≡ slice_get old.parts (chips_before w i)
    was = ap (slice_get new.parts) place ∙ so_far.done.rest (chips_before w i) (omega arith)

    -- what is asked for its turn
    pub may_next : new.levels ≡ old.levels → length new.own ≡ length old.own → (q : P) × (slice_get new.parts j ≡ Some q) × MayTurnChip part t (own_nets w i (length (part.machine.drives (part.state q)))) new j
    may_next levels own =
        let q = behind.has i is in
        let here = was ∙ q.1 in
        let fit = behind.fit i q.0 (is, q.1) in
        let pins = length_own w i (length (part.machine.drives (part.state q.0))) fit in
        let long = behind.own_long in (
          q.0,
          here,
          record {
            p = q.0;
            here = here;
            behind = subst (λ (l : List Level). IsBehind part t (levels_on part.machine w l i (part.state q.0)) q.0) (sym levels) (behind.each i q.0 (is, q.1));
            pins = pins;
            room = omega (arith, pins, fit, long, own);
          },
        )

    -- the nets of its pins are lent
    pub nets_next : (p : P) (parts : List P) (firsts net_of : List ℕ) (y : P) (pins : ℕ) → slice_get new.parts j ≡ Some p → parts ≡ new.parts → firsts ≡ w.first_pin → net_of ≡ w.net_of → y ≡ get_or parts j y →
        pins ≡ length (part.machine.drives (part.state y)) → take (get_or firsts i 0 + pins - get_or firsts i 0) (drop (get_or firsts i 0) net_of) ≡ own_nets w i (length (part.machine.drives (part.state p)))
    nets_next p parts firsts net_of y pins here parts_are firsts_are nets_are read count =
        let first : ℕ = get_or firsts i 0 in
        let y_is : y ≡ p = read ∙ ap (λ (xs : List P). get_or xs j y) parts_are ∙ get_or_from_slice_get new.parts j p y here in
        let n : ℕ = length (part.machine.drives (part.state p)) in
        let pins_are : first + pins - first ≡ n = (let c = count ∙ ap (λ (x : P). length (part.machine.drives (part.state x))) y_is in omega (arith, c)) in
        ap (λ (k : ℕ). take k (drop first net_of)) pins_are ∙ ap (λ (l : List ℕ). take n (drop first l)) nets_are ∙ ap (λ (l : List ℕ). take n (drop (get_or l i 0) w.net_of)) firsts_are

    -- and what its turn leaves
    pub turned_more : (next : Chips P) (last : ℕ) (own : List Level) (it : TurnedChip part t own j new next more last) → own ≡ levels_on part.machine w ls i (part.state it.p) → Turns (i + 1) next last
    turned_more next last own it own_is =
        let p = it.p in
        let q = it.q in
        let at : slice_get old.parts (chips_before w i) ≡ Some p = sym was ∙ it.here in
        let took : TookTurn part t (levels_on part.machine w ls i (part.state p)) p q = subst (λ (l : List Level). TookTurn part t l p q) own_is it.took in
        let within = slice_get_within new.parts j p it.here in
        let after : chips_before w i + 1 ≡ chips_before w (i + 1) = sym (before_next w i true is) in
        let parts : slice_set new.parts (chips_before w i) q ≡ next.parts = ap (λ (x : ℕ). slice_set new.parts x q) (sym place) ∙ sym it.parts in
        let done = done_more (TookAs part w ls t old) (chips_before w i) old.parts new.parts p q so_far.done (slice_get_within old.parts (chips_before w i) p at) at
        (λ k chip same. subst (λ (n : ℕ). TookTurn part t (levels_on part.machine w ls n (part.state p)) p q) (one_place w k i chip is same) took) in
        let wake : chip_wake part w ls t old i ≡ wake_in part t (levels_on part.machine w ls i (part.state p)) (at_cycle part t p) =
        ap (λ (b : Bool). if b then wake_of part w ls t old i (slice_get old.parts (chips_before w i)) else 0) is ∙ ap (wake_of part w ls t old i) at in
        let counted = it.counted ∙ ap (λ (l : List Level). more + wake_in part t l (at_cycle part t p)) own_is in
        let s = so_far.steps_are in
        let sum = one_more i in
        record {
          done = subst (λ (x : ℕ). Done (TookAs part w ls t old) x old.parts next.parts) after (subst (λ (l : List P). Done (TookAs part w ls t old) (chips_before w i + 1) old.parts l) parts done);
          steps_are = omega (arith, s, counted, wake, sum);
          woken =
              let set_is = sum_by-set part.wakes new.parts j q p within in
              let now_are = ap (sum_by part.wakes) it.parts in
              let was_is = ap part.wakes (get_or_from_slice_get new.parts j p p it.here) in
              let woken = it.woken in
              let so = so_far.woken in
              omega (arith, set_is, now_are, was_is, woken, so);
        }
