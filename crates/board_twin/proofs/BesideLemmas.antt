-- Chips that were left behind beside a board: over steady cycles in which none is due they sleep, and in a cycle each is woken or sleeps.
use Rattle.std.proofs.Common.{◌≡◌, ℕ, zero, suc, ◌+◌, ◌<◌, ◌≤◌, List, [], ◌∷◌, ◌∙◌, length, map, Bool, true, false, Option, None, Some, refl, ap, sym, arith, subst}
use Rattle.std.specs.Prelude.{slice_get, unwrap_or, not}
use Rattle.std.proofs.lemmas.List.{length-map}
use Rattle.std.proofs.lemmas.Option.{slice_get_within}
use Rattle.sim_base.specs.declared.limits.TheConstants.{MOST_CYCLES}
use Rattle.sim_base.specs.declared.signal.Level.{Level}
use Rattle.sim_base.specs.declared.wiring.Wiring.{Wiring}
use Rattle.sim_base.specs.declared.wiring.Input.{Input}
use Rattle.part_law.specs.Machine.{Machine, Laws, glide, IsQuiet}
use Rattle.part_law.specs.declared.part.Part.{Ghosts}
use Rattle.part_law.proofs.MachineLemmas.{glide_drives, glide_holds, glide_pins}
use Rattle.board_model.specs.Board.{level_at, own_nets, levels_of, input_at, part_step, steps_from, states}
use Rattle.board_model.specs.Rows.{same_list, same_level}
use Rattle.board_model.proofs.Lists.{some_map, some_same}
use Rattle.board_model.proofs.Steps.{get-steps_from, length-states, length-steps_from, pins_of_states, state_before}
use Rattle.law_board.specs.Active.{sum_below}
use Rattle.law_board.specs.FirstDiff.{stepped_beside, first_beside, SamePins}
use Rattle.law_board.specs.Stands.{Stands}
use Rattle.law_board.specs.Steady.{IsSteady}
use Rattle.law_board.specs.Twin.{chips_before}
use Rattle.law_board.specs.Worlds.{is_chip, SameChips}
use Rattle.law_board.proofs.Splits.{states_split, sum_same, sum_split}
use Rattle.law_board.proofs.StandsLaw.{stands_holds, stands_shows}
use Rattle.law_board.proofs.SteadyLaw.{steady_levels, steady_states}
use Rattle.law_board.proofs.TwinLaw.{none_where_same}
use Rattle.board_run.specs.Lagging.{HadTurn}
use Rattle.board_run.specs.ReadingView.{levels_on}
use Rattle.board_run.proofs.TurnLemmas.{had_turn, some_there}
use Rattle.board_twin.specs.Beside.{AreBehind, ChipsTurned, IsChipOf, active_beside, at_cycle, beside_at, beside_pairs, chip_wake, own_at}
use Rattle.board_twin.specs.Twins.{AreTwins, TwinView, other_states}
use Rattle.board_twin.specs.declared.chips.Chips.{Chips}
use Rattle.board_twin.proofs.TurnedLemmas.{before_below}

pub chip_inside : (l : List Bool) (k : ℕ) → unwrap_or (slice_get l k) false ≡ true → k < length l
chip_inside [] k is = absurd cc
chip_inside (b ∷ l) zero is = omega arith
chip_inside (b ∷ l) (suc k) is = omega (arith, chip_inside l k is)

module _ {P : Type 0} (part : Ghosts P) (laws : Laws part.machine) (start : TwinView P) (twins : AreTwins part.machine part.state part.now part.wakes start) where
  abbrev m : Machine part.State
  m = part.machine

  abbrev w : Wiring
  w = start.board.wiring

  abbrev inputs : List Input
  inputs = start.board.inputs

  abbrev xs : List part.State
  xs = map part.state start.board.parts

  abbrev ys : List part.State
  ys = other_states part.state start

  abbrev pub As : ℕ → List part.State
  As t = own_at part start t

  abbrev pub Bs : ℕ → List part.State
  Bs t = beside_at part start t

  pub sized_a : (t : ℕ) → length (As t) ≡ length w.chip
  sized_a t = length-states m w inputs xs 0 t ∙ sym twins.fits.chips

  length-beside : (t : ℕ) → length (Bs t) ≡ length ys
  unfolding stepped_beside
  length-beside zero = refl
  length-beside (suc t) = (simp length-map refl) ∙ length-steps_from m w inputs (levels_of m w (As t)) (0 + t) 0 (Bs t) ∙ length-beside t

  pub sized_b : (t : ℕ) → length (Bs t) ≡ length w.chip
  sized_b t = length-beside t ∙ sym twins.pins.long ∙ sym twins.fits.chips

  pub a_at : (t k : ℕ) → is_chip w k ≡ true → (s : part.State) × (slice_get (As t) k ≡ Some s)
  a_at t k is = some_there (As t) k (let l = chip_inside w.chip k is in let z = sized_a t in omega (arith, l, z))

  -- more cycles have no fewer pairs
  pub pairs_rise : (a b : ℕ) → beside_pairs part start a ≤ beside_pairs part start (a + b)
  pairs_rise a b = let e = sum_split m w inputs (λ t. sum_below (length ys) (active_beside part start t)) a b in omega (arith, e)

  -- a part beside the board takes its step on the levels of that
  beside_next : (t k : ℕ) (s : part.State) → slice_get (Bs t) k ≡ Some s → slice_get (Bs (suc t)) k ≡ Some (part_step m w inputs (levels_of m w (As t)) t k s).0
  unfolding stepped_beside
  beside_next t k s e =
      let z : 0 + t ≡ t = omega arith in
      let ls : List Level = levels_of m w (As t) in
      rw z (some_map (λ (r : part.State × Option ℕ). r.0) (steps_from m w inputs ls t 0 (Bs t)) k _ (get-steps_from m w inputs ls t k (Bs t) s e))

  -- and keeps its pins
  kept : (k : ℕ) (y : part.State) → slice_get ys k ≡ Some y → (t : ℕ) → (s : part.State) × (slice_get (Bs t) k ≡ Some s) × (length (m.drives s) ≡ length (m.drives y))
  unfolding stepped_beside
  kept k y e zero = (y, e, refl)
  kept k y e (suc t) = let f = kept k y e t in (_, beside_next t k f.0 f.1, laws.keeps_pins f.0 t _ _ ∙ f.2)

  pub pins_beside : (t : ℕ) → SamePins m w (As t) (Bs t)
  pins_beside t = record {
    long = sized_a t ∙ sym (sized_b t);
    each = λ k a b ea eb is.
        let x = state_before m w inputs xs 0 t k a ea in
        let y = some_there ys k (let l = slice_get_within (Bs t) k b eb in let z = length-beside t in omega (arith, l, z)) in
        let s = kept k y.0 y.1 t in
        pins_of_states m w inputs laws xs 0 t k x.0 a x.1 ea ∙ twins.pins.each k x.0 y.0 x.1 y.1 is ∙ sym s.2 ∙ ap (λ (u : part.State). length (m.drives u)) (some_same (sym s.1 ∙ eb));
  }

  -- a chip in state s beside the board at cycle c, which is not due in the n cycles from c on and holds the levels of its pins
  pub record Sleeps (c n k : ℕ) (s : part.State) : Type 0 where
    pub at : slice_get (Bs c) k ≡ Some s
    pub valid : m.valid s c ≡ true
    pub quiet : IsQuiet m s c n
    pub held : m.held s ≡ levels_on m w (levels_of m w (As c)) k s

  -- over steady cycles of the board
  module _ (c n : ℕ) (steady : IsSteady m w inputs (As c) c n) where
    later : (t : ℕ) → As (c + t) ≡ states m w inputs (As c) c t
    later t = let z : 0 + c ≡ c = omega arith in states_split m w inputs xs 0 c t ∙ ap (λ (v : ℕ). states m w inputs (As c) v t) z

    levels_stay : (t : ℕ) → t < n → levels_of m w (As (c + t)) ≡ levels_of m w (As c)
    levels_stay t l = ap (levels_of m w) (later t) ∙ sym (steady_levels m laws w inputs (As c) c n steady t l)

    pub beside_glides : (k : ℕ) (s : part.State) → Sleeps c n k s → (t : ℕ) → t ≤ n → slice_get (Bs (c + t)) k ≡ Some (glide m s c t)
    beside_glides k s is zero l = let z : c + 0 ≡ c = omega arith in ap (λ (i : ℕ). slice_get (Bs i) k) z ∙ is.at
    beside_glides k s is (suc t) l =
        let u : c + suc t ≡ suc (c + t) = omega arith in
        let x : part.State = glide m s c t in
        let own : levels_on m w (levels_of m w (As (c + t))) k x ≡ m.held x =
        rw (levels_stay t (omega (arith, l)), glide_pins m laws s c t) (sym is.held ∙ sym (glide_holds m laws s c t)) in
        ap (λ (i : ℕ). slice_get (Bs i) k) u ∙ beside_next (c + t) k x (beside_glides k s is t (omega (arith, l)))
        ∙ ap (λ (ls : List Level). Some (m.step x (c + t) ls (input_at inputs (c + t) k)).0) own
        ∙ ap (λ (o : Option ℕ). Some (m.step x (c + t) (m.held x) o).0) (steady.silent t k (omega (arith, l)))

    module _ (sleep : (k : ℕ) → is_chip w k ≡ true → (s : part.State) × Sleeps c n k s) (same : SameChips m w (As c) (Bs c)) where
      chips_same : (t : ℕ) → t < n → SameChips m w (As (c + t)) (Bs (c + t))
      chips_same t l = record {
        long = (pins_beside (c + t)).long;
        each = λ k a b ea eb is.
            let s = sleep k is in
            let a0 = a_at c k is in
            let at_a : slice_get (states m w inputs (As c) c t) k ≡ Some a = ap (λ (l : List part.State). slice_get l k) (sym (later t)) ∙ ea in
            let one : m.drives a ≡ m.drives a0.0 = ap m.drives ((steady_states m laws w inputs (As c) c n steady t (omega (arith, l))).each k a0.0 a a0.1 at_a) ∙ (steady.same k a0.0 a0.1).same_drives t l in
            let other : m.drives b ≡ m.drives s.0 =
            ap m.drives (some_same (sym eb ∙ beside_glides k s.0 s.1 t (omega (arith, l)))) ∙ glide_drives m laws s.0 c t s.1.valid (λ i (h : i < t). s.1.quiet i (omega (arith, h, l))) in
            one ∙ same.each k a0.0 s.0 a0.1 s.1.at is ∙ sym other;
      }

      -- no difference comes in it
      pub none_in : first_beside m w inputs xs ys 0 c ≡ None → (t : ℕ) → t ≤ n → first_beside m w inputs xs ys 0 (c + t) ≡ None
      unfolding first_beside
      none_in none zero l = let e : c + 0 ≡ c = omega arith in ap (first_beside m w inputs xs ys 0) e ∙ none
      none_in none (suc t) l =
          let e : c + suc t ≡ suc (c + t) = omega arith in
          rw (e, none_in none t (omega (arith, l))) (none_where_same m w (0 + (c + t)) (As (c + t)) (Bs (c + t)) (chips_same t (omega (arith, l))))

  -- A cycle in which the chips had their turns.
  module _ (t : ℕ) (old new : Chips P) (steps more : ℕ) (end : t < MOST_CYCLES) (turned : ChipsTurned part w (levels_of m w (As t)) t old (length w.chip) new steps more)
      (behind : AreBehind part w t old) (stand : (k : ℕ) (q : P) → IsChipOf w old.parts k q → slice_get (Bs t) k ≡ Some (at_cycle part t q)) where
    abbrev ls : List Level
    ls = levels_of m w (As t)

    up : suc t ≡ t + 1
    up = omega arith

    pins_there : (k : ℕ) (p : P) → IsChipOf w old.parts k p → length (m.drives (part.state p)) ≡ length (m.drives (at_cycle part t p))
    pins_there k p of = ap length (stands_shows m laws t (part.now p) (part.state p) (at_cycle part t p) (behind.each k p of).stands).drives

    had : (k : ℕ) (q : P) → IsChipOf w new.parts k q → (p : P) × IsChipOf w old.parts k p × (byte : Option ℕ) × HadTurn m w inputs part.state part.now part.wakes ls t k p q (at_cycle part t p) byte true
    had k q of =
        let x = behind.has k of.0 in
        let p = x.0 in
        let s = at_cycle part t p in
        let b = behind.each k p (of.0, x.1) in
        let took = turned.done.each (chips_before w k) p q (before_below w k (length w.chip) (chip_inside w.chip k of.0) of.0) x.1 of.1 k of.0 refl in
        let own : levels_on m w ls k (part.state p) ≡ levels_on m w ls k s = ap (λ (n : ℕ). map (level_at ls) (own_nets w k n)) (pins_there k p (of.0, x.1)) in (
          p,
          (of.0, x.1),
          took.byte,
          had_turn m laws w inputs part.state part.now part.wakes ls t k p q s took.due None took.byte (levels_on m w ls k (part.state p)) took.differs true end
              (record { not_later = b.stands.not_later; count = b.count; quiet = b.stands.quiet; first = took.first }) b.stands own
              (λ later. took.differs_is later ∙ ap (λ (l : List Level). not (same_list same_level l (m.held (part.state p)))) own
              ∙ ap (λ (l : List Level). not (same_list same_level (levels_on m w ls k s) l)) (sym (stands_holds m laws t (part.now p) (part.state p) s b.stands)))
              (sym (twins.unscripted t k of.0)) took.turn,
        )

    pub stand_next : (k : ℕ) (q : P) → IsChipOf w new.parts k q → slice_get (Bs (t + 1)) k ≡ Some (at_cycle part (t + 1) q)
    stand_next k q of =
        let h = had k q of in
        ap (λ (v : ℕ). slice_get (Bs v) k) (sym up) ∙ beside_next t k (at_cycle part t h.0) (stand k h.0 h.1) ∙ ap Some h.3.stands.is

    pub behind_next : new.levels ≡ ls → length ls ≡ w.nets → length new.own ≡ length old.own → AreBehind part w (t + 1) new
    behind_next are long room = record {
      has = λ k is.
          let p = behind.has k is in
          some_there new.parts (chips_before w k) (let l = slice_get_within old.parts (chips_before w k) p.0 p.1 in let n = turned.done.long in omega (arith, l, n));
      each = λ k q of.
          let h = had k q of in
          let s = at_cycle part t h.0 in
          let st = h.3.stands in
          let pins = ap length (stands_shows m laws (t + 1) (part.now q) (part.state q) _ st).drives ∙ laws.keeps_pins s t _ _ in
          record {
            stands = subst (λ (x : part.State). Stands m (t + 1) (part.now q) (part.state q) x) st.is st;
            count = h.3.count;
            holds = λ _.
                sym (stands_holds m laws (t + 1) (part.now q) (part.state q) _ st) ∙ laws.holds_levels s t _ _ ∙ ap (λ (n : ℕ). map (level_at ls) (own_nets w k n)) (sym pins)
                ∙ ap (λ (l : List Level). levels_on m w l k (part.state q)) (sym are);
          };
      fit = λ k q of.
          let h = had k q of in
          let pins = ap length (stands_shows m laws (t + 1) (part.now q) (part.state q) _ h.3.stands).drives ∙ laws.keeps_pins (at_cycle part t h.0) t _ _ in
          let there = pins_there k h.0 h.1 in
          let fit = behind.fit k h.0 h.1 in
          omega (arith, pins, there, fit);
      levels_long = ap length are ∙ long;
      own_long = room ∙ behind.own_long;
    }

    count_at : (k : ℕ) → chip_wake part w ls t old k ≡ active_beside part start t k
    count_at k = go (is_chip w k) refl
      where
        go : (b : Bool) → is_chip w k ≡ b → chip_wake part w ls t old k ≡ active_beside part start t k
        go false none = rw none refl
        go true is =
            let p = behind.has k is in
            rw (is, p.1, stand k p.0 (is, p.1), pins_there k p.0 (is, p.1), twins.unscripted t k is) refl

    pub counted : more + beside_pairs part start t ≡ steps + beside_pairs part start (t + 1)
    counted =
        let same = sum_same m w inputs (length w.chip) (chip_wake part w ls t old) (active_beside part start t) count_at in
        let all : length ys ≡ length w.chip = sym twins.pins.long ∙ sym twins.fits.chips in
        let sum = ap (λ (n : ℕ). sum_below n (active_beside part start t)) all in
        let s = turned.steps_are in
        let f : beside_pairs part start (t + 1) ≡ beside_pairs part start t + sum_below (length ys) (active_beside part start t) = ap (beside_pairs part start) (sym up) in
        omega (arith, same, sum, s, f)
