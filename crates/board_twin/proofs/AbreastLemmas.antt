-- A twin goes on by steady cycles or by one cycle, and what it is answered with at its end.
use Rattle.std.proofs.Common.{◌≡◌, ℕ, zero, suc, ◌+◌, ◌-◌, ◌<◌, List, ◌∙◌, length, map, true, Option, None, Some, refl, ap, sym, arith, subst}
use Rattle.std.specs.Prelude.{slice_get, if◌then◌else◌}
use Rattle.std.specs.Option.{option_or}
use Rattle.std.proofs.lemmas.List.{length-map}
use Rattle.sim_base.specs.declared.limits.TheConstants.{MOST_CYCLES}
use Rattle.sim_base.specs.declared.signal.Level.{Level}
use Rattle.sim_base.specs.declared.wiring.Wiring.{Wiring}
use Rattle.sim_base.specs.declared.wiring.Input.{Input}
use Rattle.part_law.specs.Machine.{Machine, Laws, glide, IsQuiet}
use Rattle.part_law.specs.declared.part.Part.{Ghosts}
use Rattle.part_law.proofs.MachineLemmas.{glide_holds, glide_pins}
use Rattle.board_model.specs.Board.{level_at, own_nets, levels_of, states}
use Rattle.board_model.specs.Resolve.{resolve}
use Rattle.board_model.specs.Rows.{Shown, shown_of, shown_before}
use Rattle.board_model.proofs.Lists.{length-below, some_map, some_same}
use Rattle.board_model.proofs.Steps.{length-states}
use Rattle.law_board.specs.Active.{active_in, active_at, active_pairs}
use Rattle.law_board.specs.FirstDiff.{Difference, part_diff, stepped_beside, first_beside, first_diff}
use Rattle.law_board.specs.Steady.{IsSteady}
use Rattle.law_board.specs.Twin.{chips_before, with_chips}
use Rattle.law_board.specs.Worlds.{is_chip, SameRest}
use Rattle.law_board.proofs.ActiveLaw.{held_before}
use Rattle.law_board.proofs.FirstDiffLaw.{beside_sees, rest_same, rest_until, same_chips}
use Rattle.law_board.proofs.Splits.{states_split, pairs_split, sum_same}
use Rattle.law_board.specs.Stands.{Stands}
use Rattle.law_board.proofs.StandsLaw.{stands_here, stands_holds, stands_shows, stands_valid}
use Rattle.law_board.proofs.SteadyLaw.{steady_states}
use Rattle.law_board.proofs.TwinLaw.{beside_active}
use Rattle.law_board.proofs.WithChips.{rest_with_chips, get-with_chips}
use Rattle.board_run.specs.BoardView.{BoardView}
use Rattle.board_run.specs.BoardWent.{BoardWent}
use Rattle.board_run.specs.ReadingView.{levels_on}
use Rattle.board_run.proofs.LegLemmas.{quiet_rest, stands_later}
use Rattle.board_run.proofs.StepLemmas.{fits_pins}
use Rattle.board_twin.specs.Beside.{Abreast, AreBehind, AreComparable, BoardAt, ChipsAt, ChipsTurned, HasRoom, IsChipOf, active_beside, at_cycle, beside_at, beside_pairs, difference_of, own_at, own_pairs, view_of}
use Rattle.board_twin.specs.Twins.{AreTwins, HaveNoContacts, IsTwin, TwinView, differs, end_of, chip_pairs, other_states, wakes_in}
use Rattle.board_twin.specs.declared.beside.Beside.{Beside}
use Rattle.board_twin.specs.declared.chips.Chips.{Chips}
use Rattle.board_twin.specs.declared.twin.TwinEnd.TheVariants as ends
use Rattle.board_twin.proofs.DifferenceLemmas.{by_drives}
use Rattle.board_twin.proofs.WakesLemmas.{board_woken}
use Rattle.board_twin.proofs.BesideLemmas.{Sleeps, a_at, behind_next, beside_glides, chip_inside, counted, none_in, pairs_rise, pins_beside, sized_a, sized_b, stand_next}

module _ {S : Type 0} (m : Machine S) (w : Wiring) (ss : List S) where
  -- what the cycle before showed, after one
  pub shown_once : (inputs : List Input) (t c : ℕ) (before : Option Shown) → c ≡ t → shown_before m w inputs before ss c (t + 1 - c) ≡ Some (shown_of m w ss)
  unfolding shown_before states
  shown_once inputs t c before at = let e : t + 1 - c ≡ 1 = omega (arith, at) in ap (shown_before m w inputs before ss c) e

  pub length_levels : length (levels_of m w ss) ≡ w.nets
  unfolding resolve
  length_levels = simp length-map (length-below w.nets)

module _ {P : Type 0} (part : Ghosts P) (laws : Laws part.machine) (start : TwinView P) where
  abbrev m : Machine part.State
  m = part.machine

  abbrev w : Wiring
  w = start.board.wiring

  abbrev inputs : List Input
  inputs = start.board.inputs

  abbrev xs : List part.State
  xs = map part.state start.board.parts

  abbrev ys : List part.State
  ys = other_states part.state start

  abbrev A : ℕ → List part.State
  A t = own_at part start t

  abbrev B : ℕ → List part.State
  B t = beside_at part start t

  -- a twin at its start
  pub abreast_start : (chips : Chips P) (steps : ℕ) → AreTwins m part.state part.now part.wakes start → start.board.cycle ≡ 0 → chips.parts ≡ start.chips →
      length chips.levels ≡ w.nets → length chips.own ≡ length w.net_of → Abreast part start (record { board = start.board; chips = chips }) steps steps
  unfolding states stepped_beside first_beside
  abreast_start chips steps twins zero_cycle are nets room =
      subst (λ (n : ℕ). Abreast part start (record { board = record (start.board) { cycle = n }; chips = chips }) steps steps) (sym zero_cycle)
      (subst (λ (l : List P). Abreast part start (record { board = record (start.board) { cycle = 0 }; chips = record chips { parts = l } }) steps steps) (sym are) at_start)
    where
      at : (k : ℕ) (q : P) → IsChipOf w start.chips k q → slice_get ys k ≡ Some (part.state q)
      at k q of =
          let inside : k < length xs = (let l = chip_inside w.chip k of.0 in let z = twins.fits.chips in omega (arith, l, z)) in
          get-with_chips w k xs (map part.state start.chips) (part.state q) inside of.0 (some_map part.state start.chips (chips_before w k) q of.1)

      at_start : Abreast part start (record { board = record (start.board) { cycle = 0 }; chips = record chips { parts = start.chips } }) steps steps
      at_start = record {
        twins = twins;
        board = record { alive = twins.alive; same_wiring = refl; same_inputs = refl; states_are = refl; woken = omega arith };
        chips = record {
          behind = record {
            has = twins.each;
            each = λ k q of.
                let zero_now = twins.fresh.at_start (chips_before w k) q of.1 in
                let never = twins.fresh.never_woken (chips_before w k) q of.1 in
                record {
                  stands = subst (λ (a : ℕ). Stands m 0 a (part.state q) (glide m (part.state q) a (0 - a))) (sym zero_now) (stands_here m laws 0 (part.state q) (twins.fresh.are_valid (chips_before w k) q of.1));
                  count = omega (arith, never);
                  holds = λ (later : 0 < 0). absurd (omega arith);
                };
            fit = λ k q of.
                let a = a_at part laws start twins 0 k of.0 in
                let same = twins.pins.each k a.0 (part.state q) a.1 (at k q of) of.0 in
                let has = fits_pins m w xs twins.fits k a.0 a.1 in
                omega (arith, same, has);
            levels_long = nets;
            own_long = room;
          };
          stand = λ k q of. at k q of ∙ ap (λ (a : ℕ). Some (glide m (part.state q) a (0 - a))) (sym (twins.fresh.at_start (chips_before w k) q of.1));
          of_board = λ (later : 0 < 0). absurd (omega arith);
          none = refl;
        };
        wakes = 0;
        woken = omega arith;
        most = omega arith;
        counted = omega arith;
      }

  module _ (b : Beside P) (steps more : ℕ) (is : Abreast part start b steps more) where
    abbrev t : ℕ
    t = b.board.cycle

    -- a chip has as many pins as the board's
    alike_pins : (k : ℕ) (q : P) (s : part.State) → IsChipOf w b.chips.parts k q → slice_get (A t) k ≡ Some s → length (m.drives (part.state q)) ≡ length (m.drives s)
    alike_pins k q s of es =
        ap length (stands_shows m laws t (part.now q) (part.state q) (at_cycle part t q) (is.chips.behind.each k q of).stands).drives
        ∙ sym ((pins_beside part laws start is.twins t).each k s (at_cycle part t q) es (is.chips.stand k q of) of.0)

    many : length b.board.parts ≡ length start.board.parts
    many =
        let one : length (map part.state b.board.parts) ≡ length b.board.parts = simp length-map refl in
        let other : length xs ≡ length start.board.parts = simp length-map refl in
        sym one ∙ ap length is.board.states_are ∙ length-states m w inputs xs 0 t ∙ other

    -- what is asked of chips that are compared
    pub comparable : AreComparable part b.board.wiring b.board.parts b.chips.parts
    comparable = subst (λ (v : Wiring). AreComparable part v b.board.parts b.chips.parts) (sym is.board.same_wiring) (record {
      few = let f = is.twins.few in let e = many in omega (arith, f, e);
      sized = is.twins.fits.chips ∙ (let other : length xs ≡ length start.board.parts = simp length-map refl in other) ∙ sym many;
      has = is.chips.behind.has;
      pins = λ k p q ep of. alike_pins k q (part.state p) of (ap (λ (l : List part.State). slice_get l k) (sym is.board.states_are) ∙ some_map part.state b.board.parts k p ep);
    })

    pub room_kept : HasRoom b
    room_kept = record {
      levels = is.chips.behind.levels_long ∙ sym (ap (λ (v : Wiring). v.nets) is.board.same_wiring);
      own = is.chips.behind.own_long ∙ sym (ap (λ (v : Wiring). length v.net_of) is.board.same_wiring);
    }

    pub all_woken : wakes_in part.wakes (view_of b) + steps ≡ wakes_in part.wakes start + more
    all_woken = let o = is.board.woken in let x = is.woken in let c = is.counted in omega (arith, o, x, c)

    -- what `difference` compares is what the boards show
    pub diff_is : difference_of part b ≡ part_diff m w t 0 (A t) (B t)
    diff_is =
        let parts : List part.State = map part.state b.board.parts in
        let others : List part.State = with_chips w parts (map part.state b.chips.parts) in
        let rest = rest_with_chips w parts (map part.state b.chips.parts) in
        let sizes : length parts ≡ length (A t) = ap length is.board.states_are in
        let za = sized_a part laws start is.twins t in
        let zb = sized_b part laws start is.twins t in
        let long = rest.long in
        ap (λ (v : Wiring). part_diff m v t 0 parts (with_chips v parts (map part.state b.chips.parts))) is.board.same_wiring
        ∙ by_drives m w t 0 parts others (B t) (omega (arith, sizes, za, zb, long)) (λ k x y ex ey chip.
        let z : 0 + k ≡ k = omega arith in
        let one : is_chip w k ≡ true = ap (is_chip w) (sym z) ∙ chip in
        let q = is.chips.behind.has k one in
        let inside : k < length parts = (let l = chip_inside w.chip k one in omega (arith, l, sizes, za)) in
        let at = get-with_chips w k parts (map part.state b.chips.parts) (part.state q.0) inside one (some_map part.state b.chips.parts (chips_before w k) q.0 q.1) in
        let of : IsChipOf w b.chips.parts k q.0 = (one, q.1) in
        ap m.drives (some_same (sym ex ∙ at)) ∙ (stands_shows m laws t (part.now q.0) (part.state q.0) (at_cycle part t q.0) (is.chips.behind.each k q.0 of).stands).drives
        ∙ ap m.drives (some_same (sym (is.chips.stand k q.0 of) ∙ ey)))
        ∙ ap (λ (l : List part.State). part_diff m w t 0 l (B t)) is.board.states_are

    -- what is asked for a turn of the chips
    pub may_step : (v : Wiring) → v ≡ b.board.wiring → AreBehind part v t b.chips × (length v.first_pin ≡ length v.chip)
    may_step v same = subst (λ (x : Wiring). AreBehind part x t b.chips × (length x.first_pin ≡ length x.chip)) (sym (same ∙ is.board.same_wiring)) (is.chips.behind, is.twins.fits.parts ∙ sym is.twins.fits.chips)

    -- after the board went on
    module _ (new : BoardView P) (most : ℕ) (went : BoardWent part b.board new more most) where
      abbrev u : ℕ
      u = new.cycle

      there : t + (u - t) ≡ u
      there = let o = went.from in omega (arith, o)

      split : A u ≡ states m w inputs (A t) t (u - t)
      split =
          let z : 0 + t ≡ t = omega arith in
          ap A (sym there) ∙ states_split m w inputs xs 0 t (u - t) ∙ ap (λ (v : ℕ). states m w inputs (A t) v (u - t)) z

      board_is : map part.state new.parts ≡ A u
      board_is = rw (is.board.same_wiring, is.board.same_inputs, is.board.states_are) at went.states_are ∙ sym split

      counts : most ≡ steps + own_pairs part start u + is.wakes
      counts =
          let z : 0 + t ≡ t = omega arith in
          let pairs : own_pairs part start u ≡ own_pairs part start t + active_pairs m w inputs (A t) t (u - t) = cc (pairs_split m w inputs xs 0 t (u - t), there, z) in
          let s = rw (is.board.same_wiring, is.board.same_inputs, is.board.states_are) at went.steps_are in
          let o = is.counted in
          omega (arith, pairs, s, o)

      board_on : BoardAt part start new
      board_on = record {
        alive = went.alive;
        same_wiring = went.same_wiring ∙ is.board.same_wiring;
        same_inputs = went.same_inputs ∙ is.board.same_inputs;
        states_are = board_is;
        woken = let a = board_woken part b.board new more most went in let o = is.board.woken in let k = is.counted in let n = counts in omega (arith, a, o, k, n);
      }

      -- where it is in the same cycle, its chips drive as they did
      pub same_there : u ≡ t → difference_of part b ≡ None → difference_of part (record b { board = new }) ≡ None
      same_there at none =
          let still : map part.state new.parts ≡ map part.state b.board.parts = board_is ∙ ap A at ∙ sym is.board.states_are in
          rw (went.same_wiring, at, still) none

      -- by no cycle
      pub stays : u ≡ t → Abreast part start (record b { board = new }) steps most
      stays at = record {
        twins = is.twins;
        board = board_on;
        chips = subst (λ (c : ℕ). ChipsAt part start c b.chips) (sym at) is.chips;
        wakes = is.wakes;
        woken = is.woken;
        most = (let s = is.most in let e = ap (beside_pairs part start) at in omega (arith, s, e));
        counted = counts;
      }

      -- by steady cycles in which no chip is due
      module _ (none : difference_of part b ≡ None) (less : t < u) (after : 0 < t) (still : IsSteady m b.board.wiring b.board.inputs (map part.state b.board.parts) t (u - t))
          (quiet : (j : ℕ) (q : P) → slice_get b.chips.parts j ≡ Some q → IsQuiet m (part.state q) (part.now q) (u - part.now q)) where
        steady : IsSteady m w inputs (A t) t (u - t)
        steady = rw (is.board.states_are, is.board.same_wiring, is.board.same_inputs) at still

        later : (k : ℕ) (q : P) → IsChipOf w b.chips.parts k q → Stands m u (part.now q) (part.state q) (glide m (at_cycle part t q) t (u - t))
        later k q of = stands_later m (part.state q) (at_cycle part t q) (part.now q) t u (omega (arith, less)) (is.chips.behind.each k q of).stands (quiet (chips_before w k) q of.1)

        sleep : (k : ℕ) (q : P) → IsChipOf w b.chips.parts k q → Sleeps part laws start is.twins t (u - t) k (at_cycle part t q)
        sleep k q of =
            let before = is.chips.behind.each k q of in
            let a = a_at part laws start is.twins t k of.0 in
            let n = alike_pins k q a.0 of a.1 in
            record {
              at = is.chips.stand k q of;
              valid = stands_valid m laws t (part.now q) (part.state q) (at_cycle part t q) before.stands;
              quiet = quiet_rest m (part.state q) (at_cycle part t q) (part.now q) t u before.stands.not_later (omega (arith, less)) refl (quiet (chips_before w k) q of.1);
              held = stands_holds m laws t (part.now q) (part.state q) (at_cycle part t q) before.stands ∙ before.holds after
                  ∙ ap (λ (i : ℕ). map (level_at b.chips.levels) (own_nets w k i)) n ∙ sym (is.chips.of_board after k a.0 of.0 a.1) ∙ steady.held k a.0 a.1
                  ∙ ap (λ (i : ℕ). map (level_at (levels_of m w (A t))) (own_nets w k i)) ((pins_beside part laws start is.twins t).each k a.0 (at_cycle part t q) a.1 (is.chips.stand k q of) of.0);
            }

        pub goes : Abreast part start (record b { board = new }) steps most
        goes = record {
          twins = is.twins;
          board = board_on;
          chips = record {
            behind = record {
              has = is.chips.behind.has;
              each = λ k q of.
                  let before = is.chips.behind.each k q of in
                  let st = later k q of in
                  record { stands = subst (λ (x : part.State). Stands m u (part.now q) (part.state q) x) st.is st; count = before.count; holds = λ _. before.holds after };
              fit = is.chips.behind.fit;
              levels_long = is.chips.behind.levels_long;
              own_long = is.chips.behind.own_long;
            };
            stand = λ k q of.
                ap (λ (v : ℕ). slice_get (B v) k) (sym there) ∙ beside_glides part laws start is.twins t (u - t) steady k (at_cycle part t q) (sleep k q of) (u - t) (omega arith) ∙ ap Some (later k q of).is;
            of_board = λ _ k s one es.
                let a = a_at part laws start is.twins t k one in
                let g : s ≡ glide m a.0 t (u - t) =
                (steady_states m laws w inputs (A t) t (u - t) steady (u - t) (omega arith)).each k a.0 s a.1 (ap (λ (l : List part.State). slice_get l k) (sym split) ∙ es) in
                ap m.held g ∙ glide_holds m laws a.0 t (u - t) ∙ is.chips.of_board after k a.0 one a.1
                ∙ ap (λ (i : ℕ). map (level_at b.chips.levels) (own_nets w k i)) (sym (ap (λ (x : part.State). length (m.drives x)) g ∙ glide_pins m laws a.0 t (u - t)));
            none = ap (first_beside m w inputs xs ys 0) (sym there)
                ∙ none_in part laws start is.twins t (u - t) steady (λ k one. let q = is.chips.behind.has k one in (at_cycle part t q.0, sleep k q.0 (one, q.1)))
                (same_chips m w t (A t) (B t) (pins_beside part laws start is.twins t) (sym diff_is ∙ none)) is.chips.none (u - t) (omega arith);
          };
          wakes = is.wakes;
          woken = is.woken;
          most = (let s = is.most in let r = pairs_rise part laws start is.twins t (u - t) in let e = ap (beside_pairs part start) there in omega (arith, s, r, e));
          counted = counts;
        }

      -- by one cycle, in which the chips had their turns
      pub steps_on : (next : Chips P) (last : ℕ) (v : Wiring) (ls : List Level) → difference_of part b ≡ None → t < MOST_CYCLES → u ≡ t + 1 → v ≡ b.board.wiring → ls ≡ levels_of m b.board.wiring (map part.state b.board.parts) →
          ChipsTurned part v ls t b.chips (length v.chip) next most last → next.levels ≡ ls → length next.own ≡ length b.chips.own → Abreast part start (record { board = new; chips = next }) steps last
      unfolding first_beside
      steps_on next last v ls none end at same read turned kept room =
          let are : ls ≡ levels_of m w (A t) = read ∙ ap (λ (x : Wiring). levels_of m x (map part.state b.board.parts)) is.board.same_wiring ∙ ap (levels_of m w) is.board.states_are in
          let turns = rw (are, same ∙ is.board.same_wiring) at turned in
          let s : t + 1 ≡ suc t = omega arith in
          let c = counted part laws start is.twins t b.chips next most last end turns is.chips.behind is.chips.stand in
          record {
            twins = is.twins;
            board = board_on;
            chips = subst (λ (v : ℕ). ChipsAt part start v next) (sym at) (record {
              behind = behind_next part laws start is.twins t b.chips next most last end turns is.chips.behind is.chips.stand (kept ∙ are) (length_levels m w (A t)) room;
              stand = stand_next part laws start is.twins t b.chips next most last end turns is.chips.behind is.chips.stand;
              of_board = λ _ k z one es.
                  held_before m w inputs laws xs 0 t k z (ap (λ (v : ℕ). slice_get (A v) k) (sym s) ∙ es)
                  ∙ ap (λ (l : List Level). levels_on m w l k z) (sym (kept ∙ are));
              none = ap (first_beside m w inputs xs ys 0) s ∙ ap (λ o. option_or o (part_diff m w (0 + t) 0 (A t) (B t))) is.chips.none
                  ∙ ap (λ (v : ℕ). part_diff m w v 0 (A t) (B t)) (let z : 0 + t ≡ t = omega arith in z) ∙ sym diff_is ∙ none;
            });
            wakes = is.wakes + (last - most);
            woken = (let o = is.woken in let x = turned.woken in let k = turned.steps_are in omega (arith, o, x, k));
            most = (let o = is.most in let e = ap (beside_pairs part start) at in omega (arith, o, c, e));
            counted = (let k = turned.steps_are in let n = counts in omega (arith, k, n));
          }

    -- A difference that was found stays the first.
    holds_on : (c : ℕ) (d : Difference) → first_beside m w inputs xs ys 0 c ≡ Some d → (j : ℕ) → first_beside m w inputs xs ys 0 (c + j) ≡ Some d
    unfolding first_beside
    holds_on c d found zero = let e : c + 0 ≡ c = omega arith in ap (first_beside m w inputs xs ys 0) e ∙ found
    holds_on c d found (suc j) =
        let e : c + suc j ≡ suc (c + j) = omega arith in
        rw (e, holds_on c d found j) refl

    or_first : {X : Type 0} (o q : Option X) → option_or o q ≡ None → o ≡ None
    or_first None q h = refl
    or_first (Some x) q h = absurd cc

    module _ (free : HaveNoContacts m w xs ys) where
      rest : SameRest w xs ys
      rest = rest_with_chips w xs (map part.state start.chips)

      sees : (n : ℕ) → first_beside m w inputs xs ys 0 n ≡ first_diff m w inputs xs ys 0 n
      sees n = beside_sees m laws w inputs xs ys 0 free.one free.other rest is.twins.pins n

      -- before the first difference the chips are active where they are in their own board
      pairs_are : (c : ℕ) → first_diff m w inputs xs ys 0 c ≡ None → beside_pairs part start c ≡ chip_pairs m w inputs ys c
      unfolding first_diff
      pairs_are zero none = refl
      pairs_are (suc c) none =
          let z : 0 + c ≡ c = omega arith in
          let before = pairs_are c (or_first _ _ none) in
          let same = sum_same m w inputs (length ys) (active_beside part start c) (λ k. if is_chip w k then active_at m w inputs ys 0 k c else 0)
          (λ k. ap (λ (x : ℕ). if is_chip w k then x else 0)
          (ap (λ (v : ℕ). active_in m w inputs (levels_of m w (A c)) v k (slice_get (B c) k)) (sym z) ∙ beside_active m laws w inputs xs ys 0 free.one free.other rest is.twins.pins c none k)) in
          omega (arith, before, same)

      pub ends_same : (n : ℕ) → t ≡ n → IsTwin m w inputs xs ys n ends.Same steps more
      ends_same n at =
          let none : first_diff m w inputs xs ys 0 n ≡ None = sym (sees n) ∙ ap (first_beside m w inputs xs ys 0) (sym at) ∙ is.chips.none in
          let so_far = is.most in
          let c = is.counted in
          let own = ap (own_pairs part start) at in
          let other = ap (beside_pairs part start) at in
          let all = pairs_are n none in
          record {
            sees = ap end_of (sym none);
            rose = omega (arith, c);
            wakes = omega (arith, so_far, c, own, other, all);
            rest = rest_same m laws w inputs xs ys 0 free.one free.other rest is.twins.pins n none;
          }

      pub ends_differ : (n : ℕ) (d : Difference) → t < n → difference_of part b ≡ Some d → d.cycle ≡ t → IsTwin m w inputs xs ys n (differs d) steps more
      unfolding first_beside
      ends_differ n d less found at =
          let e : suc t + (n - suc t) ≡ n = omega (arith, less) in
          let z : 0 + t ≡ t = omega arith in
          let first : first_beside m w inputs xs ys 0 (suc t) ≡ Some d =
          ap (λ o. option_or o (part_diff m w (0 + t) 0 (A t) (B t))) is.chips.none ∙ ap (λ (v : ℕ). part_diff m w v 0 (A t) (B t)) z ∙ sym diff_is ∙ found in
          let all : first_diff m w inputs xs ys 0 n ≡ Some d = sym (sees n) ∙ ap (first_beside m w inputs xs ys 0) (sym e) ∙ holds_on (suc t) d first (n - suc t) in
          let none : first_diff m w inputs xs ys 0 t ≡ None = sym (sees t) ∙ is.chips.none in
          let so_far = is.most in
          let c = is.counted in
          let same = pairs_are t none in
          let own = ap (own_pairs part start) at in
          let other = ap (chip_pairs m w inputs ys) at in
          record {
            sees = ap end_of (sym all);
            rose = omega (arith, c);
            wakes = omega (arith, so_far, c, same, own, other);
            rest = λ v l. rest_until m laws w inputs xs ys 0 free.one free.other rest is.twins.pins n d all v (omega (arith, l));
          }
