-- What the run of a twin says of the runs of two projects.
use Rattle.cli_twin.proofs.Common.{◌≡◌, ◌∙◌, ◌+◌, ◌-◌, ◌≤◌, ℕ, zero, suc, List, [], false, map, Option, None, Some, true, refl, ap, sym, subst, arith}
use Rattle.cli_twin.proofs.Common.{zero-add, option_or, Input, Wiring, SameRest, Plan, pins_of, AnyPart, AnyState, any, state_of, Contents, starts, run_states}
use Rattle.cli_twin.proofs.Common.{Pair, Found, IsLoaded, beside, diff_of, twin_view}
use Rattle.law_board.specs.Active.{active_pairs}
use Rattle.law_board.specs.FirstDiff.{Difference, first_diff, part_diff}
use Rattle.board_run.specs.BoardView.{BoardView}
use Rattle.board_twin.specs.declared.twin.TwinEnd.{TwinEnd}
use Rattle.board_twin.specs.declared.twin.TwinEnd.TheVariants as ends
use Rattle.board_twin.specs.Twins.{IsTwin, TwinView, chip_pairs, cycle_of, end_of, other_states}
use Rattle.cli_twin.specs.Line.{end_at, line, run_diff}
use Rattle.cli_twin.specs.Answer.{IsLineOf, contents, difference, line_texts, pair_wakes}

-- the first difference on one board is that of its two runs
first_run : (one two : Contents) (plan : Plan) (n : ℕ) → first_diff any plan.wiring plan.inputs (starts one plan.parts) (starts two plan.parts) 0 n ≡ run_diff one plan two plan n
unfolding first_diff run_diff
first_run one two plan zero = refl
first_run one two plan (suc n) =
    ap (λ (o : Option Difference). option_or o (part_diff any plan.wiring (0 + n) 0 (run_states one plan n) (run_states two plan n))) (first_run one two plan n)
    ∙ ap (λ (t : ℕ). option_or (run_diff one plan two plan n) (part_diff any plan.wiring t 0 (run_states one plan n) (run_states two plan n))) (zero-add n)

bound : (before after a b c d : ℕ) → after ≤ before + a + b → a ≡ c → b ≡ d → after - before ≤ c + d
bound before after a b c d most ac bd = omega (arith, most, ac, bd)

within : (c x y : ℕ) → c ≤ y → x ≡ y → c ≤ x
within c x y less same = omega (arith, less, same)

-- an end says its difference, and the cycle of it
diff_end : (d : Option Difference) → diff_of (end_of d) ≡ d
diff_end None = refl
diff_end (Some d) = refl

cycle_end : (end : TwinEnd) (n : ℕ) → cycle_of end n ≡ end_at n (diff_of end)
cycle_end ends.Same n = refl
cycle_end (ends.Differs t part pin a b) n = refl

module _ (budget n : ℕ) (pair : Pair) (inputs : pair.one.plan.inputs ≡ []) (flash : pair.one.flash ≡ pair.other.flash) (plans : pair.one.plan ≡ pair.other.plan) where
  abbrev one : Contents
  one = contents pair.one budget

  abbrev two : Contents
  two = contents pair.other budget

  abbrev plan : Plan
  plan = pair.one.plan

  abbrev twin : Plan
  twin = pair.other.plan

  abbrev xs : List AnyState
  xs = starts one plan.parts

  contents_same : beside budget pair ≡ two
  contents_same = ap (λ (image : List ℕ). record { flash = image; chips = pair.other.chips; budget = budget }) flash

  module _ (end : TwinEnd) (before after : ℕ) (found : IsTwin any plan.wiring [] xs (starts (beside budget pair) plan.parts) n end before after) where
    on_board : IsTwin any plan.wiring plan.inputs xs (starts two plan.parts) n end before after
    on_board =
        subst (λ (is : List Input). IsTwin any plan.wiring is xs (starts two plan.parts) n end before after) (sym inputs)
        (subst (λ (has : Contents). IsTwin any plan.wiring [] xs (starts has plan.parts) n end before after) contents_same found)

    pub seen : diff_of end ≡ difference budget n pair
    seen =
        ap diff_of on_board.sees
        ∙ diff_end (first_diff any plan.wiring plan.inputs xs (starts two plan.parts) 0 n)
        ∙ first_run one two plan n
        ∙ ap (λ (p : Plan). run_diff one plan two p n) plans

    until : cycle_of end n ≡ end_at n (difference budget n pair)
    until = cycle_end end n ∙ ap (end_at n) seen

    costs : after - before ≤ pair_wakes budget n pair
    costs =
        let own = ap (λ (t : ℕ). active_pairs any plan.wiring plan.inputs xs 0 t) until in
        let others =
        ap (λ (t : ℕ). chip_pairs any plan.wiring plan.inputs (starts two plan.parts) t) until
        ∙ ap (λ (p : Plan). chip_pairs any p.wiring p.inputs (starts two p.parts) (end_at n (difference budget n pair))) plans in
        bound before after _ _ _ _ on_board.wakes own others

    same_rest : (c : ℕ) → c ≤ end_at n (difference budget n pair) → SameRest plan.wiring (run_states one plan c) (run_states two twin c)
    same_rest c less =
        subst (λ (p : Plan). SameRest plan.wiring (run_states one plan c) (run_states two p c)) plans (on_board.rest c (within c (cycle_of end n) (end_at n (difference budget n pair)) less until))

    pub line_told : IsLineOf budget n pair (line_texts budget n pair (after - before))
    line_told = record { says = refl; costs = costs; rest = same_rest }

    -- nothing need be counted
    pub line_said : IsLineOf budget n pair (line_texts budget n pair 0)
    line_said = record { says = refl; costs = omega arith; rest = same_rest }

-- a twin is of the board that it was made of, whose inputs are none
pub is_view : {P : Type 0} (parts chips : List P) (w : Wiring) (inputs : List Input) (board : BoardView P) (result : TwinView P) → inputs ≡ [] →
    board ≡ record { parts = parts; wiring = w; inputs = inputs; cycle = 0; given_up = false; before = None; changed = true } → result ≡ record { board = board; chips = chips } →
    result ≡ twin_view parts chips w
is_view {P = P} parts chips w inputs board result none made is =
    is ∙ ap (λ (b : BoardView P). record { board = b; chips = chips }) made
    ∙ ap (λ (l : List Input). record { board = record { parts = parts; wiring = w; inputs = l; cycle = 0; given_up = false; before = None; changed = true }; chips = chips }) none

-- a pair that was loaded and run
pub was_found : (budget n : ℕ) (pair : Pair) (parts chips : List AnyPart) (end : TwinEnd) (text : List ℕ) (before after : ℕ) →
    IsLoaded (contents pair.one budget) (beside budget pair) pair.one.plan parts chips → text ≡ line (pins_of pair.one.chips) pair.one.plan.parts n (diff_of end) →
    IsTwin any pair.one.plan.wiring [] (map state_of parts) (other_states state_of (twin_view parts chips pair.one.plan.wiring)) n end before after → Found budget n pair text before after
was_found budget n pair parts chips end text before after loaded says twin = record {
  end = end;
  says = says;
  twin = subst (λ (ys : List AnyState). IsTwin any pair.one.plan.wiring [] (starts (contents pair.one budget) pair.one.plan.parts) ys n end before after) loaded.others
      (subst (λ (xs : List AnyState). IsTwin any pair.one.plan.wiring [] xs (other_states state_of (twin_view parts chips pair.one.plan.wiring)) n end before after) loaded.own twin);
}
