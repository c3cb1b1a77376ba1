-- Active cycles are counted by parts or by cycles; a part that is not active glides.
use Rattle.std.proofs.Common.{◌≡◌, ℕ, zero, suc, ◌+◌, List, ◌∙◌, length, map, false, Option, None, Some, refl, ap, sym, arith}
use Rattle.std.specs.Prelude.{slice_get}
use Rattle.std.specs.Option.{is_some}
use Rattle.std.proofs.lemmas.Bool.{or_parts, not-false}
use Rattle.sim_base.specs.declared.signal.Level.{Level}
use Rattle.sim_base.specs.declared.wiring.Wiring.{Wiring}
use Rattle.sim_base.specs.declared.wiring.Input.{Input}
use Rattle.part_law.specs.Machine.{Machine, Laws}
use Rattle.board_model.specs.Board.{level_at, own_nets, levels_of, input_at, part_step, states}
use Rattle.law_board.specs.Active.{sum_below, is_active, active_at, active_cycles, active_pairs}
use Rattle.board_model.proofs.Steps.{get_from}
use Rattle.board_model.proofs.SameLemmas.{levels_mean}

sum_none : (n : ℕ) → sum_below n (λ k. 0) ≡ 0
sum_none zero = refl
sum_none (suc n) = omega (arith, sum_none n)

sum_more : (n : ℕ) (f g : ℕ → ℕ) → sum_below n (λ k. f k + g k) ≡ sum_below n f + sum_below n g
sum_more zero f g = refl
sum_more (suc n) f g = omega (arith, sum_more n f g)

-- rows first or columns first
sum_turned : (a b : ℕ) (f : ℕ → ℕ → ℕ) → sum_below a (λ k. sum_below b (λ i. f i k)) ≡ sum_below b (λ i. sum_below a (f i))
sum_turned zero b f = sym (sum_none b)
sum_turned (suc a) b f = omega (arith, sum_turned a b f, sum_more b (λ i. sum_below a (f i)) (λ i. f i a))

is_none : (o : Option ℕ) → is_some o ≡ false → o ≡ None
is_none None h = refl
is_none (Some x) h = absurd cc

module _ {S : Type 0} (m : Machine S) (w : Wiring) (inputs : List Input) where
  -- the sum of the parts' active cycles
  pub pairs_by_parts : (ss : List S) (c n : ℕ) → active_pairs m w inputs ss c n ≡ sum_below (length ss) (active_cycles m w inputs ss c n)
  pairs_by_parts ss c n = sum_turned n (length ss) (active_at m w inputs ss c)

  -- a part that is not active is not due, and steps on the levels that it holds, with nothing from the script
  pub asleep_due : (ls : List Level) (t i : ℕ) (s : S) → is_active m w inputs ls t i s ≡ false → m.due s t ≡ false
  asleep_due ls t i s h = (or_parts _ _ h).0

  pub asleep_step : (ls : List Level) (t i : ℕ) (s : S) → is_active m w inputs ls t i s ≡ false → part_step m w inputs ls t i s ≡ m.step s t (m.held s) None
  asleep_step ls t i s h =
      let rest = (or_parts (m.due s t) _ h).1 in
      let input : input_at inputs t i ≡ None = is_none _ (or_parts _ _ rest).0 in
      let own : map (level_at ls) (own_nets w i (length (m.drives s))) ≡ m.held s = levels_mean _ _ (not-false _ (or_parts _ _ rest).1) in
      ap (λ (l : List Level). m.step s t l (input_at inputs t i)) own ∙ ap (λ (o : Option ℕ). m.step s t (m.held s) o) input

  -- A part holds the levels that its pins had in the cycle before.
  pub held_before : Laws m → (ss : List S) (c n i : ℕ) (s : S) → slice_get (states m w inputs ss c (suc n)) i ≡ Some s →
      m.held s ≡ map (level_at (levels_of m w (states m w inputs ss c n))) (own_nets w i (length (m.drives s)))
  unfolding states
  held_before laws ss c n i s e =
      let f = get_from m w inputs (states m w inputs ss c n) (c + n) i s e in
      ap m.held (sym f.2) ∙ laws.holds_levels f.0 (c + n) _ _
      ∙ ap (λ (k : ℕ). map (level_at (levels_of m w (states m w inputs ss c n))) (own_nets w i k)) (sym (laws.keeps_pins f.0 (c + n) _ _))
      ∙ ap (λ (x : S). map (level_at (levels_of m w (states m w inputs ss c n))) (own_nets w i (length (m.drives x)))) f.2
