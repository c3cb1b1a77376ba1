-- The answer to `twin`.
use Rattle.cli_twin.proofs.Common.{◌≡◌, ◌∙◌, ◌+◌, ◌-◌, ◌*◌, ◌≤◌, ℕ, List, length, Option, None, Some, Result, Ok, Err, IfSome, refl, ap, sym, subst}
use Rattle.cli_twin.proofs.Common.{arith, Outside, SamePorts, SameOthers, Files, Stop, Texts, printed, report_alone, Is, ReadStops, RanOn}
use Rattle.cli_twin.proofs.Common.{IsOneReading, Then, if_some, one_both, one_function, WorkIn, one_work, Pair, PairIn, other_path, paired, Found}
use Rattle.cli_twin.proofs.Common.{line}
use Rattle.sim_base.specs.declared.bench.Port.TheVariants as ports
use Rattle.sim_outcome_model.specs.Outcome.{Outcome}
use Rattle.sim_outcome_model.specs.Happens.{Counts, Ends}
use Rattle.sim_outcome_model.specs.Promises.{AreSame, IsOne}
use Rattle.sim_outcome_model.proofs.EndLemmas.{alone_ran, stopped_by}
use Rattle.cli_twin.specs.Answer.{IsLineOf, TwinAnswer, line_texts, pair_line}
use Rattle.cli_twin.proofs.PlanLemmas.{both_given, no_inputs, one_plan, was_read}
use Rattle.cli_twin.proofs.SharedLemmas.{flash_means, shared}
use Rattle.cli_twin.proofs.TwinLemmas.{line_said, line_told, seen}

risen : (before after : ℕ) → before ≤ after → after ≡ before + (after - before)
risen before after rose = omega (arith, rose)

module _ (folder other : List ℕ) where
  -- two folders hold one pair, or stop once
  one_pair : IsOneReading (PairIn folder other)
  one_pair = one_both _ _ (one_work folder None None) (λ a. one_both _ _ (one_work other None None) (λ b. one_function _))

  -- what makes a pair
  pub made_pair : (files : Files) (pair : Pair) → PairIn folder other files (Ok pair) →
      WorkIn folder None None files (Ok pair.one) × WorkIn other None None files (Ok pair.other) × (other_path pair.one pair.other ≡ None)
  made_pair files pair given =
      let a = both_given (WorkIn folder None None) (λ a. Then (WorkIn other None None) (λ b. Is (λ files. paired other (record { one = a; other = b }) (other_path a b)))) files pair given in
      let b = both_given (WorkIn other None None) (λ b. Is (λ files. paired other (record { one = a.0; other = b }) (other_path a.0 b))) files pair a.2 in
      from (record { one = a.0; other = b.0 }) (other_path a.0 b.0) refl b.2 a.1 b.1
    where
      from : (made : Pair) (o : Option (List ℕ)) → other_path made.one made.other ≡ o → paired other made o ≡ Ok pair → WorkIn folder None None files (Ok made.one) →
          WorkIn other None None files (Ok made.other) → WorkIn folder None None files (Ok pair.one) × WorkIn other None None files (Ok pair.other) × (other_path pair.one pair.other ≡ None)
      from made None none e one two =
          let same : made ≡ pair = cc in
          subst (λ (p : Pair). WorkIn folder None None files (Ok p.one) × WorkIn other None None files (Ok p.other) × (other_path p.one p.other ≡ None)) same (one, two, none)
      from made (Some path) some e one two = absurd cc

module _ (folder other : List ℕ) (us budget : ℕ) where
  err_same : (t s : Stop) → ◌≡◌ {A = Result Texts Stop} (Err t) (Err s) → t ≡ s
  err_same t s e = cc

  sided : (files : Files) (t : Texts) (s : Stop) → TwinAnswer folder other us budget files (Ok t) → TwinAnswer folder other us budget files (Err s) → ⊥
  unfolding TwinAnswer
  sided files t s (Ok p, e, g) (Ok q, f, h) = h
  sided files t s (Ok p, e, g) (Err u, f, h) = (one_pair folder other).one_sided files p u e f
  sided files t s (Err u, e, g) x = let bad : ◌≡◌ {A = Result Texts Stop} (Err u) (Ok t) = g in absurd (cc)

  once : (files : Files) (t s : Stop) → TwinAnswer folder other us budget files (Err t) → TwinAnswer folder other us budget files (Err s) → t ≡ s
  unfolding TwinAnswer
  once files t s (Ok p, e, g) x = absurd g
  once files t s (Err u, e, g) (Ok q, f, h) = absurd h
  once files t s (Err u, e, g) (Err v, f, h) = sym (err_same u t g) ∙ (one_pair folder other).one_stop files u v e f ∙ err_same v s h

  same_texts : (files : Files) (t u : Texts) → TwinAnswer folder other us budget files (Ok t) → TwinAnswer folder other us budget files (Ok u) → AreSame t u
  unfolding TwinAnswer
  same_texts files t u (Ok p, e, g) (Ok q, f, h) =
      let is : p ≡ q = (one_pair folder other).one_given files p q e f in
      let k = subst (λ (z : Pair). IsLineOf budget (16 * us) z u) (sym is) h in (
        ap (λ (x : Texts). x.serial) g.says ∙ sym (ap (λ (x : Texts). x.serial) k.says),
        ap (λ (x : Texts). x.wave) g.says ∙ sym (ap (λ (x : Texts). x.wave) k.says),
        ap (λ (x : Texts). x.report) g.says ∙ sym (ap (λ (x : Texts). x.report) k.says),
      )
  same_texts files t u (Ok p, e, g) (Err s, f, h) = let bad : ◌≡◌ {A = Result Texts Stop} (Err s) (Ok u) = h in absurd (cc)
  same_texts files t u (Err s, e, g) x = let bad : ◌≡◌ {A = Result Texts Stop} (Err s) (Ok t) = g in absurd (cc)

  pub one_twin : IsOne (TwinAnswer folder other us budget)
  one_twin = record { one_sided = sided; one_text = same_texts; one_stop = once }

  stop_told : (files : Files) (s : Stop) → PairIn folder other files (Err s) → TwinAnswer folder other us budget files (Err s)
  unfolding TwinAnswer
  stop_told files s e = (Err s, e, refl)

  pub twin_stops : (o : Outcome) (a b : Outside) → ReadStops o (PairIn folder other) a b → SamePorts a b → Ends (TwinAnswer folder other us budget) o a b
  twin_stops = stopped_by (TwinAnswer folder other us budget) (PairIn folder other) stop_told

  -- the line of a pair whose files are told
  module _ (pair : Pair) (one : length pair.one.chips ≡ length pair.one.project.chips) (two : length pair.other.chips ≡ length pair.other.project.chips) (text : List ℕ) (before after : ℕ)
      (found : Found budget (16 * us) pair text before after) (files : Files) (given : PairIn folder other files (Ok pair)) where
    abbrev Said : Type 0
    Said = (text ≡ pair_line budget (16 * us) pair) × IsLineOf budget (16 * us) pair (line_texts budget (16 * us) pair 0) × IsLineOf budget (16 * us) pair (line_texts budget (16 * us) pair (after - before))

    told : Said
    told =
        let made = made_pair folder other files pair given in
        let was = was_read folder files pair.one made.0 in
        let also = was_read other files pair.other made.1 in
        let same = shared pair.one pair.other one two made.2 in
        let inputs = no_inputs pair.one one was in
        let flash = flash_means 32768 pair.one.flash pair.other.flash was.flash also.flash same.flash in
        let plans = one_plan pair.one pair.other same.names same.diagram same.pins was also in (
          found.says ∙ ap (line _ pair.one.plan.parts (16 * us)) (seen budget (16 * us) pair inputs flash plans found.end before after found.twin),
          line_said budget (16 * us) pair inputs flash plans found.end before after found.twin,
          line_told budget (16 * us) pair inputs flash plans found.end before after found.twin,
        )

    pub answer_said : TwinAnswer folder other us budget files (Ok (line_texts budget (16 * us) pair 0))
    unfolding TwinAnswer
    answer_said = (Ok pair, given, told.1)

    pub answer_told : TwinAnswer folder other us budget files (Ok (line_texts budget (16 * us) pair (after - before)))
    unfolding TwinAnswer
    answer_told = (Ok pair, given, told.2)

    pub text_told : text ≡ pair_line budget (16 * us) pair
    text_told = told.0

  -- what happens where a pair was read, run and told
  module _ (pair : Pair) (one : length pair.one.chips ≡ length pair.one.project.chips) (two : length pair.other.chips ≡ length pair.other.project.chips) (text : List ℕ) (before after : ℕ)
      (found : Found budget (16 * us) pair text before after) where
    pub twin_ends : (o : Outcome) (a m b : Outside) → IfSome a.files (λ files. PairIn folder other files (Ok pair)) → m.read_faults ≡ a.read_faults → SamePorts a m →
        RanOn ports.Report o (printed text) m b → SameOthers ports.Report m b → Ends (TwinAnswer folder other us budget) o a b
    twin_ends o a m b given reads same ran others =
        alone_ran (TwinAnswer folder other us budget) a m b reads same o (printed text)
        (if_some a.files _ _ (λ (files : Files) (g : PairIn folder other files (Ok pair)).
        subst (λ (t : List ℕ). TwinAnswer folder other us budget files (Ok (report_alone (printed t)))) (sym (text_told pair one two text before after found files g))
        (answer_said pair one two text before after found files g)) given) ran others

    pub twin_counts : (o : Outcome) (a : Outside) → IfSome a.files (λ files. PairIn folder other files (Ok pair)) → Counts (TwinAnswer folder other us budget) o a before after
    twin_counts o a given = λ e.
        if_some a.files _ _ (λ (files : Files) (g : PairIn folder other files (Ok pair)).
        (line_texts budget (16 * us) pair (after - before), answer_told pair one two text before after found files g, risen before after found.twin.rose)) given
