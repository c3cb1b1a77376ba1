-- A wave that is read as that of a run is read in the same way where only its names are known.
use Rattle.std.proofs.Common.{◌≡◌, ◌≤◌, ◌-◌, ◌*◌, ◌/◌, ◌%◌, ◌==◌, ℕ, suc, List, [], ◌∷◌, ◌++◌, length, Bool, true, false, not, ◌&&◌, nat_le}
use Rattle.std.proofs.Common.{if◌then◌else◌, Option, None, Some, Result, Ok, refl, ap, sym, ◌∙◌, subst, arith}
use Rattle.std.specs.Prelude.{nat_lt, slice_get}
use Rattle.std.specs.List.{list_all, range_with_len}
use Rattle.std.specs.Option.{option_map}
use Rattle.std.proofs.lemmas.Bool.{eqb-true, lt-ltb}
use Rattle.std.proofs.lemmas.Bool.Decides.{nat_tests}
use Rattle.std.proofs.lemmas.Option.{slice_get_within}
use Rattle.std.proofs.Math.Bool.{and-false}
use Rattle.sim_base.specs.declared.fault.Refusal.{Refusal}
use Rattle.sim_base.specs.declared.fault.Place.TheVariants as places
use Rattle.sim_refusals.specs.Refusals.{WaveLine, WaveTime, WaveName, WaveEnd}
use Rattle.text_numerals.specs.Numerals.{value_of}
use Rattle.text_model.specs.Wave.{Variable, char_x}
use Rattle.wave_lines.specs.declared.line.Line.{Line}
use Rattle.wave_lines.specs.declared.line.Line.TheVariants as line
use Rattle.wave_lines.specs.declared.line.Stage.{Stage}
use Rattle.wave_lines.specs.declared.line.Stage.TheVariants as stages
use Rattle.wave_lines.specs.Reading.{Change, after, after_value, among, end_fault, is_decimal, is_given, judged, line_said, lines_from, starts_time, time_said, unless, value_of_variable, value_said}
use Rattle.vcd_text.specs.Reading.{is_over, kinds, shows_net, verdict}
use Rattle.vcd_text.specs.Reading as written
use Rattle.wave_decode.specs.Levels.{at_end, below, last_cycle}
use Rattle.wave_lines.specs.Reading as lines

-- a line that may be there
abbrev IsGood : Line → Type 0
IsGood (line.Goes next) = Unit {0}
IsGood (line.Time next) = Unit {0}
IsGood (line.Value i value) = Unit {0}
IsGood (line.Faulty number) = ⊥

not_faulty : (number : ℕ) (says : Line) → line.Faulty number ≡ says → IsGood says → ⊥
not_faulty number says e good = subst IsGood (sym e) good

module _ (vs : List Variable) (n : ℕ) (early : n ≤ last_cycle) where
  -- a time up to the run's end
  judged_too : (cycle time : ℕ) (says : Line) → judged n cycle time ≡ says → IsGood says → judged last_cycle cycle time ≡ says
  judged_too cycle time says e good = both (time % 625 == 0) (nat_lt (625 * cycle) time) (nat_le time (625 * n)) (nat_le time (625 * last_cycle)) later e
    where
      later : nat_le time (625 * n) ≡ true → nat_le time (625 * last_cycle) ≡ true
      later f = grind (arith, nat_tests, f, early)

      both : (a b c d : Bool) → (c ≡ true → d ≡ true) → (if a && (b && c) then line.Time (time / 625) else line.Faulty WaveTime) ≡ says →
          (if a && (b && d) then line.Time (time / 625) else line.Faulty WaveTime) ≡ says
      both true true true d more f = ap (λ (x : Bool). if x then line.Time (time / 625) else line.Faulty WaveTime) (more refl) ∙ f
      both true true false d more f = absurd (not_faulty WaveTime says f good)
      both true false c d more f = f
      both false b c d more f = f

  time_too : (cycle : ℕ) (text : List ℕ) (says : Line) → time_said n cycle text ≡ says → IsGood says → time_said last_cycle cycle text ≡ says
  time_too cycle [] says e good = e
  time_too cycle (mark ∷ digits) says e good = go (mark == 35 && is_decimal digits) e
    where
      go : (b : Bool) → (if b then judged n cycle (value_of 10 digits) else line.Faulty WaveLine) ≡ says →
          (if b then judged last_cycle cycle (value_of 10 digits) else line.Faulty WaveLine) ≡ says
      go true f = judged_too cycle (value_of 10 digits) says f good
      go false f = f

  line_too : (stage : Stage) (cycle : ℕ) (text : List ℕ) (says : Line) → line_said n stage cycle text ≡ says → IsGood says → line_said last_cycle stage cycle text ≡ says
  line_too stages.Start cycle text says e good = e
  line_too stages.Dump cycle text says e good = e
  line_too stages.Initial cycle text says e good = e
  line_too stages.Ended cycle text says e good = time_too cycle text says e good
  line_too stages.Opened cycle text says e good = e
  line_too stages.Changed cycle text says e good = go (starts_time text) e
    where
      go : (b : Bool) → (if b then time_said n cycle text else value_said text) ≡ says → (if b then time_said last_cycle cycle text else value_said text) ≡ says
      go true f = time_too cycle text says f good
      go false f = f

  -- a value of a variable that there is
  value_too : (i value : ℕ) (says : Line) → value_of_variable value i (kinds vs i) ≡ says → IsGood says → value_of_variable value i (below (length vs) i) ≡ says
  value_too i value says e good = go (slice_get vs i) refl
    where
      value_is : (any : Bool) → value_of_variable value i (Some any) ≡ says → line.Value i value ≡ says
      value_is any f = of (value == char_x && not any) f
        where
          of : (b : Bool) → (if b then line.Faulty WaveLine else line.Value i value) ≡ says → line.Value i value ≡ says
          of true g = absurd (not_faulty WaveLine says g good)
          of false g = g

      go : (o : Option Variable) → slice_get vs i ≡ o → value_of_variable value i (below (length vs) i) ≡ says
      go None none = absurd (not_faulty WaveName says (sym (ap (λ (o : Option Variable). value_of_variable value i (option_map (λ (v : Variable). shows_net v.shows) o)) none) ∙ e) good)
      go (Some v) here =
          ap (λ (b : Bool). value_of_variable value i (if b then Some true else None)) (lt-ltb i (length vs) (slice_get_within vs i v here))
          ∙ ap (λ (b : Bool). if b then line.Faulty WaveLine else line.Value i value) (and-false (value == char_x))
          ∙ value_is (shows_net v.shows) (sym (ap (λ (o : Option Variable). value_of_variable value i (option_map (λ (v : Variable). shows_net v.shows) o)) here) ∙ e)

  verdict_too : (stage : Stage) (cycle : ℕ) (text : List ℕ) (says : Line) → verdict vs n stage cycle text ≡ says → IsGood says →
      lines.verdict (below (length vs)) last_cycle stage cycle text ≡ says
  verdict_too stage cycle text says e good = go (line_said n stage cycle text) refl
    where
      variables : Line → Line
      variables l = among (below (length vs)) l

      go : (l : Line) → line_said n stage cycle text ≡ l → lines.verdict (below (length vs)) last_cycle stage cycle text ≡ says
      go (line.Goes next) f = ap variables (line_too stage cycle text (line.Goes next) f tt) ∙ sym (ap (among (kinds vs)) f) ∙ e
      go (line.Time next) f = ap variables (line_too stage cycle text (line.Time next) f tt) ∙ sym (ap (among (kinds vs)) f) ∙ e
      go (line.Value i value) f = ap variables (line_too stage cycle text (line.Value i value) f tt) ∙ value_too i value says (sym (ap (among (kinds vs)) f) ∙ e) good
      go (line.Faulty number) f = absurd (not_faulty number says (sym (ap (among (kinds vs)) f) ∙ e) good)

  -- the end of the text
  end_too : (rest : List ℕ) (all : List Change) (k j : ℕ) (stage : Stage) (cycle : ℕ) (said : List Change) →
      written.at_end vs n rest k stage cycle said ≡ Ok all → at_end (length vs) rest j stage cycle said ≡ Ok (n, all)
  end_too (b ∷ bs) all k j stage cycle said e = absurd cc
  end_too [] all k j stages.Start cycle said e = absurd cc
  end_too [] all k j stages.Dump cycle said e = absurd cc
  end_too [] all k j stages.Initial cycle said e = absurd cc
  end_too [] all k j stages.Ended cycle said e = absurd cc
  end_too [] all k j stages.Changed cycle said e = absurd cc
  end_too [] all k j stages.Opened cycle said e = go (cycle == n) (list_all (is_given said) (range_with_len 0 (length vs))) refl e
    where
      fault : ℕ → Option Refusal
      fault line = Some (record { number = WaveEnd; place = places.Line line })

      go : (b g : Bool) → (cycle == n) ≡ b → unless (if b && g then None else fault (k - 1)) said ≡ Ok all →
          (let pair : ℕ × List Change = (cycle, said) in unless (if true && g then None else fault (j - 1)) pair) ≡ Ok (n, all)
      go true true at f = (let c : cycle ≡ n = eqb-true cycle n at in let s : said ≡ all = cc in ap (λ (x : ℕ). Ok (x, said)) c ∙ ap (λ (x : List Change). Ok (n, x)) s)
      go true false at f = absurd cc
      go false g at f = absurd cc

  -- the lines of a text, whichever number its first line has
  pub lines_too : (rest : List ℕ) (all : List Change) (ls : List (List ℕ)) (k j : ℕ) (stage : Stage) (cycle : ℕ) (said : List Change) →
      lines_from (kinds vs) n (written.at_end vs n rest) k stage cycle said ls ≡ Ok all →
      lines_from (below (length vs)) last_cycle (at_end (length vs) rest) j stage cycle said ls ≡ Ok (n, all)
  unfolding lines_from
  lines_too rest all [] k j stage cycle said e = end_too rest all k j stage cycle said e
  lines_too rest all (text ∷ ls) k j stage cycle said e =
      go (verdict vs n stage cycle text) (λ stage cycle said f. lines_too rest all ls (suc k) (suc j) stage cycle said f) refl e
    where
      was : Stage → ℕ → List Change → Result (List Change) Refusal
      was stage cycle said = lines_from (kinds vs) n (written.at_end vs n rest) (suc k) stage cycle said ls

      on : Stage → ℕ → List Change → Result (ℕ × List Change) Refusal
      on stage cycle said = lines_from (below (length vs)) last_cycle (at_end (length vs) rest) (suc j) stage cycle said ls

      go : (says : Line) → ((stage : Stage) (cycle : ℕ) (said : List Change) → was stage cycle said ≡ Ok all → on stage cycle said ≡ Ok (n, all)) →
          verdict vs n stage cycle text ≡ says → after says k stage cycle said was ≡ Ok all →
          after (lines.verdict (below (length vs)) last_cycle stage cycle text) j stage cycle said on ≡ Ok (n, all)
      go (line.Goes next) more is f = ap (λ (l : Line). after l j stage cycle said on) (verdict_too stage cycle text (line.Goes next) is tt) ∙ more next cycle said f
      go (line.Time next) more is f =
          ap (λ (l : Line). after l j stage cycle said on) (verdict_too stage cycle text (line.Time next) is tt) ∙ more stages.Opened next said f
      go (line.Value i value) more is f =
          ap (λ (l : Line). after l j stage cycle said on) (verdict_too stage cycle text (line.Value i value) is tt)
          ∙ more (after_value stage) cycle (said ++ record { cycle = cycle; variable = i; value = value } ∷ []) f
      go (line.Faulty number) more is f = absurd cc
