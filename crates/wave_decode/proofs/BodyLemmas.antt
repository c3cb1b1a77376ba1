-- What changes say of two variables, change by change, and the end of the lines.
use Rattle.std.proofs.Common.{◌≡◌, ◌<◌, ◌≤◌, ◌+◌, ◌-◌, ℕ, zero, suc, List, [], ◌∷◌, ◌++◌, get_or, replicate, Bool, true, false, if◌then◌else◌, Option, None, Some, Result, Ok, Err}
use Rattle.std.proofs.Common.{ap, sym, arith, ◌∙◌, inl, inr}
use Rattle.std.specs.List.{All, list_all, range_with_len}
use Rattle.std.proofs.lemmas.Bool.{cases_Bool}
use Rattle.std.proofs.lemmas.List.Elements.{All-append}
use Rattle.sim_base.specs.declared.fault.Refusal.{Refusal}
use Rattle.sim_base.specs.declared.signal.Level.{Level}
use Rattle.text_model.specs.Wave.{char_z}
use Rattle.wave_lines.specs.declared.line.Stage.{Stage}
use Rattle.wave_lines.specs.Gifts.{given_after, AreGiven}
use Rattle.wave_lines.specs.Reading.{Change, end_fault, ended_lines, is_given, unended, unless}
use Rattle.wave_lines.specs.Rows.{rows_to, with_value}
use Rattle.wave_lines.specs.Same.{same_level}
use Rattle.wave_lines.proofs.GivenLemmas.{all_given, given_more, given_none}
use Rattle.wave_lines.proofs.ReadingLemmas.{from_here, none_left}
use Rattle.wave_lines.proofs.RowLemmas.{rows_same, rows_set, rows_still}
use Rattle.wave_lines.proofs.SameLemmas.{level_refl, level_means}
use Rattle.wave_lines.proofs.ValueLemmas.{value_before, value_now, value_other, value_still}
use Rattle.wave_decode.specs.Bodies.{AreKept, BodyRows, unsaid}
use Rattle.wave_decode.specs.Levels.{LevelRow, at_end, below, is_of, is_opened, last_cycle, level_of, level_said, noted, rows_said}

module _ (v : Option ℕ) (said : List Change) where
  -- nothing more is said
  rows_later : (cycle next : ℕ) → All (λ (c : Change). c.cycle ≤ cycle) said → cycle ≤ next → rows_said v said cycle ≡ rows_said v said next
  rows_later cycle next all later =
      let e : cycle + (next - cycle) ≡ next = omega (arith, later) in
      sym (ap (λ (n : ℕ). rows_to same_level (level_said v said) (suc n)) (sym e)
      ∙ rows_still same_level level_refl level_means (level_said v said) cycle (next - cycle) (λ u p. ap level_of (value_still (is_of v) said char_z cycle u all p)))

  module _ (c : Change) where
    rows_of_it : is_of v c ≡ true → with_value same_level (rows_said v said c.cycle) c.cycle (level_of c.value) ≡ rows_said v (said ++ c ∷ []) c.cycle
    rows_of_it is =
        ap (λ (l : Level). with_value same_level (rows_said v said c.cycle) c.cycle l) (sym (ap level_of (value_now (is_of v) said char_z c c.cycle is (omega arith))))
        ∙ rows_set same_level level_refl level_means (level_said v said) (level_said v (said ++ c ∷ [])) c.cycle
        (λ u less. sym (ap level_of (value_before (is_of v) said char_z c u less)))

    rows_of_other : is_of v c ≡ false → rows_said v said c.cycle ≡ rows_said v (said ++ c ∷ []) c.cycle
    rows_of_other other =
        rows_same same_level level_refl level_means (level_said v said) (level_said v (said ++ c ∷ [])) (suc c.cycle)
        (λ u less. sym (ap level_of (value_other (is_of v) said char_z c u other)))

    rows_noted : (rows : List LevelRow) → rows ≡ rows_said v said c.cycle → noted v c.variable c.cycle c.value rows ≡ rows_said v (said ++ c ∷ []) c.cycle
    rows_noted rows are =
        ap (noted v c.variable c.cycle c.value) are ∙ elim (cases_Bool (is_of v c)) [
          | inl is ↦ ap (λ (b : Bool). if b then with_value same_level (rows_said v said c.cycle) c.cycle (level_of c.value) else rows_said v said c.cycle) is ∙ rows_of_it is
          | inr other ↦ ap (λ (b : Bool). if b then with_value same_level (rows_said v said c.cycle) c.cycle (level_of c.value) else rows_said v said c.cycle) other ∙ rows_of_other other
        ]

module _ (count : ℕ) (first second : Option ℕ) where
  pub kept_none : (given : List Bool) (of_first of_second : List LevelRow) → given ≡ replicate count false → of_first ≡ unsaid → of_second ≡ unsaid →
      AreKept count first second 0 [] given of_first of_second
  kept_none given of_first of_second e f s = record {
    so_far = λ k d p. absurd (omega (arith, p));
    all_given = given_none count given e;
    first_rows = f;
    second_rows = s;
  }

  pub kept_later : (cycle next : ℕ) (said : List Change) (given : List Bool) (of_first of_second : List LevelRow) → cycle ≤ next →
      AreKept count first second cycle said given of_first of_second → AreKept count first second next said given of_first of_second
  kept_later cycle next said given of_first of_second later are = record {
    so_far = λ k d p. (let h = are.so_far k d p in omega (arith, h, later));
    all_given = are.all_given;
    first_rows = are.first_rows ∙ rows_later first said cycle next are.so_far later;
    second_rows = are.second_rows ∙ rows_later second said cycle next are.so_far later;
  }

  pub kept_more : (cycle i value : ℕ) (said : List Change) (given : List Bool) (of_first of_second : List LevelRow) →
      AreKept count first second cycle said given of_first of_second →
      AreKept count first second cycle (said ++ record { cycle = cycle; variable = i; value = value } ∷ [])
      (given_after given i cycle) (noted first i cycle value of_first) (noted second i cycle value of_second)
  kept_more cycle i value said given of_first of_second are = record {
    so_far = All-append (λ (c : Change). c.cycle ≤ cycle) said (c ∷ []) are.so_far (λ k d p. one k d p);
    all_given = given_more count said c given are.all_given;
    first_rows = rows_noted first said c of_first are.first_rows;
    second_rows = rows_noted second said c of_second are.second_rows;
  }
    where
      c : Change
      c = record { cycle = cycle; variable = i; value = value }

      one : (k : ℕ) (d : Change) → k < 1 → (get_or (c ∷ []) k d).cycle ≤ cycle
      one zero d p = omega arith
      one (suc k) d p = absurd (omega (arith, p))

-- what the text is read as, by what is wrong at its end
module _ (count k : ℕ) (stage : Stage) (cycle : ℕ) (said : List Change) (rest : List ℕ) (given : List Bool) (whole : Result (ℕ × List Change) Refusal)
    (over all : Bool) (fault : Option Refusal)
    (are : AreGiven count said given) (so_far : from_here (below count) last_cycle (at_end count) k stage cycle said rest ≡ whole)
    (ended : ended_lines rest ≡ []) (last : unended rest ≡ rest)
    (over_is : over ≡ is_opened stage) (all_is : all ≡ list_all (λ (g : Bool). g) given) (fault_is : fault ≡ end_fault over all k rest) where
  fault_said : fault ≡ end_fault (is_opened stage) (list_all (is_given said) (range_with_len 0 count)) k rest
  fault_said =
      fault_is
      ∙ ap (λ (b : Bool). end_fault b all k rest) over_is
      ∙ ap (λ (b : Bool). end_fault (is_opened stage) b k rest) (all_is ∙ all_given count said given are)

  whole_is : unless fault (cycle, said) ≡ whole
  whole_is =
      ap (λ (o : Option Refusal). (let pair : ℕ × List Change = (cycle, said) in unless o pair)) fault_said
      ∙ none_left (below count) last_cycle (at_end count) k stage cycle said rest whole so_far ended last

  pub read_well : fault ≡ None → whole ≡ Ok (cycle, said)
  read_well none = sym whole_is ∙ ap (λ (o : Option Refusal). (let pair : ℕ × List Change = (cycle, said) in unless o pair)) none

  pub read_badly : (r : Refusal) → fault ≡ Some r → whole ≡ Err r
  read_badly r some = sym whole_is ∙ ap (λ (o : Option Refusal). (let pair : ℕ × List Change = (cycle, said) in unless o pair)) some

pub body_is : (cycles : ℕ) (first second first_said second_said : List LevelRow) → first ≡ first_said → second ≡ second_said →
    ◌≡◌ {A = BodyRows} (record { cycles = cycles; first = first; second = second }) (record { cycles = cycles; first = first_said; second = second_said })
body_is cycles first second first_said second_said e f = ap (λ (x : List LevelRow). made x second) e ∙ ap (λ (x : List LevelRow). made first_said x) f
  where
    made : List LevelRow → List LevelRow → BodyRows
    made x y = record { cycles = cycles; first = x; second = y }
