-- What the changes of rows say of one variable, by its number.
use Rattle.std.proofs.Common.{◌≡◌, ◌≢◌, ◌<◌, ◌≤◌, ◌+◌, ◌==◌, ℕ, zero, suc, List, [], ◌∷◌, Bool, true, false}
use Rattle.std.proofs.Common.{if◌then◌else◌, inl, inr, Option, None, Some, refl, ap, sym, ◌∙◌, subst, arith}
use Rattle.std.specs.Prelude.{slice_get}
use Rattle.std.specs.Option.{option_map}
use Rattle.std.proofs.lemmas.Bool.{cases_lt, eq-eqb, ne_eqb, eqb-true}
use Rattle.std.proofs.lemmas.Option.{slice_get-map}
use Rattle.sim_base.specs.Rows.{Row}
use Rattle.board_model.proofs.Lists.{some_same}
use Rattle.law_board.specs.InForce.{row_at, row_from}
use Rattle.text_model.specs.Wave.{Variable, char_z, shown_value, values}
use Rattle.wave_lines.specs.Reading.{Change}
use Rattle.wave_lines.specs.Changes.{value_from}
use Rattle.wave_lines.proofs.ValueLemmas.{value_now, value_other, value_before, le_true, le_false}
use Rattle.law_wave.specs.Said.{told, all_told, some_told, later_told, rows_told}
use Rattle.law_wave.specs.Written.{AreLater, AreOfRun, value_in}
use Rattle.wave_decode.specs.Levels.{is_of}

module _ (i : ℕ) where
  abbrev pub value_at : List Change → ℕ → ℕ
  value_at said t = value_from (is_of (Some i)) char_z said t

  told_here : (said : List Change) (c j v t : ℕ) → j ≡ i → c ≤ t → value_at (told said c j v) t ≡ v
  told_here said c j v t same early = value_now (is_of (Some i)) said char_z (record { cycle = c; variable = j; value = v }) t (eq-eqb j i same) early

  told_other : (said : List Change) (c j v t : ℕ) → j ≢ i → value_at (told said c j v) t ≡ value_at said t
  told_other said c j v t other = value_other (is_of (Some i)) said char_z (record { cycle = c; variable = j; value = v }) t (ne_eqb j i other)

  told_before : (said : List Change) (c j v t : ℕ) → t < c → value_at (told said c j v) t ≡ value_at said t
  told_before said c j v t later = value_before (is_of (Some i)) said char_z (record { cycle = c; variable = j; value = v }) t later

  -- variables after this one
  all_other : (now : List ℕ) (said : List Change) (c j t : ℕ) → i < j → value_at (all_told said c j now) t ≡ value_at said t
  all_other [] said c j t past = refl
  all_other (v ∷ now) said c j t past = all_other now (told said c j v) c (suc j) t (omega (arith, past)) ∙ told_other said c j v t (λ e. omega (arith, e, past))

  all_at : (k : ℕ) (now : List ℕ) (said : List Change) (c j t v : ℕ) → j + k ≡ i → c ≤ t → slice_get now k ≡ Some v → value_at (all_told said c j now) t ≡ v
  all_at k [] said c j t v at early here = absurd cc
  all_at zero (u ∷ now) said c j t v at early here =
      let same : u ≡ v = some_same here in
      all_other now (told said c j u) c (suc j) t (omega (arith, at)) ∙ told_here said c j u t (omega (arith, at)) early ∙ same
  all_at (suc k) (u ∷ now) said c j t v at early here = all_at k now (told said c j u) c (suc j) t v (omega (arith, at)) early here

  some_other : (before now : List ℕ) (said : List Change) (c j t : ℕ) → i < j → value_at (some_told said c j before now) t ≡ value_at said t
  some_other before [] said c j t past = refl
  some_other [] (v ∷ now) said c j t past = refl
  some_other (u ∷ before) (v ∷ now) said c j t past = some_other before now (if u == v then said else told said c j v) c (suc j) t (omega (arith, past)) ∙ one (u == v)
    where
      one : (b : Bool) → value_at (if b then said else told said c j v) t ≡ value_at said t
      one true = refl
      one false = told_other said c j v t (λ e. omega (arith, e, past))

  some_at : (k : ℕ) (before now : List ℕ) (said : List Change) (c j t u v : ℕ) → j + k ≡ i → c ≤ t → slice_get before k ≡ Some u → slice_get now k ≡ Some v →
      value_at said t ≡ u → value_at (some_told said c j before now) t ≡ v
  some_at k before [] said c j t u v at early was here so_far = absurd cc
  some_at k [] (y ∷ now) said c j t u v at early was here so_far = absurd cc
  some_at zero (x ∷ before) (y ∷ now) said c j t u v at early was here so_far =
      some_other before now (if x == y then said else told said c j y) c (suc j) t (omega (arith, at)) ∙ one (x == y) refl
    where
      one : (b : Bool) → (x == y) ≡ b → value_at (if b then said else told said c j y) t ≡ v
      one true e = so_far ∙ sym (some_same was) ∙ eqb-true x y e ∙ some_same here
      one false e = told_here said c j y t (omega (arith, at)) early ∙ some_same here
  some_at (suc k) (x ∷ before) (y ∷ now) said c j t u v at early was here so_far =
      some_at k before now (if x == y then said else told said c j y) c (suc j) t u v (omega (arith, at)) early was here (one (x == y))
    where
      one : (b : Bool) → value_at (if b then said else told said c j y) t ≡ u
      one true = so_far
      one false = told_other said c j y t (λ e. omega (arith, e, at)) ∙ so_far

  some_before : (before now : List ℕ) (said : List Change) (c j t : ℕ) → t < c → value_at (some_told said c j before now) t ≡ value_at said t
  some_before before [] said c j t later = refl
  some_before [] (v ∷ now) said c j t later = refl
  some_before (u ∷ before) (v ∷ now) said c j t later = some_before before now (if u == v then said else told said c j v) c (suc j) t later ∙ one (u == v)
    where
      one : (b : Bool) → value_at (if b then said else told said c j v) t ≡ value_at said t
      one true = refl
      one false = told_before said c j v t later

  module _ (vs : List Variable) (n : ℕ) where
    -- later rows say nothing of a cycle
    later_before : (rows : List Row) (c t : ℕ) (before : List ℕ) (said : List Change) → AreLater c rows n → t ≤ c → value_at (later_told vs said before rows) t ≡ value_at said t
    later_before [] c t before said are early = refl
    later_before (row ∷ rows) c t before said are early =
        let later = are.0 in
        later_before rows row.cycle t (values vs row) (some_told said row.cycle 0 before (values vs row)) are.1 (omega (arith, early, later))
        ∙ some_before before (values vs row) said row.cycle 0 t (omega (arith, early, later))

    none_in_force : (rows : List Row) (c t : ℕ) (found : Option Row) → AreLater c rows n → t ≤ c → row_from found rows t ≡ found
    none_in_force [] c t found are early = refl
    none_in_force (row ∷ rows) c t found are early =
        let later = are.0 in
        ap (λ (b : Bool). row_from (if b then Some row else found) rows t) (le_false row.cycle t (omega (arith, early, later)))
        ∙ none_in_force rows row.cycle t found are.1 (omega (arith, early, later))

    module _ (w : Variable) (here : slice_get vs i ≡ Some w) where
      abbrev row_value : Row → ℕ
      row_value row = shown_value row.levels row.drives w.shows

      in_values : (row : Row) → slice_get (values vs row) i ≡ Some (row_value row)
      in_values row =
          slice_get-map (λ (v : Variable). shown_value row.levels row.drives v.shows) vs i
          ∙ ap (λ (o : Option Variable). option_map (λ (v : Variable). shown_value row.levels row.drives v.shows) o) here

      later_at : (rows : List Row) (was : Row) (said : List Change) → AreLater was.cycle rows n → ((t : ℕ) → was.cycle ≤ t → value_at said t ≡ row_value was) →
          (t : ℕ) → was.cycle ≤ t → value_at (later_told vs said (values vs was) rows) t ≡ value_in (row_from (Some was) rows t) w.shows
      later_at [] was said are so_far t early = so_far t early
      later_at (row ∷ rows) was said are so_far t early = elim (cases_lt t row.cycle) [
        | inl less ↦
            later_before rows row.cycle t (values vs row) (some_told said row.cycle 0 (values vs was) (values vs row)) are.1 (omega (arith, less))
            ∙ some_before (values vs was) (values vs row) said row.cycle 0 t less
            ∙ so_far t early
            ∙ ap (λ (o : Option Row). value_in o w.shows) (sym (ap (λ (b : Bool). row_from (if b then Some row else Some was) rows t) (le_false row.cycle t less)
            ∙ none_in_force rows row.cycle t (Some was) are.1 (omega (arith, less))))
        | inr least ↦
            later_at rows row (some_told said row.cycle 0 (values vs was) (values vs row)) are.1 now t least
            ∙ ap (λ (o : Option Row). value_in o w.shows) (sym (ap (λ (b : Bool). row_from (if b then Some row else Some was) rows t) (le_true row.cycle t least)))
      ]
        where
          now : (t : ℕ) → row.cycle ≤ t → value_at (some_told said row.cycle 0 (values vs was) (values vs row)) t ≡ row_value row
          now t p =
              let later = are.0 in
              some_at i (values vs was) (values vs row) said row.cycle 0 t (row_value was) (row_value row) (omega arith) p (in_values was) (in_values row) (so_far t (omega (arith, p, later)))

      -- the changes say of the variable what the row in force has
      pub number_at : (rows : List Row) → AreOfRun rows n → (t : ℕ) → value_at (rows_told vs rows) t ≡ value_in (row_at rows t) w.shows
      number_at [] are t = absurd are
      number_at (row ∷ rows) are t =
          let first : row.cycle ≡ 0 = are.0 in
          later_at rows row (all_told [] row.cycle 0 (values vs row)) (subst (λ (c : ℕ). AreLater c rows n) (sym first) are.1)
          (λ t p. all_at i (values vs row) [] row.cycle 0 t (row_value row) (omega arith) p (in_values row)) t (omega (arith, first))
          ∙ ap (λ (o : Option Row). value_in o w.shows) (sym (ap (λ (b : Bool). row_from (if b then Some row else None) rows t) (le_true row.cycle t (omega (arith, first)))))
