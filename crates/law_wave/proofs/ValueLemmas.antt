-- What the changes of rows say of a source, and that all variables have a first value.
use Rattle.std.proofs.Common.{◌≡◌, ◌≢◌, inl, inr, ◌<◌, ◌≤◌, ◌+◌, ◌==◌, ℕ, suc, List, [], ◌∷◌, length, Bool, true, false, not, ◌&&◌, ◌||◌, nat_le}
use Rattle.std.proofs.Common.{if◌then◌else◌, Option, None, Some, refl, ap, sym, ◌∙◌, subst, arith, get_or}
use Rattle.std.specs.Prelude.{slice_get}
use Rattle.std.specs.List.{list_all, range_with_len}
use Rattle.std.specs.Option.{option_map_or}
use Rattle.std.proofs.lemmas.Bool.{cases_eq, cases_lt, eq-eqb, eqb-true, or_left, or_right}
use Rattle.std.proofs.lemmas.List.{length-map}
use Rattle.std.proofs.lemmas.List.Folds.{list_any-append}
use Rattle.std.proofs.lemmas.List.FromFn.{get_or-range_with_len, length-range_with_len}
use Rattle.std.proofs.lemmas.List.Sums.{list_all-from_AllPass}
use Rattle.std.proofs.Math.Bool.{and-true, and-false}
use Rattle.sim_base.specs.Rows.{Row}
use Rattle.law_board.specs.InForce.{row_from}
use Rattle.law_board.proofs.OwnRows.{is_le, is_gt}
use Rattle.text_model.specs.Wave.{Source, Variable, char_z, shown_value, values}
use Rattle.wave_lines.specs.Reading.{Change, is_given}
use Rattle.wave_lines.specs.Changes.{value_from}
use Rattle.wave_lines.proofs.ValueLemmas.{value_push}
use Rattle.vcd_text.specs.Tracks.{shows}
use Rattle.law_wave.specs.Said.{told, all_told, some_told, later_told, rows_told}
use Rattle.law_wave.specs.Written.{AreLater, AreOfRun, is_shown, value_in, written_value}
use Rattle.law_wave.proofs.TextLemmas.{AreFrom, first_from, rest_from, all_from}

-- the last of several that has a value decides
either_value : (a b : Bool) (v now found : ℕ) → (a ≡ true → v ≡ now) → (if b then now else (if a then v else found)) ≡ (if a || b then now else found)
either_value true true v now found e = refl
either_value true false v now found e = e refl
either_value false b v now found e = refl

changed_value : (a b c d : Bool) (v now found : ℕ) → (a ≡ true → v ≡ now) → (a ≡ true → c ≡ d) →
    (if b && d then now else (if a && c then v else found)) ≡ (if (a || b) && d then now else found)
changed_value true true c true v now found e f = refl
changed_value true false c true v now found e f = ap (λ (x : Bool). if x then v else found) (f refl) ∙ e refl
changed_value true true c false v now found e f = ap (λ (x : Bool). if x then v else found) (f refl)
changed_value true false c false v now found e f = ap (λ (x : Bool). if x then v else found) (f refl)
changed_value false b c d v now found e f = refl

-- a value that changes where it differs is the new one
settled_value : (b : Bool) (was now none : ℕ) → (if b && not (was == now) then now else (if b then was else none)) ≡ (if b then now else none)
settled_value false was now none = refl
settled_value true was now none = go (was == now) refl
  where
    go : (d : Bool) → (was == now) ≡ d → (if true && not (was == now) then now else was) ≡ now
    go true e = ap (λ (d : Bool). if true && not d then now else was) e ∙ eqb-true was now e
    go false e = ap (λ (d : Bool). if true && not d then now else was) e

module _ (vs : List Variable) (test : Source → Bool) (source : Source) (only : (s : Source) → test s ≡ true → s ≡ source) where
  abbrev value_at : List Change → ℕ → ℕ
  value_at said t = value_from (shows vs test) char_z said t

  abbrev row_value : Row → ℕ
  row_value row = shown_value row.levels row.drives source

  row_value_is : (row : Row) (w : Variable) → test w.shows ≡ true → shown_value row.levels row.drives w.shows ≡ row_value row
  row_value_is row w e = ap (shown_value row.levels row.drives) (only w.shows e)

  told_at : (said : List Change) (c i v t : ℕ) (w : Variable) → slice_get vs i ≡ Some w → c ≤ t →
      value_at (told said c i v) t ≡ (if test w.shows then v else value_at said t)
  told_at said c i v t w here early =
      value_push (shows vs test) said char_z (record { cycle = c; variable = i; value = v }) t
      ∙ ap (λ (b : Bool). if b then v else value_at said t) (ap (λ (o : Option Variable). option_map_or (λ (x : Variable). test x.shows) o false && nat_le c t) here
      ∙ ap (λ (b : Bool). test w.shows && b) (is_le c t early) ∙ and-true (test w.shows))

  told_before : (said : List Change) (c i v t : ℕ) → t < c → value_at (told said c i v) t ≡ value_at said t
  told_before said c i v t later =
      let change : Change = record { cycle = c; variable = i; value = v } in
      value_push (shows vs test) said char_z change t
      ∙ ap (λ (b : Bool). if b then v else value_at said t) (ap (λ (b : Bool). shows vs test change && b) (is_gt c t later) ∙ and-false (shows vs test change))

  all_at : (row : Row) (c t : ℕ) → c ≤ t → (ws : List Variable) (i : ℕ) (said : List Change) → AreFrom vs i ws →
      value_at (all_told said c i (values ws row)) t ≡ (if is_shown test ws then row_value row else value_at said t)
  all_at row c t early [] i said from = refl
  all_at row c t early (w ∷ ws) i said from =
      let v : ℕ = shown_value row.levels row.drives w.shows in
      all_at row c t early ws (suc i) (told said c i v) (rest_from vs i w ws from)
      ∙ ap (λ (x : ℕ). if is_shown test ws then row_value row else x) (told_at said c i v t w (first_from vs i w ws from) early)
      ∙ either_value (test w.shows) (is_shown test ws) v (row_value row) (value_at said t) (row_value_is row w)

  some_at : (was row : Row) (c t : ℕ) → c ≤ t → (ws : List Variable) (i : ℕ) (said : List Change) → AreFrom vs i ws →
      value_at (some_told said c i (values ws was) (values ws row)) t ≡ (if is_shown test ws && not (row_value was == row_value row) then row_value row else value_at said t)
  some_at was row c t early [] i said from = refl
  some_at was row c t early (w ∷ ws) i said from =
      some_at was row c t early ws (suc i) (if u == v then said else told said c i v) (rest_from vs i w ws from)
      ∙ ap (λ (x : ℕ). if is_shown test ws && not (row_value was == row_value row) then row_value row else x) (one (u == v) refl)
      ∙ changed_value (test w.shows) (is_shown test ws) (not (u == v)) (not (row_value was == row_value row)) v (row_value row) (value_at said t) (row_value_is row w) same
    where
      u : ℕ
      u = shown_value was.levels was.drives w.shows

      v : ℕ
      v = shown_value row.levels row.drives w.shows

      one : (b : Bool) → (u == v) ≡ b → value_at (if u == v then said else told said c i v) t ≡ (if test w.shows && not (u == v) then v else value_at said t)
      one true e =
          ap (λ (b : Bool). value_at (if b then said else told said c i v) t) e
          ∙ sym (ap (λ (b : Bool). if test w.shows && not b then v else value_at said t) e ∙ ap (λ (b : Bool). if b then v else value_at said t) (and-false (test w.shows)))
      one false e =
          ap (λ (b : Bool). value_at (if b then said else told said c i v) t) e ∙ told_at said c i v t w (first_from vs i w ws from) early
          ∙ sym (ap (λ (b : Bool). if test w.shows && not b then v else value_at said t) e ∙ ap (λ (b : Bool). if b then v else value_at said t) (and-true (test w.shows)))

      same : test w.shows ≡ true → not (u == v) ≡ not (row_value was == row_value row)
      same e = ap (λ (x : ℕ). not (x == v)) (row_value_is was w e) ∙ ap (λ (x : ℕ). not (row_value was == x)) (row_value_is row w e)

  some_before : (c t : ℕ) → t < c → (before now : List ℕ) (i : ℕ) (said : List Change) → value_at (some_told said c i before now) t ≡ value_at said t
  some_before c t later before [] i said = refl
  some_before c t later [] (v ∷ now) i said = refl
  some_before c t later (u ∷ before) (v ∷ now) i said = some_before c t later before now (suc i) (if u == v then said else told said c i v) ∙ one (u == v)
    where
      one : (b : Bool) → value_at (if b then said else told said c i v) t ≡ value_at said t
      one true = refl
      one false = told_before said c i v t later

  -- rows that come later say nothing of a cycle
  later_before : (n t : ℕ) (rows : List Row) (c : ℕ) (before : List ℕ) (said : List Change) → AreLater c rows n → t ≤ c →
      value_at (later_told vs said before rows) t ≡ value_at said t
  later_before n t [] c before said are early = refl
  later_before n t (row ∷ rows) c before said are early =
      let later = are.0 in
      later_before n t rows row.cycle (values vs row) (some_told said row.cycle 0 before (values vs row)) are.1 (omega (arith, early, later))
      ∙ some_before row.cycle t (omega (arith, early, later)) before (values vs row) 0 said

  -- nor are they in force
  none_in_force : (n t : ℕ) (rows : List Row) (c : ℕ) (found : Option Row) → AreLater c rows n → t ≤ c → row_from found rows t ≡ found
  none_in_force n t [] c found are early = refl
  none_in_force n t (row ∷ rows) c found are early =
      let later = are.0 in
      ap (λ (b : Bool). row_from (if b then Some row else found) rows t) (is_gt row.cycle t (omega (arith, early, later)))
      ∙ none_in_force n t rows row.cycle found are.1 (omega (arith, early, later))

  abbrev in_row : Option Row → ℕ
  in_row row = if is_shown test vs then value_in row source else char_z

  later_at : (n : ℕ) (rows : List Row) (was : Row) (said : List Change) → AreLater was.cycle rows n → ((t : ℕ) → was.cycle ≤ t → value_at said t ≡ in_row (Some was)) →
      (t : ℕ) → was.cycle ≤ t → value_at (later_told vs said (values vs was) rows) t ≡ in_row (row_from (Some was) rows t)
  later_at n [] was said are so_far t early = so_far t early
  later_at n (row ∷ rows) was said are so_far t early = elim (cases_lt t row.cycle) [
    | inl less ↦
        later_before n t rows row.cycle (values vs row) (some_told said row.cycle 0 (values vs was) (values vs row)) are.1 (omega (arith, less))
        ∙ some_before row.cycle t less (values vs was) (values vs row) 0 said
        ∙ so_far t early
        ∙ ap in_row (sym (ap (λ (b : Bool). row_from (if b then Some row else Some was) rows t) (is_gt row.cycle t less)
        ∙ none_in_force n t rows row.cycle (Some was) are.1 (omega (arith, less))))
    | inr least ↦
        later_at n rows row (some_told said row.cycle 0 (values vs was) (values vs row)) are.1 here t least
        ∙ ap in_row (sym (ap (λ (b : Bool). row_from (if b then Some row else Some was) rows t) (is_le row.cycle t least)))
  ]
    where
      here : (t : ℕ) → row.cycle ≤ t → value_at (some_told said row.cycle 0 (values vs was) (values vs row)) t ≡ in_row (Some row)
      here t p =
          let later = are.0 in
          some_at was row row.cycle t p vs 0 said (all_from vs)
          ∙ ap (λ (x : ℕ). if is_shown test vs && not (row_value was == row_value row) then row_value row else x) (so_far t (omega (arith, p, later)))
          ∙ settled_value (is_shown test vs) (row_value was) (row_value row) char_z

  -- the changes say of the source what the row in force has
  pub rows_at : (n : ℕ) (rows : List Row) → AreOfRun rows n → (t : ℕ) → value_at (rows_told vs rows) t ≡ written_value vs rows test source t
  rows_at n [] are t = absurd are
  rows_at n (row ∷ rows) are t =
      let first : row.cycle ≡ 0 = are.0 in
      later_at n rows row (all_told [] row.cycle 0 (values vs row)) (subst (λ (c : ℕ). AreLater c rows n) (sym first) are.1)
      (λ t p. all_at row row.cycle t p vs 0 [] (all_from vs)) t (omega (arith, first))
      ∙ ap in_row (sym (ap (λ (b : Bool). row_from (if b then Some row else None) rows t) (is_le row.cycle t (omega (arith, first)))))

-- ---- first values

told_adds : (said : List Change) (c i v j : ℕ) → is_given (told said c i v) j ≡ (is_given said j || ((c == 0 && i == j) || false))
told_adds said c i v j = list_any-append (λ (d : Change). d.cycle == 0 && d.variable == j) said (record { cycle = c; variable = i; value = v } ∷ [])

told_keeps : (said : List Change) (c i v j : ℕ) → is_given said j ≡ true → is_given (told said c i v) j ≡ true
told_keeps said c i v j given = told_adds said c i v j ∙ or_left (is_given said j) ((c == 0 && i == j) || false) given

told_gives : (said : List Change) (i v : ℕ) → is_given (told said 0 i v) i ≡ true
told_gives said i v = told_adds said 0 i v i ∙ or_right (is_given said i) ((0 == 0 && i == i) || false) (or_left (i == i) false (eq-eqb i i refl))

all_keeps : (now : List ℕ) (said : List Change) (c i j : ℕ) → is_given said j ≡ true → is_given (all_told said c i now) j ≡ true
all_keeps [] said c i j given = given
all_keeps (v ∷ now) said c i j given = all_keeps now (told said c i v) c (suc i) j (told_keeps said c i v j given)

some_keeps : (before now : List ℕ) (said : List Change) (c i j : ℕ) → is_given said j ≡ true → is_given (some_told said c i before now) j ≡ true
some_keeps before [] said c i j given = given
some_keeps [] (v ∷ now) said c i j given = given
some_keeps (u ∷ before) (v ∷ now) said c i j given = some_keeps before now (if u == v then said else told said c i v) c (suc i) j (one (u == v))
  where
    one : (b : Bool) → is_given (if b then said else told said c i v) j ≡ true
    one true = given
    one false = told_keeps said c i v j given

later_keeps : (vs : List Variable) (rows : List Row) (before : List ℕ) (said : List Change) (j : ℕ) → is_given said j ≡ true → is_given (later_told vs said before rows) j ≡ true
later_keeps vs [] before said j given = given
later_keeps vs (row ∷ rows) before said j given =
    later_keeps vs rows (values vs row) (some_told said row.cycle 0 before (values vs row)) j (some_keeps before (values vs row) said row.cycle 0 j given)

all_gives : (now : List ℕ) (said : List Change) (i j : ℕ) → i ≤ j → j < i + length now → is_given (all_told said 0 i now) j ≡ true
all_gives [] said i j least less = absurd (omega (arith, least, less))
all_gives (v ∷ now) said i j least less = elim (cases_eq i j) [
  | inl same ↦ all_keeps now (told said 0 i v) 0 (suc i) j (subst (λ (k : ℕ). is_given (told said 0 i v) k ≡ true) same (told_gives said i v))
  | inr other ↦ all_gives now (told said 0 i v) (suc i) j (differ i j least other) (omega (arith, less))
]
  where
    differ : (i j : ℕ) → i ≤ j → i ≢ j → suc i ≤ j
    differ i j p q = grind (arith, p, q)

-- all variables have a value in cycle 0
pub all_given : (vs : List Variable) (n : ℕ) (rows : List Row) → AreOfRun rows n → list_all (is_given (rows_told vs rows)) (range_with_len 0 (length vs)) ≡ true
all_given vs n [] are = absurd are
all_given vs n (row ∷ rows) are = list_all-from_AllPass (is_given (rows_told vs (row ∷ rows))) (range_with_len 0 (length vs)) (λ k d less.
    let within : k < length vs = omega (arith, less, length-range_with_len 0 (length vs)) in
    let e : get_or (range_with_len 0 (length vs)) k d ≡ 0 + k = get_or-range_with_len 0 (length vs) k d within in
    let long : length (values vs row) ≡ length vs = length-map vs (λ (v : Variable). shown_value row.levels row.drives v.shows) in
    subst (λ (j : ℕ). is_given (rows_told vs (row ∷ rows)) j ≡ true) (sym e)
    (later_keeps vs rows (values vs row) (all_told [] row.cycle 0 (values vs row)) (0 + k)
    (subst (λ (c : ℕ). is_given (all_told [] c 0 (values vs row)) (0 + k) ≡ true) (sym are.0)
    (all_gives (values vs row) [] 0 (0 + k) (omega arith) (omega (arith, within, long))))))
