-- The text of rows is read as their changes.
use Rattle.std.proofs.Common.{◌≡◌, ◌<◌, ◌≤◌, ◌+◌, ◌*◌, ◌^◌, ◌==◌, ℕ, suc, List, [], ◌∷◌, ◌++◌, length, Bool, true, false}
use Rattle.std.proofs.Common.{if◌then◌else◌, Some, Ok, Err, refl, ap, sym, ◌∙◌, subst, arith}
use Rattle.std.specs.Prelude.{codes, slice_get}
use Rattle.std.specs.List.{list_all, range_with_len}
use Rattle.std.proofs.lemmas.Bool.{eq-eqb, eqb-true}
use Rattle.std.proofs.lemmas.List.{append_assoc, append-nil, length-map}
use Rattle.std.specs.Fmt.{digits}
use Rattle.sim_base.specs.declared.fault.Place.TheVariants as places
use Rattle.sim_refusals.specs.Refusals.{WaveHead}
use Rattle.sim_base.specs.Rows.{Row}
use Rattle.text_model.specs.Wave.{Variable, shown_value, values, head, time_line, value_line, value_lines, initial_values, changes, change_count, value_changes}
use Rattle.text_model.specs.Wave.{later_text, begun_text, wave_text}
use Rattle.wave_lines.specs.declared.line.Stage.{Stage}
use Rattle.wave_lines.specs.declared.line.Stage.TheVariants as stages
use Rattle.wave_lines.specs.Reading.{Change, behind, end_fault, ended_lines, is_given, lines_from, unended, unless}
use Rattle.wave_lines.proofs.TextLemmas.{IsUnbroken}
use Rattle.vcd_text.specs.Reading.{changes_behind, changes_of}
use Rattle.law_wave.specs.Said.{told, all_told, some_told, later_told, rows_told}
use Rattle.law_wave.specs.Written.{AreLater, AreOfRun}
use Rattle.law_wave.proofs.DigitLemmas.{by_test}
use Rattle.law_wave.proofs.LineLemmas.{in_first, in_opened, in_changed, MayTime, after_first, after_changed, Says, says_as, goes_says, time_says, value_says}

zero_unbroken : IsUnbroken (codes "#0")
zero_unbroken = by_test (codes "#0") refl

dump_unbroken : IsUnbroken (codes "$dumpvars")
dump_unbroken = by_test (codes "$dumpvars") refl

end_unbroken : IsUnbroken (codes "$end")
end_unbroken = by_test (codes "$end") refl

-- from number i on the variables are these
abbrev pub AreFrom : List Variable → ℕ → List Variable → Type 0
AreFrom vs i ws = (j : ℕ) → slice_get vs (i + j) ≡ slice_get ws j

pub first_from : (vs : List Variable) (i : ℕ) (w : Variable) (ws : List Variable) → AreFrom vs i (w ∷ ws) → slice_get vs i ≡ Some w
first_from vs i w ws from = let e : i ≡ i + 0 = omega arith in ap (slice_get vs) e ∙ from 0

pub rest_from : (vs : List Variable) (i : ℕ) (w : Variable) (ws : List Variable) → AreFrom vs i (w ∷ ws) → AreFrom vs (suc i) ws
rest_from vs i w ws from j = let e : suc i + j ≡ i + suc j = omega arith in ap (slice_get vs) e ∙ from (suc j)

pub all_from : (vs : List Variable) → AreFrom vs 0 vs
all_from vs j = let e : 0 + j ≡ j = omega arith in ap (slice_get vs) e

-- ---- a row

-- a row that changes no value says nothing
pub none_told : (said : List Change) (cycle i : ℕ) (before now : List ℕ) → (change_count before now == 0) ≡ true → some_told said cycle i before now ≡ said
unfolding change_count
none_told said cycle i before [] none = refl
none_told said cycle i [] (v ∷ now) none = refl
none_told said cycle i (u ∷ before) (v ∷ now) none = go (u == v) refl (none_told said cycle (suc i) before now)
  where
    no_more : (k : ℕ) → (1 + k == 0) ≡ true → ⊥
    no_more k e = let f = eqb-true (1 + k) 0 e in omega (arith, f)

    go : (b : Bool) → (u == v) ≡ b → ((change_count before now == 0) ≡ true → some_told said cycle (suc i) before now ≡ said) →
        some_told (if u == v then said else told said cycle i v) cycle (suc i) before now ≡ said
    go true e more =
        ap (λ (b : Bool). some_told (if b then said else told said cycle i v) cycle (suc i) before now) e
        ∙ more (let z : change_count before now ≡ 0 + change_count before now = omega arith in
        ap (λ (k : ℕ). k == 0) z ∙ ap (λ (b : Bool). (if b then 0 else 1) + change_count before now == 0) (sym e) ∙ none)
    go false e more = absurd (no_more (change_count before now) (ap (λ (b : Bool). (if b then 0 else 1) + change_count before now == 0) (sym e) ∙ none))

module _ (vs : List Variable) (n : ℕ) (few : length vs ≤ 8930) (row : Row) (rest : List ℕ) (all : List Change) where
  -- the values of all variables
  pub all_says : (ws : List Variable) (i : ℕ) (said : List Change) → AreFrom vs i ws → i + length ws ≤ 8930 →
      Says vs n stages.Initial row.cycle (all_told said row.cycle i (values ws row)) rest all →
      Says vs n stages.Initial row.cycle said (value_lines i (values ws row) ++ rest) all
  unfolding value_lines
  all_says [] i said from within more = more
  all_says (w ∷ ws) i said from within more =
      let v : ℕ = shown_value row.levels row.drives w.shows in
      says_as vs n _ _ (append_assoc (value_line i v) (value_lines (suc i) (values ws row)) rest)
      (value_says vs n stages.Initial row.cycle i said all (value_lines (suc i) (values ws row) ++ rest) row.levels row.drives w in_first
      (omega (arith, within)) (first_from vs i w ws from)
      (all_says ws (suc i) (told said row.cycle i v) (rest_from vs i w ws from) (omega (arith, within)) more))

  -- the values of those that changed
  pub some_says : (ws : List Variable) (i : ℕ) (before : List ℕ) (said : List Change) → AreFrom vs i ws → i + length ws ≤ 8930 → length before ≡ length ws →
      Says vs n stages.Changed row.cycle (some_told said row.cycle i before (values ws row)) rest all →
      Says vs n stages.Changed row.cycle said (changes i before (values ws row) ++ rest) all
  unfolding changes
  some_says [] i before said from within long more = more
  some_says (w ∷ ws) i [] said from within long more = absurd (omega (arith, long))
  some_says (w ∷ ws) i (u ∷ before) said from within long more =
      go (u == v) refl (λ said h. some_says ws (suc i) before said (rest_from vs i w ws from) (omega (arith, within)) (omega (arith, long)) h)
    where
      v : ℕ
      v = shown_value row.levels row.drives w.shows

      now : List ℕ
      now = values ws row

      go : (b : Bool) → (u == v) ≡ b → ((said : List Change) → Says vs n stages.Changed row.cycle (some_told said row.cycle (suc i) before now) rest all →
          Says vs n stages.Changed row.cycle said (changes (suc i) before now ++ rest) all) →
          Says vs n stages.Changed row.cycle said (((if u == v then [] else value_line i v) ++ changes (suc i) before now) ++ rest) all
      go true e later =
          says_as vs n _ _ (ap (λ (b : Bool). ((if b then [] else value_line i v) ++ changes (suc i) before now) ++ rest) e)
          (later said (subst (λ (b : Bool). Says vs n stages.Changed row.cycle (some_told (if b then said else told said row.cycle i v) row.cycle (suc i) before now) rest all) e more))
      go false e later =
          says_as vs n _ _ (ap (λ (b : Bool). ((if b then [] else value_line i v) ++ changes (suc i) before now) ++ rest) e
          ∙ append_assoc (value_line i v) (changes (suc i) before now) rest)
          (value_says vs n stages.Changed row.cycle i said all (changes (suc i) before now ++ rest) row.levels row.drives w in_changed
          (omega (arith, within)) (first_from vs i w ws from)
          (later (told said row.cycle i v)
          (subst (λ (b : Bool). Says vs n stages.Changed row.cycle (some_told (if b then said else told said row.cycle i v) row.cycle (suc i) before now) rest all) e more)))

  -- the same where the first of them comes behind a time
  pub first_says : (ws : List Variable) (i : ℕ) (before : List ℕ) (said : List Change) → AreFrom vs i ws → i + length ws ≤ 8930 → length before ≡ length ws →
      (change_count before (values ws row) == 0) ≡ false →
      Says vs n stages.Changed row.cycle (some_told said row.cycle i before (values ws row)) rest all →
      Says vs n stages.Opened row.cycle said (changes i before (values ws row) ++ rest) all
  unfolding changes change_count
  first_says [] i before said from within long some more = absurd cc
  first_says (w ∷ ws) i [] said from within long some more = absurd (omega (arith, long))
  first_says (w ∷ ws) i (u ∷ before) said from within long some more =
      go (u == v) refl (λ none h. first_says ws (suc i) before said (rest_from vs i w ws from) (omega (arith, within)) (omega (arith, long)) none h)
    where
      v : ℕ
      v = shown_value row.levels row.drives w.shows

      now : List ℕ
      now = values ws row

      go : (b : Bool) → (u == v) ≡ b → ((change_count before now == 0) ≡ false → Says vs n stages.Changed row.cycle (some_told said row.cycle (suc i) before now) rest all →
          Says vs n stages.Opened row.cycle said (changes (suc i) before now ++ rest) all) →
          Says vs n stages.Opened row.cycle said (((if u == v then [] else value_line i v) ++ changes (suc i) before now) ++ rest) all
      go true e later =
          says_as vs n _ _ (ap (λ (b : Bool). ((if b then [] else value_line i v) ++ changes (suc i) before now) ++ rest) e)
          (later (let z : change_count before now ≡ 0 + change_count before now = omega arith in
          ap (λ (k : ℕ). k == 0) z ∙ ap (λ (b : Bool). (if b then 0 else 1) + change_count before now == 0) (sym e) ∙ some)
          (subst (λ (b : Bool). Says vs n stages.Changed row.cycle (some_told (if b then said else told said row.cycle i v) row.cycle (suc i) before now) rest all) e more))
      go false e later =
          says_as vs n _ _ (ap (λ (b : Bool). ((if b then [] else value_line i v) ++ changes (suc i) before now) ++ rest) e
          ∙ append_assoc (value_line i v) (changes (suc i) before now) rest)
          (value_says vs n stages.Opened row.cycle i said all (changes (suc i) before now ++ rest) row.levels row.drives w in_opened
          (omega (arith, within)) (first_from vs i w ws from)
          (some_says ws (suc i) before (told said row.cycle i v) (rest_from vs i w ws from) (omega (arith, within)) (omega (arith, long))
          (subst (λ (b : Bool). Says vs n stages.Changed row.cycle (some_told (if b then said else told said row.cycle i v) row.cycle (suc i) before now) rest all) e more)))

-- ---- rows

in_lines : (now rest : List ℕ) → initial_values 0 now ++ rest ≡ codes "#0\n" ++ (codes "$dumpvars\n" ++ (value_lines 0 now ++ (codes "$end\n" ++ rest)))
unfolding digits
in_lines now rest = ap (λ (l : List ℕ). codes "#0\n$dumpvars\n" ++ l) (append_assoc (value_lines 0 now) (codes "$end\n") rest)

later_within : (n : ℕ) (rows : List Row) (c : ℕ) → AreLater c rows n → c < n
later_within n [] c are = are
later_within n (row ∷ rows) c are = let more = later_within n rows row.cycle are.1 in let first = are.0 in omega (arith, more, first)

module _ (vs : List Variable) (n : ℕ) (few : length vs ≤ 8930) (small : 625 * n < 2 ^ 64) where
  -- the run's end
  end_says : (stage : Stage) (cycle : ℕ) (said : List Change) → MayTime stage → cycle < n →
      list_all (is_given said) (range_with_len 0 (length vs)) ≡ true → Says vs n stage cycle said (time_line n) said
  unfolding lines_from ended_lines unended
  end_says stage cycle said may later given =
      says_as vs n (time_line n) (time_line n ++ []) (sym (append-nil (time_line n)))
      (time_says vs n stage cycle n said said [] may small later (omega arith) (record { read = λ k. over k (n == n) (eq-eqb n n refl) }))
    where
      over : (k : ℕ) (b : Bool) → b ≡ true → unless (end_fault b (list_all (is_given said) (range_with_len 0 (length vs))) k []) said ≡ Ok said
      over k b e = ap (λ (b : Bool). unless (end_fault b (list_all (is_given said) (range_with_len 0 (length vs))) k []) said) e
          ∙ ap (λ (g : Bool). unless (end_fault true g k []) said) given

  values_long : (row : Row) → length (values vs row) ≡ length vs
  values_long row = length-map vs (λ (v : Variable). shown_value row.levels row.drives v.shows)

  -- the rows behind one, as far as the run's end
  later_says : (rows : List Row) (before : Row) (stage : Stage) (cycle : ℕ) (said : List Change) → MayTime stage → cycle ≤ before.cycle →
      AreLater before.cycle rows n → list_all (is_given (later_told vs said (values vs before) rows)) (range_with_len 0 (length vs)) ≡ true →
      Says vs n stage cycle said (later_text vs (values vs before) rows ++ time_line n) (later_told vs said (values vs before) rows)
  unfolding later_text
  later_says [] before stage cycle said may early are given = end_says stage cycle said may (omega (arith, early, are)) given
  later_says (row ∷ rows) before stage cycle said may early are given =
      says_as vs n _ _ (append_assoc (value_changes row.cycle was now) (later_text vs now rows) (time_line n))
      (go (change_count was now == 0) refl (λ stage cycle said may early given. later_says rows row stage cycle said may early are.1 given))
    where
      was : List ℕ
      was = values vs before

      now : List ℕ
      now = values vs row

      rest : List ℕ
      rest = later_text vs now rows ++ time_line n

      whole : List Change
      whole = later_told vs (some_told said row.cycle 0 was now) now rows

      go : (b : Bool) → (change_count was now == 0) ≡ b →
          ((stage : Stage) (cycle : ℕ) (said : List Change) → MayTime stage → cycle ≤ row.cycle →
          list_all (is_given (later_told vs said now rows)) (range_with_len 0 (length vs)) ≡ true → Says vs n stage cycle said rest (later_told vs said now rows)) →
          Says vs n stage cycle said (value_changes row.cycle was now ++ rest) whole
      go true none later =
          let same : some_told said row.cycle 0 was now ≡ said = none_told said row.cycle 0 was now none in
          says_as vs n _ _ (ap (λ (b : Bool). (if b then [] else time_line row.cycle ++ changes 0 was now) ++ rest) none)
          (subst (λ (told : List Change). Says vs n stage cycle said rest (later_told vs told now rows)) (sym same)
          (later stage cycle said may (omega (arith, early, are.0))
          (subst (λ (told : List Change). list_all (is_given (later_told vs told now rows)) (range_with_len 0 (length vs)) ≡ true) same given)))
      go false some later =
          let within : row.cycle < n = later_within n rows row.cycle are.1 in
          says_as vs n _ _ (ap (λ (b : Bool). (if b then [] else time_line row.cycle ++ changes 0 was now) ++ rest) some
          ∙ append_assoc (time_line row.cycle) (changes 0 was now) rest)
          (time_says vs n stage cycle row.cycle said whole (changes 0 was now ++ rest) may small (omega (arith, early, are.0)) (omega (arith, within))
          (first_says vs n few row rest whole vs 0 was said (all_from vs) (omega (arith, few)) (values_long before) some
          (later stages.Changed row.cycle (some_told said row.cycle 0 was now) after_changed (omega arith) given)))

  -- from the first line behind the head
  first_row_says : (row : Row) (rows : List Row) → row.cycle ≡ 0 → AreLater 0 rows n →
      list_all (is_given (rows_told vs (row ∷ rows))) (range_with_len 0 (length vs)) ≡ true →
      Says vs n stages.Start 0 [] (initial_values row.cycle (values vs row) ++ (later_text vs (values vs row) rows ++ time_line n)) (rows_told vs (row ∷ rows))
  first_row_says row rows first are given =
      let now : List ℕ = values vs row in
      let rest : List ℕ = later_text vs now rows ++ time_line n in
      let whole : List Change = rows_told vs (row ∷ rows) in
      let dumped : List ℕ = value_lines 0 now ++ (codes "$end\n" ++ rest) in
      let later : AreLater row.cycle rows n = subst (λ (c : ℕ). AreLater c rows n) (sym first) are in
      says_as vs n _ _ (ap (λ (l : List ℕ). l ++ rest) (ap (λ (c : ℕ). initial_values c now) first) ∙ in_lines now rest)
      (goes_says vs n stages.Start stages.Dump 0 [] whole (codes "#0") (codes "$dumpvars\n" ++ dumped) zero_unbroken refl
      (goes_says vs n stages.Dump stages.Initial 0 [] whole (codes "$dumpvars") dumped dump_unbroken refl
      (subst (λ (c : ℕ). Says vs n stages.Initial c [] dumped whole) first
      (all_says vs n few row (codes "$end\n" ++ rest) whole vs 0 [] (all_from vs) (omega (arith, few))
      (goes_says vs n stages.Initial stages.Ended row.cycle (all_told [] row.cycle 0 now) whole (codes "$end") rest end_unbroken refl
      (later_says rows row stages.Ended row.cycle (all_told [] row.cycle 0 now) after_first (omega arith) later given))))))

  -- ---- the head

  behind_head : (head rest : List ℕ) (k : ℕ) → (m : ℕ) × (behind k head (head ++ rest) ≡ Ok (m, rest))
  unfolding behind
  behind_head [] rest k = (k, refl)
  behind_head (h ∷ hs) rest k =
      let next : ℕ = if h == 10 then suc k else k in
      let more = behind_head hs rest next in
      (more.0, ap (λ (b : Bool). if b then behind next hs (hs ++ rest) else Err (record { number = WaveHead; place = places.Line k })) (eq-eqb h h refl) ∙ more.1)

  -- The wave of the rows of a run is read as their changes.
  pub changes_read : (rows : List Row) → AreOfRun rows n → list_all (is_given (rows_told vs rows)) (range_with_len 0 (length vs)) ≡ true →
      changes_of vs n (wave_text vs rows n) ≡ Ok (rows_told vs rows)
  unfolding begun_text
  changes_read [] are given = absurd are
  changes_read (row ∷ rows) are given =
      let first : List ℕ = initial_values row.cycle (values vs row) in
      let later : List ℕ = later_text vs (values vs row) rows in
      let lines : List ℕ = first ++ (later ++ time_line n) in
      let found = behind_head (head vs) lines 1 in
      ap (λ (text : List ℕ). changes_of vs n text) (append_assoc (head vs ++ first) later (time_line n) ∙ append_assoc (head vs) first (later ++ time_line n))
      ∙ ap (changes_behind vs n) found.1
      ∙ (first_row_says row rows are.0 are.1 given).read found.0
