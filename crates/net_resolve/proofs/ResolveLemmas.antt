-- The sums by group and by area give the levels of the definition.
use Rattle.net_resolve.proofs.Common.{◌≡◌, ℕ, zero, suc, ◌<◌, List, [], ◌∷◌, ◌++◌, length, map, Bool, true, false, not, refl, ap, sym, ◌∙◌, arith, ◌⊎◌, inl}
use Rattle.net_resolve.proofs.Common.{inr, subst, Some, slice_get_within, list_any-append, ◌==◌, ◌&&◌, ◌||◌, if◌then◌else◌, slice_get, slice_index, zip}
use Rattle.net_resolve.proofs.Common.{list_any, flat_map, both_ways, cases_Bool, not-false, or_cases, or_left, or_right, and_parts, or-true, and-true}
use Rattle.net_resolve.proofs.Common.{and-false, ArePairs, Drive, Level, value_of, Walk, here, further, below, joins, joined_by, contact_joins, has_strong}
use Rattle.net_resolve.proofs.Common.{is_driven, passes, reaches, collected, level_of, level_of_values, level_of_all, walk_sound, walk_complete, some_same}
use Rattle.net_resolve.proofs.Common.{get-below, length-below, AreLabels, Joins, joins_cases, joins_is, joins_swap}
use Rattle.sim_base.specs.declared.signal.Drive.TheVariants as drives
use Rattle.sim_base.specs.declared.signal.Level.TheVariants as levels
use Rattle.board_model.specs.Resolve.{level_of_drives, resolve, is_value}
use Rattle.net_resolve.specs.Sums.{is_loose, sum_at, added, weak_level, over_adds, resistors_add, together, own_level, level_here}
use Rattle.net_resolve.proofs.ReachLemmas.{any_at, any_some, map_here, one_label, strong_is}
use Rattle.net_resolve.proofs.AreaLemmas.{Grouped, bridges_of, loose_here, passes_within, area_is}
use Rattle.net_resolve.proofs.ValueLemmas.{values_together, or_end, any_value, weak_of, weak_added, weak_alone}

-- what is added where the same pins count
added_same : (gives : Drive → Level) (count : ℕ) (f h : ℕ → Bool) → ((n : ℕ) → n < count → f n ≡ h n) → (ns : List ℕ) (ds : List Drive) (sum : Level) →
    ((k n : ℕ) → slice_get ns k ≡ Some n → n < count) → added gives f sum (zip ns ds) ≡ added gives h sum (zip ns ds)
unfolding added
added_same gives count f h same [] ds sum within = refl
added_same gives count f h same (n ∷ ns) [] sum within = refl
added_same gives count f h same (n ∷ ns) (d ∷ ds) sum within =
    ap (λ (b : Bool). added gives f (if b then together sum (gives d) else sum) (zip ns ds)) (same n (within 0 n refl))
    ∙ added_same gives count f h same ns ds (if h n then together sum (gives d) else sum) (λ k m e. within (suc k) m e)

pub any_flat_some : {A B : Type 0} (test : B → Bool) (f : A → List B) (xs : List A) → list_any test (flat_map f xs) ≡ true → (k : ℕ) × (x : A) × (slice_get xs k ≡ Some x) × (list_any test (f x) ≡ true)
any_flat_some test f [] h = absurd cc
any_flat_some test f (x ∷ xs) h = elim (or_cases (list_any test (f x)) (list_any test (flat_map f xs)) (sym (list_any-append test (f x) (flat_map f xs)) ∙ h)) [
  | inl l ↦ (0, x, refl, l)
  | inr r ↦ let s = any_flat_some test f xs r in (suc s.0, s.1, s.2, s.3)
]

pub any_flat_at : {A B : Type 0} (test : B → Bool) (f : A → List B) (xs : List A) (k : ℕ) (x : A) → slice_get xs k ≡ Some x → list_any test (f x) ≡ true → list_any test (flat_map f xs) ≡ true
any_flat_at test f [] k x e h = absurd cc
any_flat_at test f (y ∷ xs) zero x e h =
    list_any-append test (f y) (flat_map f xs) ∙ or_left (list_any test (f y)) (list_any test (flat_map f xs)) (ap (λ z. list_any test (f z)) (some_same e) ∙ h)
any_flat_at test f (y ∷ xs) (suc k) x e h =
    list_any-append test (f y) (flat_map f xs) ∙ or_right (list_any test (f y)) (list_any test (flat_map f xs)) (any_flat_at test f xs k x e h)

-- a High where the first holds, and a Low where the second does
abbrev pub two_values : Bool → Bool → List Drive
two_values a b = (if a then drives.High ∷ [] else []) ++ (if b then drives.Low ∷ [] else [])

pub values_any : (v a b : Bool) → any_value v (two_values a b) ≡ (if v then a else b)
values_any true true b = refl
values_any true false true = refl
values_any true false false = refl
values_any false true true = refl
values_any false true false = refl
values_any false false true = refl
values_any false false false = refl

values_of : (f : Bool → Bool) (v : Bool) → any_value v (two_values (f true) (f false)) ≡ f v
values_of f true = values_any true (f true) (f false)
values_of f false = values_any false (f true) (f false)

-- what is collected from numbers of which some count, each with its strong values
abbrev pub collects : (ℕ → Bool) → (ℕ → Bool → Bool) → ℕ → List Drive
collects c f count = flat_map (λ m. if c m then two_values (f m true) (f m false) else []) (below count)

-- a value is collected exactly where a number that counts has it
pub value_found : (v : Bool) (c : ℕ → Bool) (f : ℕ → Bool → Bool) (count : ℕ) → any_value v (collects c f count) ≡ true →
    (m : ℕ) × (m < count) × (c m ≡ true) × (f m v ≡ true)
value_found v c f count h =
    let s = any_flat_some (λ (d : Drive). is_value v (value_of d)) (λ (m : ℕ). if c m then two_values (f m true) (f m false) else []) (below count) h in
    let l : s.0 < count = omega (arith, slice_get_within (below count) s.0 s.1 s.2, length-below count) in
    let same : s.0 ≡ s.1 = some_same (sym (get-below count s.0 l) ∙ s.2) in
    let r = here s.1 (c s.1) refl s.3 in
    (s.1, subst (λ (z : ℕ). z < count) same l, r.0, r.1)
  where
    here : (m : ℕ) (x : Bool) → c m ≡ x → any_value v (if x then two_values (f m true) (f m false) else []) ≡ true → (c m ≡ true) × (f m v ≡ true)
    here m true e h = (e, sym (values_of (f m) v) ∙ h)
    here m false e h = absurd cc

pub value_there : (v : Bool) (c : ℕ → Bool) (f : ℕ → Bool → Bool) (count m : ℕ) → m < count → c m ≡ true → f m v ≡ true → any_value v (collects c f count) ≡ true
value_there v c f count m l e h =
    any_flat_at (λ (d : Drive). is_value v (value_of d)) (λ (n : ℕ). if c n then two_values (f n true) (f n false) else []) (below count) m m (get-below count m l)
    (rw e (values_of (f m) v ∙ h))

abbrev pub AreStrong : List Drive → Type 0
AreStrong [] = Unit {0}
AreStrong (drives.High ∷ ds) = AreStrong ds
AreStrong (drives.Low ∷ ds) = AreStrong ds
AreStrong (d ∷ ds) = ⊥

strong_maybe : (c a b : Bool) (ds : List Drive) → AreStrong ds → AreStrong ((if c then two_values a b else []) ++ ds)
strong_maybe true true true ds s = s
strong_maybe true true false ds s = s
strong_maybe true false true ds s = s
strong_maybe true false false ds s = s
strong_maybe false a b ds s = s

pub strong_flat : (c : ℕ → Bool) (f : ℕ → Bool → Bool) (ns : List ℕ) → AreStrong (flat_map (λ m. if c m then two_values (f m true) (f m false) else []) ns)
strong_flat c f [] = tt
strong_flat c f (n ∷ ns) =
    strong_maybe (c n) (f n true) (f n false) (flat_map (λ m. if c m then two_values (f m true) (f m false) else []) ns) (strong_flat c f ns)

-- strong values are none, or more than a lone wiper
pub strong_first : (ds : List Drive) → AreStrong ds → ((ds ≡ []) × ((any_value true ds || any_value false ds) ≡ false))
    ⊎ (((any_value true ds || any_value false ds) ≡ true) × ((ws : List Drive) → level_of_drives (ds ++ ws) ≡ level_of_all (ds ++ ws)))
strong_first [] s = inl (refl, refl)
strong_first (drives.High ∷ ds) s = inr (refl, λ ws. refl)
strong_first (drives.Low ∷ ds) s = inr (or-true (any_value true ds), λ ws. refl)
strong_first (d ∷ ds) s = absurd s

or_four : (h a b c : Bool) → (((h || a) || b) || c) ≡ (h || ((a || b) || c))
or_four true a b c = refl
or_four false a b c = refl

both_none : (a b : Bool) → (a || b) ≡ false → level_of_values a b ≡ levels.Z
both_none true b h = absurd cc
both_none false true h = absurd cc
both_none false false h = refl

map_same : (f h : ℕ → Level) (count : ℕ) → ((n : ℕ) → n < count → f n ≡ h n) → map f (below count) ≡ map h (below count)
map_same f h count same = map_here f h (below count) (λ k x e.
    let l : k < count = omega (arith, slice_get_within (below count) k x e, length-below count) in
    let is : k ≡ x = some_same (sym (get-below count k l) ∙ e) in
    ap f (sym is) ∙ same k l ∙ ap h is)

module _ (net_of : List ℕ) (contacts resistors : List (ℕ × ℕ)) (closed : List Bool) (ds : List Drive) (groups : List ℕ) (strong : List Level)
    (g : Grouped net_of contacts resistors closed ds groups strong) (areas : List ℕ) (long : length areas ≡ length groups) (labels : AreLabels areas)
    (j : Joins (contact_joins resistors (bridges_of groups strong resistors)) groups areas) where
  strong_here : (n : ℕ) → n < length groups → sum_at strong (slice_index groups n)
      ≡ level_of_values (has_strong (length groups) net_of contacts resistors closed ds n true) (has_strong (length groups) net_of contacts resistors closed ds n false)
  strong_here = strong_is contacts closed groups g.groups_are net_of resistors ds strong g.pins_within g.strong_are

  loose : (n : ℕ) → n < length groups → is_loose groups strong n ≡ not (is_driven (length groups) net_of contacts resistors closed ds n)
  loose = loose_here net_of contacts resistors closed ds groups strong g

  within : (x y : ℕ) → passes (length groups) net_of contacts resistors closed ds x y ≡ true → (x < length groups) × (y < length groups)
  within = passes_within net_of contacts resistors closed ds groups strong g

  area : (n m : ℕ) → n < length groups → m < length groups → is_loose groups strong n ≡ true → is_loose groups strong m ≡ true →
      (slice_index areas m == slice_index areas n) ≡ reaches (length groups) net_of contacts resistors closed ds n m
  area = area_is net_of contacts resistors closed ds groups strong g areas long labels j

  -- one end of a resistor brings a value to an area at its other end
  abbrev brings : Bool → ℕ → ℕ → ℕ → Bool
  brings v a from to = ((not (is_loose groups strong from) && is_loose groups strong to) && (slice_index areas to == a)) && has_strong (length groups) net_of contacts resistors closed ds from v

  abbrev adds : Bool → ℕ → ℕ × ℕ → Bool
  adds v a r = brings v a r.1 r.0 || brings v a r.0 r.1

  over_is : (a from to : ℕ) (h l : Bool) → from < length groups → over_adds groups strong areas a from to (level_of_values h l) ≡ level_of_values (h || brings true a from to) (l || brings false a from to)
  over_is a from to h l inside = go ((not (is_loose groups strong from) && is_loose groups strong to) && (slice_index areas to == a)) refl (strong_here from inside)
    where
      go : (c : Bool) → ((not (is_loose groups strong from) && is_loose groups strong to) && (slice_index areas to == a)) ≡ c →
          sum_at strong (slice_index groups from) ≡ level_of_values (has_strong (length groups) net_of contacts resistors closed ds from true) (has_strong (length groups) net_of contacts resistors closed ds from false) →
          over_adds groups strong areas a from to (level_of_values h l) ≡ level_of_values (h || brings true a from to) (l || brings false a from to)
      go true e s = rw e (ap (together (level_of_values h l)) s ∙ values_together h l (has_strong (length groups) net_of contacts resistors closed ds from true) (has_strong (length groups) net_of contacts resistors closed ds from false))
      go false e s = rw e (or_end h l)

  resistors_are : (a : ℕ) (rs : List (ℕ × ℕ)) (h l : Bool) → ArePairs (length groups) rs →
      resistors_add groups strong areas a (level_of_values h l) rs ≡ level_of_values (h || list_any (adds true a) rs) (l || list_any (adds false a) rs)
  unfolding resistors_add
  resistors_are a [] h l inside = or_end h l
  resistors_are a (r ∷ rs) h l inside =
      let at = inside 0 r refl in
      let h1 = h || brings true a r.1 r.0 in
      let l1 = l || brings false a r.1 r.0 in
      let rest = resistors_are a rs (h1 || brings true a r.0 r.1) (l1 || brings false a r.0 r.1) (λ k q e. inside (suc k) q e) in
      rw (over_is a r.1 r.0 h l at.1, over_is a r.0 r.1 h1 l1 at.0, rest, or_four h, or_four l) refl

  -- the strong values that are reached from n
  abbrev reached_values : ℕ → List Drive
  reached_values n = collects (reaches (length groups) net_of contacts resistors closed ds n) (has_strong (length groups) net_of contacts resistors closed ds) (length groups)

  -- what is brought over one resistor is reached
  brought : (n from to : ℕ) (v : Bool) → n < length groups → from < length groups → to < length groups → is_loose groups strong n ≡ true → joined_by resistors to from ≡ true →
      brings v (slice_index areas n) from to ≡ true → any_value v (reached_values n) ≡ true
  brought n from to v ln lf lt free by h =
      let step = passes (length groups) net_of contacts resistors closed ds in
      let a = and_parts ((not (is_loose groups strong from) && is_loose groups strong to) && (slice_index areas to == slice_index areas n)) (has_strong (length groups) net_of contacts resistors closed ds from v) h in
      let b = and_parts (not (is_loose groups strong from) && is_loose groups strong to) (slice_index areas to == slice_index areas n) a.0 in
      let d = and_parts (not (is_loose groups strong from)) (is_loose groups strong to) b.0 in
      let at_to : reaches (length groups) net_of contacts resistors closed ds n to ≡ true = sym (area n to ln lt free d.1) ∙ b.1 in
      let way = walk_sound (length groups) step (length groups) n to at_to in
      let pass : step to from ≡ true = rw (← loose to lt, d.1, by) (or-true (contact_joins contacts closed to from)) in
      let at_from : reaches (length groups) net_of contacts resistors closed ds n from ≡ true = walk_complete (length groups) step within n from ln (further to from way pass) in
      value_there v (reaches (length groups) net_of contacts resistors closed ds n) (has_strong (length groups) net_of contacts resistors closed ds) (length groups) from lf at_from a.1

  -- a net with a strong value is reached over a resistor from a loose one
  last_step : (n m : ℕ) → n < length groups → is_loose groups strong n ≡ true → is_loose groups strong m ≡ false → Walk (passes (length groups) net_of contacts resistors closed ds) n m →
      (i : ℕ) × (i < length groups) × (is_loose groups strong i ≡ true) × Walk (passes (length groups) net_of contacts resistors closed ds) n i × (joined_by resistors i m ≡ true)
  last_step n _ ln free driven here = absurd cc
  last_step n _ ln free driven (further i m w s) =
      let at = within i m s in
      let both = and_parts (not (is_driven (length groups) net_of contacts resistors closed ds i)) (contact_joins contacts closed i m || joined_by resistors i m) s in
      let free_i : is_loose groups strong i ≡ true = loose i at.0 ∙ both.0 in
      elim (or_cases (contact_joins contacts closed i m) (joined_by resistors i m) both.1) [
        | inl c ↦
            let e : is_loose groups strong i ≡ is_loose groups strong m = ap (λ (x : ℕ). is_loose_label x) (one_label contacts closed groups g.groups_are i m c) in
            absurd cc
        | inr r ↦ (i, at.0, free_i, w, r)
      ]
    where
      is_loose_label : ℕ → Bool
      is_loose_label x = Rattle.net_resolve.specs.Sums.is_z (sum_at strong x)

  driven_by : (m : ℕ) (v : Bool) → has_strong (length groups) net_of contacts resistors closed ds m v ≡ true → is_driven (length groups) net_of contacts resistors closed ds m ≡ true
  driven_by m true h = or_left (has_strong (length groups) net_of contacts resistors closed ds m true) (has_strong (length groups) net_of contacts resistors closed ds m false) h
  driven_by m false h = or_right (has_strong (length groups) net_of contacts resistors closed ds m true) (has_strong (length groups) net_of contacts resistors closed ds m false) h

  -- what is reached is brought over some resistor
  some_brings : (n m : ℕ) (v : Bool) → n < length groups → m < length groups → is_loose groups strong n ≡ true → reaches (length groups) net_of contacts resistors closed ds n m ≡ true →
      has_strong (length groups) net_of contacts resistors closed ds m v ≡ true → list_any (adds v (slice_index areas n)) resistors ≡ true
  some_brings n m v ln lm free at h =
      let step = passes (length groups) net_of contacts resistors closed ds in
      let driven : is_loose groups strong m ≡ false = loose m lm ∙ ap not (driven_by m v h) in
      let s = last_step n m ln free driven (walk_sound (length groups) step (length groups) n m at) in
      let same : (slice_index areas s.0 == slice_index areas n) ≡ true = area n s.0 ln s.1 free s.2 ∙ walk_complete (length groups) step within n s.0 ln s.3 in
      let it : brings v (slice_index areas n) m s.0 ≡ true = simp (driven, s.2, same, h) refl in
      let r = any_some (λ pair. joins pair s.0 m) resistors s.4 in
      any_at (adds v (slice_index areas n)) resistors r.0 r.1 r.2 (elim (joins_cases r.1 s.0 m r.3) [
        | inl e ↦ or_left (brings v (slice_index areas n) r.1.1 r.1.0) (brings v (slice_index areas n) r.1.0 r.1.1)
            (ap (λ (x : ℕ). brings v (slice_index areas n) x r.1.0) e.1 ∙ ap (λ (x : ℕ). brings v (slice_index areas n) m x) e.0 ∙ it)
        | inr e ↦ or_right (brings v (slice_index areas n) r.1.1 r.1.0) (brings v (slice_index areas n) r.1.0 r.1.1)
            (ap (λ (x : ℕ). brings v (slice_index areas n) x r.1.1) e.0 ∙ ap (λ (x : ℕ). brings v (slice_index areas n) m x) e.1 ∙ it)
      ])

  adds_are : (n : ℕ) (v : Bool) → n < length groups → is_loose groups strong n ≡ true → list_any (adds v (slice_index areas n)) resistors ≡ any_value v (reached_values n)
  adds_are n v ln free = both_ways (list_any (adds v (slice_index areas n)) resistors) (any_value v (reached_values n))
      (λ h.
      let s = any_some (adds v (slice_index areas n)) resistors h in
      let at = g.resistors_within s.0 s.1 s.2 in
      let by = any_at (λ pair. joins pair s.1.0 s.1.1) resistors s.0 s.1 s.2 (joins_is s.1) in
      let back = any_at (λ pair. joins pair s.1.1 s.1.0) resistors s.0 s.1 s.2 (joins_swap s.1 s.1.0 s.1.1 (joins_is s.1)) in
      elim (or_cases (brings v (slice_index areas n) s.1.1 s.1.0) (brings v (slice_index areas n) s.1.0 s.1.1) s.3) [
        | inl l ↦ brought n s.1.1 s.1.0 v ln at.1 at.0 free by l
        | inr r ↦ brought n s.1.0 s.1.1 v ln at.0 at.1 free back r
      ])
      (λ h.
      let s = value_found v (reaches (length groups) net_of contacts resistors closed ds n) (has_strong (length groups) net_of contacts resistors closed ds) (length groups) h in
      some_brings n s.0 v ln s.1 free s.2 s.3)

  -- the sums by area
  module _ (sums : List Level)
      (summed : (a : ℕ) → a < length groups → sum_at sums a
      ≡ added weak_level (λ n. is_loose groups strong n && (slice_index areas n == a)) (resistors_add groups strong areas a levels.Z resistors) (zip net_of ds)) where
    -- the weak drives that count for n
    abbrev counts : ℕ → ℕ → Bool
    counts n m = reaches (length groups) net_of contacts resistors closed ds n m && not (is_driven (length groups) net_of contacts resistors closed ds m)

    counts_are : (n m : ℕ) → n < length groups → m < length groups → is_loose groups strong n ≡ true →
        (is_loose groups strong m && (slice_index areas m == slice_index areas n)) ≡ counts n m
    counts_are n m ln lm free = elim (cases_Bool (is_loose groups strong m)) [
      | inl e ↦
          rw (← loose m lm, e) (area n m ln lm free e ∙ sym (and-true (reaches (length groups) net_of contacts resistors closed ds n m)))
      | inr e ↦ rw (← loose m lm, e) (sym (and-false (reaches (length groups) net_of contacts resistors closed ds n m)))
    ]

    sum_is : (n : ℕ) → n < length groups → is_loose groups strong n ≡ true →
        sum_at sums (slice_index areas n) ≡ added weak_level (counts n) (level_of_values (any_value true (reached_values n)) (any_value false (reached_values n))) (zip net_of ds)
    sum_is n ln free =
        let a = slice_index areas n in
        let same = added_same weak_level (length groups) (λ m. is_loose groups strong m && (slice_index areas m == a)) (counts n)
        (λ m lm. counts_are n m ln lm free) net_of ds (resistors_add groups strong areas a levels.Z resistors) g.pins_within in
        let brought = resistors_are a resistors false false g.resistors_within in
        rw (summed a (omega (arith, labels.forest n)), same, brought, adds_are n true ln free, adds_are n false ln free) refl

    loose_level : (n : ℕ) → n < length groups → is_loose groups strong n ≡ true → sum_at sums (slice_index areas n) ≡ level_of_drives (collected (length groups) net_of contacts resistors closed ds n)
    loose_level n ln free =
        let rs = reached_values n in
        let ws = weak_of (counts n) (zip net_of ds) in
        sum_is n ln free ∙ elim (strong_first rs (strong_flat (reaches (length groups) net_of contacts resistors closed ds n) (has_strong (length groups) net_of contacts resistors closed ds) (below (length groups)))) [
          | inl none ↦
              rw (both_none (any_value true rs) (any_value false rs) none.1)
              (weak_alone (counts n) (zip net_of ds) ∙ ap (λ (xs : List Drive). level_of_drives (xs ++ ws)) (sym none.0))
          | inr some ↦
              weak_added (counts n) (zip net_of ds) (any_value true rs) (any_value false rs) some.0
              ∙ ap (λ (b : Bool). level_of_values b (any_value false rs || any_value false ws)) (sym (list_any-append (λ (e : Drive). is_value true (value_of e)) rs ws))
              ∙ ap (level_of_values (any_value true (rs ++ ws))) (sym (list_any-append (λ (e : Drive). is_value false (value_of e)) rs ws))
              ∙ sym (some.1 ws)
        ]

    level_is : (n : ℕ) → n < length groups → level_here groups strong areas sums n ≡ level_of (length groups) net_of contacts resistors closed ds n
    level_is n ln = elim (cases_Bool (is_driven (length groups) net_of contacts resistors closed ds n)) [
      | inl driven ↦
          let e : is_loose groups strong n ≡ false = loose n ln ∙ ap not driven in
          rw (e, driven) (strong_here n ln)
      | inr free ↦
          let e : is_loose groups strong n ≡ true = loose n ln ∙ ap not free in
          rw (e, free) (loose_level n ln e)
    ]

    -- all levels are those of the definition
    pub levels_are : map (level_here groups strong areas sums) (below (length groups)) ≡ resolve (length groups) net_of contacts resistors closed ds
    unfolding resolve
    levels_are = map_same (level_here groups strong areas sums) (level_of (length groups) net_of contacts resistors closed ds) (length groups) level_is

-- where each net's group has a strong value, that is its level
module _ (net_of : List ℕ) (contacts resistors : List (ℕ × ℕ)) (closed : List Bool) (ds : List Drive) (groups : List ℕ) (strong : List Level)
    (g : Grouped net_of contacts resistors closed ds groups strong) (driven : (n : ℕ) → n < length groups → is_loose groups strong n ≡ false) where
  driven_level : (n : ℕ) → n < length groups → own_level groups strong n ≡ level_of (length groups) net_of contacts resistors closed ds n
  driven_level n ln =
      let free : not (is_driven (length groups) net_of contacts resistors closed ds n) ≡ false = sym (loose_here net_of contacts resistors closed ds groups strong g n ln) ∙ driven n ln in
      rw (not-false (is_driven (length groups) net_of contacts resistors closed ds n) free)
      (strong_is contacts closed groups g.groups_are net_of resistors ds strong g.pins_within g.strong_are n ln)

  pub driven_are : map (own_level groups strong) (below (length groups)) ≡ resolve (length groups) net_of contacts resistors closed ds
  unfolding resolve
  driven_are = map_same (own_level groups strong) (level_of (length groups) net_of contacts resistors closed ds) (length groups) driven_level
