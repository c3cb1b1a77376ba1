-- Areas: nets without a strong value that contacts and resistors connect.
use Rattle.net_resolve.proofs.Common.{◌≡◌, ◌≢◌, ℕ, ◌<◌, List, length, map, Bool, true, not, refl, ap, sym, ◌∙◌, arith, inl, inr, subst, Some, eq-eqb, eqb-true}
use Rattle.net_resolve.proofs.Common.{or_cases, and_from, and_parts, nat_tests, or-true, ◌==◌, ◌&&◌, ◌||◌, slice_get, slice_index, nat_lt, zip, both_ways}
use Rattle.net_resolve.proofs.Common.{ArePairs, Drive, Level, Walk, here, further, joins, joined_by, contact_joins, is_driven, passes, reaches, walk_join}
use Rattle.net_resolve.proofs.Common.{walk_back, walk_sound, walk_complete, some_same, some_map, AreLabels, IsForest, root_of, same_or, Joins, AreGroups}
use Rattle.net_resolve.proofs.Common.{is_loose, sum_at, added, strong_level, joins_cases, contact_of, contact_is, contact_bounds, joined_bounds, same_or_swap}
use Rattle.net_resolve.proofs.Common.{walks_start, all_joined}
use Rattle.sim_base.specs.declared.signal.Level.TheVariants as levels
use Rattle.net_union_find.proofs.ForestLemmas.{label_root}
use Rattle.net_resolve.proofs.ReachLemmas.{any_at, any_some, one_label, loose_is, loose_group, contact_passes, passes_ends}

-- What holds once the strong drives are summed by group.
pub record Grouped (net_of : List ℕ) (contacts resistors : List (ℕ × ℕ)) (closed : List Bool) (ds : List Drive) (groups : List ℕ) (strong : List Level) : Type 0 where
  pub groups_are : AreGroups contacts closed groups
  pub pins_within : (k n : ℕ) → slice_get net_of k ≡ Some n → n < length groups
  pub resistors_within : ArePairs (length groups) resistors
  pub strong_are : (x : ℕ) → x < length groups → sum_at strong x ≡ added strong_level (λ n. slice_index groups n == x) levels.Z (zip net_of ds)

-- whether a resistor connects two loose nets
abbrev pub is_bridge : List ℕ → List Level → ℕ × ℕ → Bool
is_bridge groups strong r = is_loose groups strong r.0 && is_loose groups strong r.1

abbrev pub bridges_of : List ℕ → List Level → List (ℕ × ℕ) → List Bool
bridges_of groups strong rs = map (λ r. is_loose groups strong r.0 && is_loose groups strong r.1) rs

-- pairs of which none is chosen join nothing
pub joins_unchosen : (old : List ℕ) (cs : List (ℕ × ℕ)) (chosen : List Bool) → IsForest old → ((k : ℕ) → slice_get chosen k ≢ Some true) → Joins (contact_joins cs chosen) old old
joins_unchosen old cs chosen forest none = record {
  walks = walks_start old forest (contact_joins cs chosen);
  keeps = λ x y _ _ e. e;
  joined = all_joined old cs chosen (λ k d ed eb. absurd (none k eb));
}

lt_of : (a b : ℕ) → nat_lt a b ≡ true → a < b
lt_of a b h = grind (arith, nat_tests)

-- a step over a bridge is over a resistor between loose nets
bridge_of : (groups : List ℕ) (strong : List Level) (rs : List (ℕ × ℕ)) (x y : ℕ) → contact_joins rs (bridges_of groups strong rs) x y ≡ true →
    (joined_by rs x y ≡ true) × (is_loose groups strong x ≡ true) × (is_loose groups strong y ≡ true)
bridge_of groups strong rs x y h =
    let s = contact_of rs (bridges_of groups strong rs) x y h in
    let on : is_bridge groups strong s.1 ≡ true = some_same (sym (some_map (is_bridge groups strong) rs s.0 s.1 s.2) ∙ s.3) in
    let both = and_parts (is_loose groups strong s.1.0) (is_loose groups strong s.1.1) on in
    let by = any_at (λ pair. joins pair x y) rs s.0 s.1 s.2 s.4 in
    elim (joins_cases s.1 x y s.4) [
      | inl same ↦ (by, subst (λ (z : ℕ). is_loose groups strong z ≡ true) same.0 both.0, subst (λ (z : ℕ). is_loose groups strong z ≡ true) same.1 both.1)
      | inr back ↦ (by, subst (λ (z : ℕ). is_loose groups strong z ≡ true) back.1 both.1, subst (λ (z : ℕ). is_loose groups strong z ≡ true) back.0 both.0)
    ]

is_over_bridge : (groups : List ℕ) (strong : List Level) (rs : List (ℕ × ℕ)) (x y : ℕ) → joined_by rs x y ≡ true → is_loose groups strong x ≡ true → is_loose groups strong y ≡ true →
    contact_joins rs (bridges_of groups strong rs) x y ≡ true
is_over_bridge groups strong rs x y h lx ly =
    let s = any_some (λ pair. joins pair x y) rs h in
    let on : is_bridge groups strong s.1 ≡ true = elim (joins_cases s.1 x y s.3) [
      | inl same ↦ and_from (is_loose groups strong s.1.0) (is_loose groups strong s.1.1) (subst (λ (z : ℕ). is_loose groups strong z ≡ true) (sym same.0) lx) (subst (λ (z : ℕ). is_loose groups strong z ≡ true) (sym same.1) ly)
      | inr back ↦ and_from (is_loose groups strong s.1.0) (is_loose groups strong s.1.1) (subst (λ (z : ℕ). is_loose groups strong z ≡ true) (sym back.0) ly) (subst (λ (z : ℕ). is_loose groups strong z ≡ true) (sym back.1) lx)
    ] in
    contact_is rs (bridges_of groups strong rs) s.0 s.1 x y s.2 (some_map (is_bridge groups strong) rs s.0 s.1 s.2 ∙ ap Some on) s.3

module _ (net_of : List ℕ) (contacts resistors : List (ℕ × ℕ)) (closed : List Bool) (ds : List Drive) (groups : List ℕ) (strong : List Level)
    (g : Grouped net_of contacts resistors closed ds groups strong) where
  pub loose_here : (n : ℕ) → n < length groups → is_loose groups strong n ≡ not (is_driven (length groups) net_of contacts resistors closed ds n)
  loose_here = loose_is contacts closed groups g.groups_are net_of resistors ds strong g.pins_within g.strong_are

  loose_with : (x y : ℕ) → slice_index groups x ≡ slice_index groups y → is_loose groups strong x ≡ is_loose groups strong y
  loose_with = loose_group contacts closed groups g.groups_are net_of resistors ds strong g.pins_within g.strong_are

  label_here : (n : ℕ) → n < length groups → root_of groups n ≡ slice_index groups n
  label_here n l = label_root groups g.groups_are.classes.labels n l

  joined_within : (x y : ℕ) → joined_by resistors x y ≡ true → (x < length groups) × (y < length groups)
  joined_within = joined_bounds (length groups) resistors g.resistors_within

  pub passes_within : (x y : ℕ) → passes (length groups) net_of contacts resistors closed ds x y ≡ true → (x < length groups) × (y < length groups)
  passes_within =
      passes_ends (length groups) net_of contacts resistors closed ds (contact_bounds (length groups) contacts closed g.groups_are.contacts_within) joined_within

  -- a walk within groups and over bridges stays among loose nets
  bridge_walk : (n m : ℕ) → n < length groups → is_loose groups strong n ≡ true → Walk (same_or groups (contact_joins resistors (bridges_of groups strong resistors))) n m →
      (m < length groups) × (is_loose groups strong m ≡ true) × Walk (passes (length groups) net_of contacts resistors closed ds) n m
  bridge_walk n _ l loose here = (l, loose, here)
  bridge_walk n _ l loose (further j m w s) =
      let count = length groups in
      let before = bridge_walk n j l loose w in
      elim (or_cases (nat_lt j count && nat_lt m count && (root_of groups j == root_of groups m)) (contact_joins resistors (bridges_of groups strong resistors) j m) s) [
        | inl a ↦
            let b = and_parts (nat_lt j count && nat_lt m count) (root_of groups j == root_of groups m) a in
            let mn : m < count = lt_of m count (and_parts (nat_lt j count) (nat_lt m count) b.0).1 in
            let e : slice_index groups j ≡ slice_index groups m = sym (label_here j before.0) ∙ eqb-true (root_of groups j) (root_of groups m) b.1 ∙ label_here m mn in
            let free : is_loose groups strong m ≡ true = sym (loose_with j m e) ∙ before.1 in
            let way = contact_passes contacts closed groups g.groups_are net_of resistors ds strong g.pins_within g.strong_are j m before.0 before.1 (g.groups_are.classes.walks j m before.0 mn e) in
            (mn, free, walk_join (passes count net_of contacts resistors closed ds) n j m before.2 way)
        | inr r ↦
            let b = bridge_of groups strong resistors j m r in
            let at = joined_within j m b.0 in (
              at.1,
              b.2,
              further j m before.2 (rw (← loose_here j before.0, before.1, b.0) (or-true (contact_joins contacts closed j m))),
            )
      ]

  -- the areas that the bridges make
  module _ (areas : List ℕ) (long : length areas ≡ length groups) (labels : AreLabels areas) (j : Joins (contact_joins resistors (bridges_of groups strong resistors)) groups areas) where
    area_here : (n : ℕ) → n < length groups → root_of areas n ≡ slice_index areas n
    area_here n l = label_root areas labels n (omega (arith, long))

    area_same : (n m : ℕ) → n < length groups → is_loose groups strong n ≡ true → is_loose groups strong m ≡ true → Walk (passes (length groups) net_of contacts resistors closed ds) n m → root_of areas n ≡ root_of areas m
    area_same n _ l ln lm here = refl
    area_same n _ l ln lm (further i m w s) =
        let at = passes_within i m s in
        let both = and_parts (not (is_driven (length groups) net_of contacts resistors closed ds i)) (contact_joins contacts closed i m || joined_by resistors i m) s in
        let li : is_loose groups strong i ≡ true = loose_here i at.0 ∙ both.0 in
        let before = area_same n i l ln li w in
        elim (or_cases (contact_joins contacts closed i m) (joined_by resistors i m) both.1) [
          | inl c ↦
              before ∙ j.keeps i m at.0 at.1 (label_here i at.0 ∙ one_label contacts closed groups g.groups_are i m c ∙ sym (label_here m at.1))
          | inr r ↦ before ∙ j.joined i m (is_over_bridge groups strong resistors i m r li lm)
        ]

    -- loose nets are of one area where one is reached from the other
    pub area_is : (n m : ℕ) → n < length groups → m < length groups → is_loose groups strong n ≡ true → is_loose groups strong m ≡ true →
        (slice_index areas m == slice_index areas n) ≡ reaches (length groups) net_of contacts resistors closed ds n m
    area_is n m ln lm free_n free_m = both_ways (slice_index areas m == slice_index areas n) (reaches (length groups) net_of contacts resistors closed ds n m)
        (λ e.
        let step = passes (length groups) net_of contacts resistors closed ds in
        let tree = same_or groups (contact_joins resistors (bridges_of groups strong resistors)) in
        let same : root_of areas m ≡ root_of areas n = area_here m lm ∙ eqb-true (slice_index areas m) (slice_index areas n) e ∙ sym (area_here n ln) in
        let there = bridge_walk n (root_of areas n) ln free_n (j.walks n ln) in
        let back : Walk tree (root_of areas n) m = subst (λ (z : ℕ). Walk tree z m) same (walk_back tree (same_or_swap groups resistors (bridges_of groups strong resistors)) m (root_of areas m) (j.walks m lm)) in
        let on = bridge_walk (root_of areas n) m there.0 there.1 back in
        walk_complete (length groups) step passes_within n m ln (walk_join step n (root_of areas n) m there.2 on.2))
        (λ h.
        let w = walk_sound (length groups) (passes (length groups) net_of contacts resistors closed ds) (length groups) n m h in
        eq-eqb (slice_index areas m) (slice_index areas n) (sym (sym (area_here n ln) ∙ area_same n m ln free_n free_m w ∙ area_here m lm)))
