-- Groups are what closed contacts lead to, and areas what is reached over nets without a strong value.
use Rattle.net_resolve.proofs.Common.{◌≡◌, ℕ, zero, suc, ◌<◌, List, [], ◌∷◌, length, map, Bool, true, false, not, refl, ap, sym, ◌∙◌, arith, inl, inr, Some}
use Rattle.net_resolve.proofs.Common.{eq-eqb, eqb-true, or_cases, or_left, or_right, and_parts, ◌==◌, ◌&&◌, ◌||◌, slice_get, slice_index, zip, list_any}
use Rattle.net_resolve.proofs.Common.{both_ways, Drive, Level, strong_of, Walk, here, further, leads, joined_by, contact_joins, has_strong, is_driven, passes}
use Rattle.net_resolve.proofs.Common.{is_value, level_of_values, walk_sound, walk_complete, some_same, AreGroups, is_loose, is_z, sum_at, added, strong_level}
use Rattle.net_resolve.proofs.Common.{contact_bounds}
use Rattle.sim_base.specs.declared.signal.Level.TheVariants as levels
use Rattle.net_resolve.proofs.ValueLemmas.{is_z_values, strong_added}

-- an item that passes the test
pub any_at : {A : Type 0} (test : A → Bool) (xs : List A) (k : ℕ) (x : A) → slice_get xs k ≡ Some x → test x ≡ true → list_any test xs ≡ true
any_at test [] k x e h = absurd cc
any_at test (y ∷ xs) zero x e h = or_left (test y) (list_any test xs) (ap test (some_same e) ∙ h)
any_at test (y ∷ xs) (suc k) x e h = or_right (test y) (list_any test xs) (any_at test xs k x e h)

pub any_some : {A : Type 0} (test : A → Bool) (xs : List A) → list_any test xs ≡ true → (k : ℕ) × (x : A) × (slice_get xs k ≡ Some x) × (test x ≡ true)
any_some test [] h = absurd cc
any_some test (y ∷ xs) h = elim (or_cases (test y) (list_any test xs) h) [
  | inl l ↦ (0, y, refl, l)
  | inr r ↦ let s = any_some test xs r in (suc s.0, s.1, s.2, s.3)
]

-- functions that agree on the items of a list
pub map_here : {A B : Type 0} (f g : A → B) (xs : List A) → ((j : ℕ) (x : A) → slice_get xs j ≡ Some x → f x ≡ g x) → map f xs ≡ map g xs
map_here f g [] same = refl
map_here f g (x ∷ xs) same =
    let a : f x ≡ g x = same 0 x refl in
    let b : map f xs ≡ map g xs = map_here f g xs (λ j y e. same (suc j) y e) in
    cc

-- tests that agree on the pins of nets that there are
pub any_same : (count : ℕ) (f h : ℕ × Drive → Bool) → ((n : ℕ) (d : Drive) → n < count → f (n, d) ≡ h (n, d)) → (ns : List ℕ) (ds : List Drive) →
    ((k n : ℕ) → slice_get ns k ≡ Some n → n < count) → list_any f (zip ns ds) ≡ list_any h (zip ns ds)
any_same count f h same [] ds within = refl
any_same count f h same (n ∷ ns) [] within = refl
any_same count f h same (n ∷ ns) (d ∷ ds) within =
    let a : f (n, d) ≡ h (n, d) = same n d (within 0 n refl) in
    let b : list_any f (zip ns ds) ≡ list_any h (zip ns ds) = any_same count f h same ns ds (λ k m e. within (suc k) m e) in
    cc

-- a step is between nets that there are
pub passes_ends : (count : ℕ) (net_of : List ℕ) (contacts resistors : List (ℕ × ℕ)) (closed : List Bool) (ds : List Drive) →
    ((x y : ℕ) → contact_joins contacts closed x y ≡ true → (x < count) × (y < count)) → ((x y : ℕ) → joined_by resistors x y ≡ true → (x < count) × (y < count)) →
    (x y : ℕ) → passes count net_of contacts resistors closed ds x y ≡ true → (x < count) × (y < count)
passes_ends count net_of contacts resistors closed ds by_contact by_resistor x y h =
    let both = and_parts (not (is_driven count net_of contacts resistors closed ds x)) (contact_joins contacts closed x y || joined_by resistors x y) h in
    elim (or_cases (contact_joins contacts closed x y) (joined_by resistors x y) both.1) [ inl c ↦ by_contact x y c | inr r ↦ by_resistor x y r ]

module _ (contacts : List (ℕ × ℕ)) (closed : List Bool) (groups : List ℕ) (g : AreGroups contacts closed groups) where
  contact_within : (x y : ℕ) → contact_joins contacts closed x y ≡ true → (x < length groups) × (y < length groups)
  contact_within = contact_bounds (length groups) contacts closed g.contacts_within

  pub one_label : (x y : ℕ) → contact_joins contacts closed x y ≡ true → slice_index groups x ≡ slice_index groups y
  one_label = g.classes.same

  pub same_label : (n m : ℕ) → Walk (contact_joins contacts closed) n m → slice_index groups n ≡ slice_index groups m
  same_label n _ here = refl
  same_label n _ (further j m w s) = same_label n j w ∙ one_label j m s

  pub one_is : (n m : ℕ) → n < length groups → m < length groups → (slice_index groups m == slice_index groups n) ≡ leads (length groups) (contact_joins contacts closed) n m
  one_is n m ln lm = both_ways (slice_index groups m == slice_index groups n) (leads (length groups) (contact_joins contacts closed) n m)
      (λ e. walk_complete (length groups) (contact_joins contacts closed) contact_within n m ln
      (g.classes.walks n m ln lm (sym (eqb-true (slice_index groups m) (slice_index groups n) e))))
      (λ h. eq-eqb (slice_index groups m) (slice_index groups n)
      (sym (same_label n m (walk_sound (length groups) (contact_joins contacts closed) (length groups) n m h))))

  pub group_within : (n : ℕ) → n < length groups → slice_index groups n < length groups
  group_within n l = omega (arith, g.classes.labels.forest n)

  -- the drives of the pins of these nets, and the sums of the strong ones by group
  module _ (net_of : List ℕ) (resistors : List (ℕ × ℕ)) (ds : List Drive) (strong : List Level)
      (pins_within : (k n : ℕ) → slice_get net_of k ≡ Some n → n < length groups)
      (sums : (x : ℕ) → x < length groups → sum_at strong x ≡ added strong_level (λ n. slice_index groups n == x) levels.Z (zip net_of ds)) where
    strong_has : (n : ℕ) (v : Bool) → n < length groups →
        list_any (λ p. (slice_index groups p.0 == slice_index groups n) && is_value v (strong_of p.1)) (zip net_of ds) ≡ has_strong (length groups) net_of contacts resistors closed ds n v
    strong_has n v l = any_same (length groups) (λ p. (slice_index groups p.0 == slice_index groups n) && is_value v (strong_of p.1))
        (λ p. leads (length groups) (contact_joins contacts closed) n p.0 && is_value v (strong_of p.1))
        (λ m d lm. ap (λ (b : Bool). b && is_value v (strong_of d)) (one_is n m l lm)) net_of ds pins_within

    pub strong_is : (n : ℕ) → n < length groups → sum_at strong (slice_index groups n)
        ≡ level_of_values (has_strong (length groups) net_of contacts resistors closed ds n true) (has_strong (length groups) net_of contacts resistors closed ds n false)
    strong_is n l =
        let sum = strong_added (λ m. slice_index groups m == slice_index groups n) (zip net_of ds) false false in
        rw (sums (slice_index groups n) (group_within n l), sum, strong_has n true l, strong_has n false l) refl

    pub loose_is : (n : ℕ) → n < length groups → is_loose groups strong n ≡ not (is_driven (length groups) net_of contacts resistors closed ds n)
    loose_is n l = ap is_z (strong_is n l) ∙ is_z_values (has_strong (length groups) net_of contacts resistors closed ds n true) (has_strong (length groups) net_of contacts resistors closed ds n false)

    pub loose_group : (x y : ℕ) → slice_index groups x ≡ slice_index groups y → is_loose groups strong x ≡ is_loose groups strong y
    loose_group x y e = ap (λ (i : ℕ). is_z (sum_at strong i)) e

    -- from a net without a strong value every closed contact passes
    pub contact_passes : (n m : ℕ) → n < length groups → is_loose groups strong n ≡ true → Walk (contact_joins contacts closed) n m → Walk (passes (length groups) net_of contacts resistors closed ds) n m
    contact_passes n _ l loose here = here
    contact_passes n _ l loose (further j m w s) =
        let free : is_loose groups strong j ≡ true = sym (loose_group n j (same_label n j w)) ∙ loose in
        further j m (contact_passes n j l loose w) (rw (← loose_is j (contact_within j m s).0, free, s) refl)
