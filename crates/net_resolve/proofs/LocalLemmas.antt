-- The levels of a subcircuit's nets are those that they have on the whole board.
use Rattle.net_resolve.proofs.Common.{◌≡◌, ℕ, ◌<◌, List, [], ◌∷◌, ◌++◌, length, map, Bool, true, false, not, refl, ap, sym, ◌∙◌, inl, inr, subst, Some, get_or}
use Rattle.net_resolve.proofs.Common.{slice_get_within, list_any-append, ◌&&◌, ◌||◌, if◌then◌else◌, filter, slice_get, zip, list_any, flat_map, both_ways}
use Rattle.net_resolve.proofs.Common.{cases_Bool, or_cases, and_parts, or-true, Drive, value_of, strong_of, is_weak, Walk, here, further, below, leads}
use Rattle.net_resolve.proofs.Common.{joined_by, contact_joins, has_strong, is_driven, passes, reaches, strong_values, collected, level_of, level_of_drives}
use Rattle.net_resolve.proofs.Common.{is_value, walk_sound, walk_complete, some_same, get_within, Lacks, AreOnce}
use Rattle.net_resolve.proofs.ValueLemmas.{any_value}
use Rattle.net_resolve.proofs.ReachLemmas.{passes_ends}
use Rattle.net_resolve.proofs.ResolveLemmas.{AreStrong, strong_flat, strong_first, value_found, value_there}

-- the second list has the pins of these nets, by the nets' places, in the order of the first list
pub data Sub (nets : List ℕ) : List (ℕ × Drive) → List (ℕ × Drive) → Type 0 where
  none : Sub nets [] []
  passed : (n : ℕ) (d : Drive) (ps os : List (ℕ × Drive)) → Lacks nets n → Sub nets ps os → Sub nets ((n, d) ∷ ps) os
  taken : (i n : ℕ) (d : Drive) (ps os : List (ℕ × Drive)) → slice_get nets i ≡ Some n → Sub nets ps os → Sub nets ((n, d) ∷ ps) ((i, d) ∷ os)

-- steps among these nets, by the nets and by their places
module _ (nets : List ℕ) (once : AreOnce nets) (step own : ℕ → ℕ → Bool)
    (out : (i n m : ℕ) → slice_get nets i ≡ Some n → step n m ≡ true → (j : ℕ) × (slice_get nets j ≡ Some m) × (own i j ≡ true))
    (back : (i j n m : ℕ) → slice_get nets i ≡ Some n → slice_get nets j ≡ Some m → own i j ≡ true → step n m ≡ true)
    (own_within : (i j : ℕ) → own i j ≡ true → (i < length nets) × (j < length nets))
    (count : ℕ) (within : (a b : ℕ) → step a b ≡ true → (a < count) × (b < count)) where
  walk_out : (i n m : ℕ) → slice_get nets i ≡ Some n → Walk step n m → (j : ℕ) × (slice_get nets j ≡ Some m) × Walk own i j
  walk_out i n _ e here = (i, e, here)
  walk_out i n _ e (further k m w s) =
      let a = walk_out i n k e w in
      let b = out a.0 k m a.1 s in
      (b.0, b.1, further a.0 b.0 a.2 b.2)

  walk_in : (i j n m : ℕ) → slice_get nets i ≡ Some n → slice_get nets j ≡ Some m → Walk own i j → Walk step n m
  walk_in i _ n m en em here = subst (λ (z : ℕ). Walk step n z) (some_same (sym en ∙ em)) here
  walk_in i _ n m en em (further k j w s) =
      let at = get_within nets k 0 (own_within k j s).0 in
      further (get_or nets k 0) m (walk_in i k n (get_or nets k 0) en at w) (back k j (get_or nets k 0) m at em s)

  pub leads_same : (i j n m : ℕ) → slice_get nets i ≡ Some n → slice_get nets j ≡ Some m → n < count → leads count step n m ≡ leads (length nets) own i j
  leads_same i j n m en em l = both_ways (leads count step n m) (leads (length nets) own i j)
      (λ h.
      let a = walk_out i n m en (walk_sound count step count n m h) in
      walk_complete (length nets) own own_within i j (slice_get_within nets i n en) (subst (λ (z : ℕ). Walk own i z) (once a.0 j m a.1 em) a.2))
      (λ h. walk_complete count step within n m l (walk_in i j n m en em (walk_sound (length nets) own (length nets) i j h)))

  pub leads_within : (i n m : ℕ) → slice_get nets i ≡ Some n → Lacks nets m → leads count step n m ≡ false
  leads_within i n m en lacks = elim (cases_Bool (leads count step n m)) [
    | inl h ↦ let a = walk_out i n m en (walk_sound count step count n m h) in absurd (lacks a.0 a.1)
    | inr h ↦ h
  ]

  pub leads_to : (i n m : ℕ) → slice_get nets i ≡ Some n → leads count step n m ≡ true → (j : ℕ) × (slice_get nets j ≡ Some m)
  leads_to i n m en h = let a = walk_out i n m en (walk_sound count step count n m h) in (a.0, a.1)

-- tests of pins that agree on these nets, and fail on all others
module _ (nets : List ℕ) (f g : ℕ × Drive → Bool)
    (same : (i n : ℕ) (d : Drive) → slice_get nets i ≡ Some n → f (n, d) ≡ g (i, d)) (fails : (n : ℕ) (d : Drive) → Lacks nets n → f (n, d) ≡ false) where
  pub sub_any : (ps os : List (ℕ × Drive)) → Sub nets ps os → list_any f ps ≡ list_any g os
  sub_any _ _ none = refl
  sub_any _ _ (passed n d ps os l s) = ap (λ (b : Bool). b || list_any f ps) (fails n d l) ∙ sub_any ps os s
  sub_any _ _ (taken i n d ps os e s) = ap (λ (b : Bool). b || list_any f ps) (same i n d e) ∙ ap (λ (b : Bool). g (i, d) || b) (sub_any ps os s)

  pub sub_filter : (ps os : List (ℕ × Drive)) → Sub nets ps os → ◌≡◌ {A = List Drive} (map (λ p. p.1) (filter f ps)) (map (λ p. p.1) (filter g os))
  sub_filter _ _ none = refl
  sub_filter _ _ (passed n d ps os l s) = rw (fails n d l) (sub_filter ps os s)
  sub_filter _ _ (taken i n d ps os e s) = rw (same i n d e) (chosen (sub_filter ps os s) (g (i, d)))
    where
      chosen : ◌≡◌ {A = List Drive} (map (λ p. p.1) (filter f ps)) (map (λ p. p.1) (filter g os)) →
          (b : Bool) → ◌≡◌ {A = List Drive} (map (λ p. p.1) (if b then (n, d) ∷ filter f ps else filter f ps)) (map (λ p. p.1) (if b then (i, d) ∷ filter g os else filter g os))
      chosen ih true = ap (λ (l : List Drive). d ∷ l) ih
      chosen ih false = ih

-- strong values that are the same give the same level with whatever comes to them
strong_levels : (xs ys ws : List Drive) → AreStrong xs → AreStrong ys → any_value true xs ≡ any_value true ys → any_value false xs ≡ any_value false ys →
    level_of_drives (xs ++ ws) ≡ level_of_drives (ys ++ ws)
strong_levels xs ys ws sa sb high low = elim (strong_first xs sa) [
  | inl a ↦ elim (strong_first ys sb) [
    | inl b ↦ ap (λ (l : List Drive). level_of_drives (l ++ ws)) (a.0 ∙ sym b.0)
    | inr b ↦ absurd (cc (high, low, a.1, b.0))
  ]
  | inr a ↦ elim (strong_first ys sb) [
    | inl b ↦ absurd (cc (high, low, a.0, b.1))
    | inr b ↦ rw (a.1 ws, joined true high, joined false low) (sym (b.1 ws))
  ]
]
  where
    joined : (v : Bool) → any_value v xs ≡ any_value v ys → any_value v (xs ++ ws) ≡ any_value v (ys ++ ws)
    joined v e = rw (list_any-append (λ (d : Drive). is_value v (value_of d)) xs ws, e) (sym (list_any-append (λ (d : Drive). is_value v (value_of d)) ys ws))

-- One board within another: the nets of the inner one are some of the outer one, by their places.
pub record IsInner (count : ℕ) (net_of : List ℕ) (contacts resistors : List (ℕ × ℕ)) (closed : List Bool) (ds : List Drive)
    (nets own_of : List ℕ) (own_contacts own_resistors : List (ℕ × ℕ)) (own_closed : List Bool) (own_ds : List Drive) : Type 0 where
  pub once : AreOnce nets
  pub nets_within : (i n : ℕ) → slice_get nets i ≡ Some n → n < count
  pub contacts_within : (a b : ℕ) → contact_joins contacts closed a b ≡ true → (a < count) × (b < count)
  pub resistors_within : (a b : ℕ) → joined_by resistors a b ≡ true → (a < count) × (b < count)
  pub own_contacts_within : (i j : ℕ) → contact_joins own_contacts own_closed i j ≡ true → (i < length nets) × (j < length nets)
  pub own_resistors_within : (i j : ℕ) → joined_by own_resistors i j ≡ true → (i < length nets) × (j < length nets)
  pub contact_out : (i n m : ℕ) → slice_get nets i ≡ Some n → contact_joins contacts closed n m ≡ true → (j : ℕ) × (slice_get nets j ≡ Some m) × (contact_joins own_contacts own_closed i j ≡ true)
  pub contact_back : (i j n m : ℕ) → slice_get nets i ≡ Some n → slice_get nets j ≡ Some m → contact_joins own_contacts own_closed i j ≡ true → contact_joins contacts closed n m ≡ true
  pub resistor_out : (i n m : ℕ) → slice_get nets i ≡ Some n → joined_by resistors n m ≡ true → (j : ℕ) × (slice_get nets j ≡ Some m) × (joined_by own_resistors i j ≡ true)
  pub resistor_back : (i j n m : ℕ) → slice_get nets i ≡ Some n → slice_get nets j ≡ Some m → joined_by own_resistors i j ≡ true → joined_by resistors n m ≡ true
  pub pins : Sub nets (zip net_of ds) (zip own_of own_ds)

module _ (count : ℕ) (net_of : List ℕ) (contacts resistors : List (ℕ × ℕ)) (closed : List Bool) (ds : List Drive)
    (nets own_of : List ℕ) (own_contacts own_resistors : List (ℕ × ℕ)) (own_closed : List Bool) (own_ds : List Drive)
    (inner : IsInner count net_of contacts resistors closed ds nets own_of own_contacts own_resistors own_closed own_ds) where
  abbrev strong_out : ℕ → Bool → Bool
  strong_out = has_strong count net_of contacts resistors closed ds

  abbrev strong_in : ℕ → Bool → Bool
  strong_in = has_strong (length nets) own_of own_contacts own_resistors own_closed own_ds

  abbrev driven_out : ℕ → Bool
  driven_out = is_driven count net_of contacts resistors closed ds

  abbrev driven_in : ℕ → Bool
  driven_in = is_driven (length nets) own_of own_contacts own_resistors own_closed own_ds

  abbrev passes_out : ℕ → ℕ → Bool
  passes_out = passes count net_of contacts resistors closed ds

  abbrev passes_in : ℕ → ℕ → Bool
  passes_in = passes (length nets) own_of own_contacts own_resistors own_closed own_ds

  strong_same : (i n : ℕ) (v : Bool) → slice_get nets i ≡ Some n → strong_out n v ≡ strong_in i v
  strong_same i n v e = sub_any nets
      (λ p. leads count (contact_joins contacts closed) n p.0 && is_value v (strong_of p.1))
      (λ p. leads (length nets) (contact_joins own_contacts own_closed) i p.0 && is_value v (strong_of p.1))
      (λ j m d em. ap (λ (b : Bool). b && is_value v (strong_of d)) (leads_same nets inner.once (contact_joins contacts closed) (contact_joins own_contacts own_closed) inner.contact_out inner.contact_back inner.own_contacts_within count inner.contacts_within i j n m e em (inner.nets_within i n e)))
      (λ m d l. ap (λ (b : Bool). b && is_value v (strong_of d)) (leads_within nets inner.once (contact_joins contacts closed) (contact_joins own_contacts own_closed) inner.contact_out inner.contact_back inner.own_contacts_within count inner.contacts_within i n m e l))
      (zip net_of ds) (zip own_of own_ds) inner.pins

  driven_same : (i n : ℕ) → slice_get nets i ≡ Some n → driven_out n ≡ driven_in i
  driven_same i n e = rw (strong_same i n true e, strong_same i n false e) refl

  passes_to : (i n m : ℕ) → slice_get nets i ≡ Some n → passes_out n m ≡ true → (j : ℕ) × (slice_get nets j ≡ Some m) × (passes_in i j ≡ true)
  passes_to i n m e h =
      let both = and_parts (not (driven_out n)) (contact_joins contacts closed n m || joined_by resistors n m) h in
      let free : not (driven_in i) ≡ true = ap not (sym (driven_same i n e)) ∙ both.0 in
      elim (or_cases (contact_joins contacts closed n m) (joined_by resistors n m) both.1) [
        | inl c ↦ let s = inner.contact_out i n m e c in (s.0, s.1, rw (free, s.2) refl)
        | inr r ↦ let s = inner.resistor_out i n m e r in (s.0, s.1, rw (free, s.2) (or-true (contact_joins own_contacts own_closed i s.0)))
      ]

  passes_back : (i j n m : ℕ) → slice_get nets i ≡ Some n → slice_get nets j ≡ Some m → passes_in i j ≡ true → passes_out n m ≡ true
  passes_back i j n m e f h =
      let both = and_parts (not (driven_in i)) (contact_joins own_contacts own_closed i j || joined_by own_resistors i j) h in
      let free : not (driven_out n) ≡ true = ap not (driven_same i n e) ∙ both.0 in
      elim (or_cases (contact_joins own_contacts own_closed i j) (joined_by own_resistors i j) both.1) [
        | inl c ↦ rw (free, inner.contact_back i j n m e f c) refl
        | inr r ↦ rw (free, inner.resistor_back i j n m e f r) (or-true (contact_joins contacts closed n m))
      ]

  passes_in_within : (i j : ℕ) → passes_in i j ≡ true → (i < length nets) × (j < length nets)
  passes_in_within =
      passes_ends (length nets) own_of own_contacts own_resistors own_closed own_ds inner.own_contacts_within inner.own_resistors_within

  passes_out_within : (a b : ℕ) → passes_out a b ≡ true → (a < count) × (b < count)
  passes_out_within = passes_ends count net_of contacts resistors closed ds inner.contacts_within inner.resistors_within

  abbrev reaches_out : ℕ → ℕ → Bool
  reaches_out = reaches count net_of contacts resistors closed ds

  abbrev reaches_in : ℕ → ℕ → Bool
  reaches_in = reaches (length nets) own_of own_contacts own_resistors own_closed own_ds

  reaches_same : (i j n m : ℕ) → slice_get nets i ≡ Some n → slice_get nets j ≡ Some m → reaches_out n m ≡ reaches_in i j
  reaches_same i j n m e f = leads_same nets inner.once passes_out passes_in passes_to passes_back passes_in_within count passes_out_within i j n m e f (inner.nets_within i n e)

  reaches_none : (i n m : ℕ) → slice_get nets i ≡ Some n → Lacks nets m → reaches_out n m ≡ false
  reaches_none i n m e l = leads_within nets inner.once passes_out passes_in passes_to passes_back passes_in_within count passes_out_within i n m e l

  abbrev values_out : ℕ → List Drive
  values_out n = flat_map (λ m. if reaches_out n m then strong_values count net_of contacts resistors closed ds m else []) (below count)

  abbrev values_in : ℕ → List Drive
  values_in i = flat_map (λ j. if reaches_in i j then strong_values (length nets) own_of own_contacts own_resistors own_closed own_ds j else []) (below (length nets))

  values_same : (v : Bool) (i n : ℕ) → slice_get nets i ≡ Some n → any_value v (values_out n) ≡ any_value v (values_in i)
  values_same v i n e = both_ways (any_value v (values_out n)) (any_value v (values_in i))
      (λ h.
      let s = value_found v (reaches_out n) strong_out count h in
      let t = leads_to nets inner.once passes_out passes_in passes_to passes_back passes_in_within count passes_out_within i n s.0 e s.2 in
      value_there v (reaches_in i) strong_in (length nets) t.0 (slice_get_within nets t.0 s.0 t.1)
      (sym (reaches_same i t.0 n s.0 e t.1) ∙ s.2) (sym (strong_same t.0 s.0 v t.1) ∙ s.3))
      (λ h.
      let s = value_found v (reaches_in i) strong_in (length nets) h in
      let m = get_or nets s.0 0 in
      let at : slice_get nets s.0 ≡ Some m = get_within nets s.0 0 s.1 in
      value_there v (reaches_out n) strong_out count m (inner.nets_within s.0 m at)
      (reaches_same i s.0 n m e at ∙ s.2) (strong_same s.0 m v at ∙ s.3))

  abbrev weak_out : ℕ → List Drive
  weak_out n = map (λ p. p.1) (filter (λ p. reaches_out n p.0 && not (driven_out p.0) && is_weak p.1) (zip net_of ds))

  abbrev weak_in : ℕ → List Drive
  weak_in i = map (λ p. p.1) (filter (λ p. reaches_in i p.0 && not (driven_in p.0) && is_weak p.1) (zip own_of own_ds))

  weak_same : (i n : ℕ) → slice_get nets i ≡ Some n → weak_out n ≡ weak_in i
  weak_same i n e = sub_filter nets (λ p. reaches_out n p.0 && not (driven_out p.0) && is_weak p.1) (λ p. reaches_in i p.0 && not (driven_in p.0) && is_weak p.1)
      (λ j m d f. ap (λ (b : Bool). b && not (driven_out m) && is_weak d) (reaches_same i j n m e f) ∙ ap (λ (b : Bool). reaches_in i j && not b && is_weak d) (driven_same j m f))
      (λ m d l. ap (λ (b : Bool). b && not (driven_out m) && is_weak d) (reaches_none i n m e l))
      (zip net_of ds) (zip own_of own_ds) inner.pins

  collected_same : (i n : ℕ) → slice_get nets i ≡ Some n → level_of_drives (collected count net_of contacts resistors closed ds n) ≡ level_of_drives (collected (length nets) own_of own_contacts own_resistors own_closed own_ds i)
  collected_same i n e =
      rw (weak_same i n e) (strong_levels (values_out n) (values_in i) (weak_in i) (strong_flat (reaches_out n) strong_out (below count))
      (strong_flat (reaches_in i) strong_in (below (length nets))) (values_same true i n e) (values_same false i n e))

  -- a net has one level on both boards
  pub inner_level : (i n : ℕ) → slice_get nets i ≡ Some n → level_of count net_of contacts resistors closed ds n ≡ level_of (length nets) own_of own_contacts own_resistors own_closed own_ds i
  inner_level i n e =
      rw (driven_same i n e, strong_same i n true e, strong_same i n false e, collected_same i n e) refl
