-- Roots of trees that are kept by parents.
use Rattle.std.proofs.Common.{◌≡◌, ◌≢◌, ℕ, zero, suc, ◌+◌, ◌-◌, ◌<◌, ◌≤◌, List, length, true, false, ◌⊎◌, inl, inr, refl, ap, sym, ◌∙◌, subst, arith, eq-eqb, min, get_or, get_or-set_other, get_or-set_same, set}
use Rattle.std.proofs.lemmas.Bool.Decides.{eqb_tells}
use Rattle.std.specs.Prelude.{◌==◌, if◌then◌else◌, slice_index, slice_set}
use Rattle.net_union_find.specs.Forest.{IsForest, AreLabels, ancestor, root_of, root_joined}
use Rattle.std.proofs.lemmas.List.{get_or_past}

module _ (p : List ℕ) (forest : IsForest p) where
  -- after k parents one is at the root, or k places lower
  settles : (k x : ℕ) → (slice_index p (ancestor p k x) ≡ ancestor p k x) ⊎ (ancestor p k x + k ≤ x)
  unfolding ancestor
  settles zero x = inr (omega arith)
  settles (suc k) x = elim (settles k x) [
    | inl e ↦ inl (ap (slice_index p) e)
    | inr low ↦ elim (eqb_tells (slice_index p (ancestor p k x)) (ancestor p k x)) [
      | inl e ↦ inl (ap (slice_index p) e.1)
      | inr ne ↦ inr (omega (arith, low, ne.1, forest (ancestor p k x)))
    ]
  ]

  -- a place that is its own parent is its own root
  pub own_root : (x : ℕ) → slice_index p x ≡ x → root_of p x ≡ x
  unfolding root_of ancestor
  own_root x e = stays x
    where
      stays : (k : ℕ) → ancestor p k x ≡ x
      stays zero = refl
      stays (suc k) = ap (slice_index p) (stays k) ∙ e

  pub root_is_own : (x : ℕ) → slice_index p (root_of p x) ≡ root_of p x
  unfolding root_of
  root_is_own x = elim (settles x x) [
    | inl e ↦ e
    | inr low ↦ let z : ancestor p x x ≡ 0 = omega arith in rw z (omega (arith, forest 0))
  ]

  pub root_below : (x : ℕ) → root_of p x ≤ x
  unfolding root_of ancestor
  root_below x = lower x
    where
      lower : (k : ℕ) → ancestor p k x ≤ x
      lower zero = omega arith
      lower (suc k) = omega (arith, lower k, forest (ancestor p k x))

  inner : (k x : ℕ) → ancestor p k (slice_index p x) ≡ ancestor p (suc k) x
  unfolding ancestor
  inner zero x = refl
  inner (suc k) x = ap (slice_index p) (inner k x)

  fixed : (x : ℕ) → slice_index p (ancestor p x x) ≡ ancestor p x x
  unfolding root_of
  fixed x = root_is_own x

  longer : (j x : ℕ) → ancestor p (x + j) x ≡ ancestor p x x
  unfolding ancestor
  longer zero x = let e : x + 0 ≡ x = omega arith in ap (λ (k : ℕ). ancestor p k x) e
  longer (suc j) x =
      let e : x + suc j ≡ suc (x + j) = omega arith in
      ap (λ (k : ℕ). ancestor p k x) e ∙ ap (slice_index p) (longer j x) ∙ fixed x

  -- a place and its parent have one root
  pub root_up : (x : ℕ) → root_of p (slice_index p x) ≡ root_of p x
  unfolding root_of ancestor
  root_up x =
      let y = slice_index p x in
      let e : y + (x - y) ≡ x = omega (arith, forest x) in
      sym (longer (x - y) y) ∙ ap (λ (k : ℕ). ancestor p k y) e ∙ inner x x ∙ fixed x

  -- the tree of one root is hung below another, earlier one
  module _ (hi lo : ℕ) (within : hi < length p) (order : lo ≤ hi) (top : slice_index p hi ≡ hi) (low : slice_index p lo ≡ lo) where
    hung_other : (x : ℕ) → x ≢ hi → slice_index (slice_set p hi lo) x ≡ slice_index p x
    hung_other x ne = get_or-set_other p hi x lo 0 ne

    hung_top : slice_index (slice_set p hi lo) hi ≡ lo
    hung_top = get_or-set_same p hi lo 0 within

    pub hung_forest : IsForest (slice_set p hi lo)
    hung_forest x = elim (eqb_tells x hi) [
      | inl e ↦ subst (λ (y : ℕ). slice_index (slice_set p hi lo) y ≤ y) (sym e.1) (omega (arith, hung_top))
      | inr ne ↦ omega (arith, hung_other x ne.1, forest x)
    ]

-- the roots after a tree was hung below another
module _ (p : List ℕ) (forest : IsForest p) (hi lo : ℕ) (within : hi < length p) (order : lo ≤ hi) (top : slice_index p hi ≡ hi) (low : slice_index p lo ≡ lo) where
  new_forest : IsForest (slice_set p hi lo)
  new_forest = hung_forest p forest hi lo within order top low

  low_stays : slice_index (slice_set p hi lo) lo ≡ lo
  low_stays = elim (eqb_tells lo hi) [
    | inl e ↦ subst (λ (y : ℕ). slice_index (slice_set p hi lo) y ≡ lo) (sym e.1) (hung_top p forest hi lo within order top low)
    | inr ne ↦ hung_other p forest hi lo within order top low lo ne.1 ∙ low
  ]

  hung_root : root_of (slice_set p hi lo) hi ≡ lo
  hung_root =
      sym (root_up (slice_set p hi lo) new_forest hi)
      ∙ ap (root_of (slice_set p hi lo)) (hung_top p forest hi lo within order top low)
      ∙ own_root (slice_set p hi lo) new_forest lo low_stays

  lt_split : (j c : ℕ) → j < suc c → (j < c) ⊎ (j ≡ c)
  lt_split j c h = grind arith

  other_place : (n x : ℕ) → x < n → x ≢ hi → ((y : ℕ) → y < n → y < x → root_of (slice_set p hi lo) y ≡ (if root_of p y == hi then lo else root_of p y)) →
      root_of (slice_set p hi lo) x ≡ (if root_of p x == hi then lo else root_of p x)
  other_place n x l ne less =
      let same = hung_other p forest hi lo within order top low x ne in
      elim (eqb_tells (slice_index p x) x) [
        | inl own ↦
            let r : root_of p x ≡ x = own_root p forest x own.1 in
            let r' : root_of (slice_set p hi lo) x ≡ x = own_root (slice_set p hi lo) new_forest x (same ∙ own.1) in
            let differs : (x == hi) ≡ false = ne_eqb x hi ne in
            rw r (rw differs r')
        | inr up ↦
            let y = slice_index p x in
            let before : y < x = omega (arith, up.1, forest x) in
            let e : root_of p y ≡ root_of p x = root_up p forest x in
            let e' : root_of (slice_set p hi lo) y ≡ root_of (slice_set p hi lo) x = ap (root_of (slice_set p hi lo)) (sym same) ∙ root_up (slice_set p hi lo) new_forest x in
            sym e' ∙ less y (omega (arith, before)) before ∙ ap (λ (r : ℕ). if r == hi then lo else r) e
      ]
    where
      ne_eqb : (a b : ℕ) → a ≢ b → (a == b) ≡ false
      ne_eqb a b h = elim (eqb_tells a b) [ inl e ↦ absurd (h e.1) | inr n ↦ n.0 ]

  pub hung_roots : (n x : ℕ) → x < n → root_of (slice_set p hi lo) x ≡ (if root_of p x == hi then lo else root_of p x)
  hung_roots zero x l = absurd (omega arith)
  hung_roots (suc n) x l = elim (eqb_tells x hi) [
    | inl e ↦
        let r : root_of p hi ≡ hi = own_root p forest hi top in
        let same : (hi == hi) ≡ true = eq-eqb hi hi refl in
        subst (λ (y : ℕ). root_of (slice_set p hi lo) y ≡ (if root_of p y == hi then lo else root_of p y)) (sym e.1) (rw r (rw same hung_root))
    | inr ne ↦ other_place (suc n) x l ne.1 (λ y (m : y < suc n) (b : y < x). hung_roots n y (omega arith))
  ]

ne_eqb : (a b : ℕ) → a ≢ b → (a == b) ≡ false
ne_eqb a b h = elim (eqb_tells a b) [ inl e ↦ absurd (h e.1) | inr n ↦ n.0 ]

min_left : (a b : ℕ) → a ≤ b → min a b ≡ a
min_left a b h = omega arith

min_right : (a b : ℕ) → b ≤ a → min a b ≡ b
min_right a b h = omega arith

-- the root by what was hung is that of the joined trees
hung_joined : (lo hi r : ℕ) → lo ≤ hi → (if r == hi then lo else r) ≡ root_joined lo hi r
hung_joined lo hi r h =
    let m : min lo hi ≡ lo = min_left lo hi h in
    elim (eqb_tells r hi) [
      | inl e ↦ elim (eqb_tells r lo) [
        | inl l ↦ rw e.0 (rw l.0 (sym m))
        | inr n ↦ rw e.0 (rw n.0 (sym m))
      ]
      | inr ne ↦ elim (eqb_tells r lo) [
        | inl l ↦ rw ne.0 (rw l.0 (l.1 ∙ sym m))
        | inr n ↦ rw ne.0 (rw n.0 refl)
      ]
    ]

joined_swap : (a b r : ℕ) → root_joined a b r ≡ root_joined b a r
joined_swap a b r =
    let m : min a b ≡ min b a = omega arith in
    elim (eqb_tells r a) [
      | inl e ↦ elim (eqb_tells r b) [ inl f ↦ rw e.0 (rw f.0 m) | inr f ↦ rw e.0 (rw f.0 m) ]
      | inr e ↦ elim (eqb_tells r b) [ inl f ↦ rw e.0 (rw f.0 m) | inr f ↦ rw e.0 (rw f.0 refl) ]
    ]

-- the tree of b hung below that of a, whose roots are hi and lo
pub join_roots : (p : List ℕ) → IsForest p → (hi lo a b x : ℕ) → hi < length p → lo ≤ hi → slice_index p hi ≡ hi → slice_index p lo ≡ lo → lo ≡ root_of p a → hi ≡ root_of p b →
    root_of (slice_set p hi lo) x ≡ root_joined (root_of p a) (root_of p b) (root_of p x)
join_roots p forest hi lo a b x within order top low ea eb =
    hung_roots p forest hi lo within order top low (suc x) x (omega arith)
    ∙ hung_joined lo hi (root_of p x) order
    ∙ ap (λ (l : ℕ). root_joined l hi (root_of p x)) ea
    ∙ ap (λ (h : ℕ). root_joined (root_of p a) h (root_of p x)) eb

pub join_roots_back : (p : List ℕ) → IsForest p → (hi lo a b x : ℕ) → hi < length p → lo ≤ hi → slice_index p hi ≡ hi → slice_index p lo ≡ lo → hi ≡ root_of p a → lo ≡ root_of p b →
    root_of (slice_set p hi lo) x ≡ root_joined (root_of p a) (root_of p b) (root_of p x)
join_roots_back p forest hi lo a b x within order top low ea eb =
    join_roots p forest hi lo b a x within order top low eb ea ∙ joined_swap (root_of p b) (root_of p a) (root_of p x)

-- trees joined after the ways to their roots were made shorter
pub join_after : (old p : List ℕ) → IsForest p → ((x : ℕ) → root_of p x ≡ root_of old x) → (hi lo a b x : ℕ) → hi < length p → lo ≤ hi → lo ≡ root_of old a → hi ≡ root_of old b →
    root_of (slice_set p hi lo) x ≡ root_joined (root_of old a) (root_of old b) (root_of old x)
join_after old p forest roots hi lo a b x within order ea eb =
    let la : lo ≡ root_of p a = ea ∙ sym (roots a) in
    let hb : hi ≡ root_of p b = eb ∙ sym (roots b) in
    let top : slice_index p hi ≡ hi = subst (λ (y : ℕ). slice_index p y ≡ y) (sym hb) (root_is_own p forest b) in
    let low : slice_index p lo ≡ lo = subst (λ (y : ℕ). slice_index p y ≡ y) (sym la) (root_is_own p forest a) in
    join_roots p forest hi lo a b x within order top low la hb
    ∙ ap (λ (r : ℕ). root_joined r (root_of p b) (root_of p x)) (roots a)
    ∙ ap (λ (r : ℕ). root_joined (root_of old a) r (root_of p x)) (roots b)
    ∙ ap (root_joined (root_of old a) (root_of old b)) (roots x)

pub join_after_back : (old p : List ℕ) → IsForest p → ((x : ℕ) → root_of p x ≡ root_of old x) → (hi lo a b x : ℕ) → hi < length p → lo ≤ hi → hi ≡ root_of old a → lo ≡ root_of old b →
    root_of (slice_set p hi lo) x ≡ root_joined (root_of old a) (root_of old b) (root_of old x)
join_after_back old p forest roots hi lo a b x within order ea eb =
    join_after old p forest roots hi lo b a x within order eb ea ∙ joined_swap (root_of old b) (root_of old a) (root_of old x)

-- a place that is not its own parent is hung below a lower place of its tree
module _ (p : List ℕ) (forest : IsForest p) (at y : ℕ) (within : at < length p) (lower : y < at) (same : root_of p y ≡ root_of p at) where
  moved_other : (x : ℕ) → x ≢ at → slice_index (slice_set p at y) x ≡ slice_index p x
  moved_other x ne = get_or-set_other p at x y 0 ne

  moved_here : slice_index (slice_set p at y) at ≡ y
  moved_here = get_or-set_same p at y 0 within

  pub moved_forest : IsForest (slice_set p at y)
  moved_forest x = elim (eqb_tells x at) [
    | inl e ↦ subst (λ (z : ℕ). slice_index (slice_set p at y) z ≤ z) (sym e.1) (omega (arith, moved_here, lower))
    | inr ne ↦ omega (arith, moved_other x ne.1, forest x)
  ]

  moved_place : (n x : ℕ) → x < n → ((z : ℕ) → z < n → z < x → root_of (slice_set p at y) z ≡ root_of p z) → root_of (slice_set p at y) x ≡ root_of p x
  moved_place n x l less = elim (eqb_tells x at) [
    | inl e ↦
        let before : y < x = omega (arith, e.1, lower) in
        ap (root_of (slice_set p at y)) e.1
        ∙ sym (root_up (slice_set p at y) moved_forest at) ∙ ap (root_of (slice_set p at y)) moved_here
        ∙ less y (omega (arith, before, l)) before ∙ same ∙ ap (root_of p) (sym e.1)
    | inr ne ↦ elim (eqb_tells (slice_index p x) x) [
      | inl own ↦ own_root (slice_set p at y) moved_forest x (moved_other x ne.1 ∙ own.1) ∙ sym (own_root p forest x own.1)
      | inr up ↦
          let z = slice_index p x in
          let before : z < x = omega (arith, up.1, forest x) in
          sym (root_up (slice_set p at y) moved_forest x) ∙ ap (root_of (slice_set p at y)) (moved_other x ne.1)
          ∙ less z (omega (arith, before, l)) before ∙ root_up p forest x
    ]
  ]

  moved_below : (n x : ℕ) → x < n → root_of (slice_set p at y) x ≡ root_of p x
  moved_below zero x l = absurd (omega arith)
  moved_below (suc n) x l = moved_place (suc n) x l (λ z (m : z < suc n) (b : z < x). moved_below n z (omega arith))

  pub moved_roots : (x : ℕ) → root_of (slice_set p at y) x ≡ root_of p x
  moved_roots x = moved_below (suc x) x (omega arith)

lt_or_eq : (k i : ℕ) → k < i + 1 → (k < i) ⊎ (k ≡ i)
lt_or_eq k i h = grind arith

-- one more place is flat
pub flat_more : (p old : List ℕ) (i : ℕ) → IsForest old → i < length p →
    ((x : ℕ) → x < i → get_or p x 0 ≡ root_of old x) → ((x : ℕ) → i ≤ x → get_or p x 0 ≡ get_or old x 0) →
    (x : ℕ) → x < i + 1 → get_or (set p i (get_or p (get_or p i 0) 0)) x 0 ≡ root_of old x
flat_more p old i forest within done rest x l = elim (lt_or_eq x i l) [
  | inl less ↦ let ne : x ≢ i = omega arith in get_or-set_other p i x (get_or p (get_or p i 0) 0) 0 ne ∙ done x less
  | inr same ↦ subst (λ (y : ℕ). get_or (set p i (get_or p (get_or p i 0) 0)) y 0 ≡ root_of old y) (sym same)
      (get_or-set_same p i (get_or p (get_or p i 0) 0) 0 within ∙ parent)
]
  where
    parent : get_or p (get_or p i 0) 0 ≡ root_of old i
    parent =
        let own : get_or p i 0 ≡ get_or old i 0 = rest i (omega arith) in
        elim (eqb_tells (get_or old i 0) i) [
          | inl e ↦ ap (λ (y : ℕ). get_or p y 0) (own ∙ e.1) ∙ own ∙ e.1 ∙ sym (own_root old forest i e.1)
          | inr ne ↦
              let before : get_or old i 0 < i = omega (arith, ne.1, forest i) in
              ap (λ (y : ℕ). get_or p y 0) own ∙ done (get_or old i 0) before ∙ root_up old forest i
        ]

pub flat_rest : (p old : List ℕ) (i y : ℕ) → ((x : ℕ) → i ≤ x → get_or p x 0 ≡ get_or old x 0) → (x : ℕ) → i + 1 ≤ x → get_or (set p i y) x 0 ≡ get_or old x 0
flat_rest p old i y rest x l = let ne : x ≢ i = omega arith in get_or-set_other p i x y 0 ne ∙ rest x (omega arith)

-- parents that are the roots are labels
pub roots_are_labels : (p old : List ℕ) → IsForest old → length p ≡ length old → ((x : ℕ) → x < length old → get_or p x 0 ≡ root_of old x) → AreLabels p
roots_are_labels p old forest long are = record {
  forest = λ x. elim (lt_or_ge x (length old)) [
    | inl l ↦ omega (arith, are x l, root_below old forest x)
    | inr g ↦ omega (arith, get_or_past p x 0 (omega (arith, long)))
  ];
  flat = λ x l.
      let inside : x < length old = omega (arith, long) in
      let lower : root_of old x < length old = omega (arith, root_below old forest x) in
      ap (λ (y : ℕ). get_or p y 0) (are x inside) ∙ are (root_of old x) lower ∙ own_root old forest (root_of old x) (root_is_own old forest x) ∙ sym (are x inside);
}
  where
    lt_or_ge : (a b : ℕ) → (a < b) ⊎ (b ≤ a)
    lt_or_ge a b = grind arith

-- labels are their own roots
pub label_root : (p : List ℕ) → AreLabels p → (x : ℕ) → x < length p → root_of p x ≡ slice_index p x
label_root p labels x l = sym (root_up p labels.forest x) ∙ own_root p labels.forest (slice_index p x) (labels.flat x l)
