-- Pairs that join, some of them chosen.
use Rattle.std.proofs.Common.{◌≡◌, ℕ, zero, suc, ◌+◌, ◌<◌, ◌≤◌, List, [], ◌∷◌, length, Bool, true, false, refl, ap, sym, ◌∙◌, arith, ◌⊎◌, inl, inr, subst, Some, eq-eqb, min}
use Rattle.std.proofs.lemmas.Bool.{eqb-true, or_cases, or_left, or_right, and_from, and_parts}
use Rattle.std.proofs.lemmas.Bool.Decides.{eqb_tells, nat_tests}
use Rattle.std.proofs.lemmas.Option.{slice_get_within}
use Rattle.std.specs.Prelude.{◌==◌, ◌&&◌, ◌||◌, slice_get, slice_index, nat_lt, replicate}
use Rattle.board_model.specs.Pairs.{ArePairs}
use Rattle.board_model.specs.Walks.{Walk, here, further}
use Rattle.board_model.specs.Nets.{joins, joined_by}
use Rattle.board_model.specs.Resolve.{contact_joins}
use Rattle.board_model.proofs.WalkLemmas.{walk_join, walk_back, walk_as}
use Rattle.board_model.proofs.Lists.{some_same, lt_or_eq}
use Rattle.net_union_find.specs.Forest.{IsForest, AreLabels, root_of, root_joined, same_or, Joins}
use Rattle.net_union_find.proofs.ForestLemmas.{own_root, root_is_own, root_below, label_root}

-- what a pair that joins two names
pub joins_cases : (c : ℕ × ℕ) (x y : ℕ) → joins c x y ≡ true → ((c.0 ≡ x) × (c.1 ≡ y)) ⊎ ((c.0 ≡ y) × (c.1 ≡ x))
joins_cases c x y h = elim (or_cases ((c.0 == x) && (c.1 == y)) ((c.1 == x) && (c.0 == y)) h) [
  | inl l ↦ let b = and_parts (c.0 == x) (c.1 == y) l in inl (eqb-true c.0 x b.0, eqb-true c.1 y b.1)
  | inr r ↦ let b = and_parts (c.1 == x) (c.0 == y) r in inr (eqb-true c.0 y b.1, eqb-true c.1 x b.0)
]

pub joins_is : (c : ℕ × ℕ) → joins c c.0 c.1 ≡ true
joins_is c = or_left ((c.0 == c.0) && (c.1 == c.1)) ((c.1 == c.0) && (c.0 == c.1)) (and_from (c.0 == c.0) (c.1 == c.1) (eq-eqb c.0 c.0 refl) (eq-eqb c.1 c.1 refl))

pub joins_swap : (c : ℕ × ℕ) (x y : ℕ) → joins c x y ≡ true → joins c y x ≡ true
joins_swap c x y h = elim (or_cases ((c.0 == x) && (c.1 == y)) ((c.1 == x) && (c.0 == y)) h) [
  | inl l ↦ let b = and_parts (c.0 == x) (c.1 == y) l in or_right ((c.0 == y) && (c.1 == x)) ((c.1 == y) && (c.0 == x)) (and_from (c.1 == y) (c.0 == x) b.1 b.0)
  | inr r ↦ let b = and_parts (c.1 == x) (c.0 == y) r in or_left ((c.0 == y) && (c.1 == x)) ((c.1 == y) && (c.0 == x)) (and_from (c.0 == y) (c.1 == x) b.1 b.0)
]

-- a step over chosen pairs is over one of them
pub contact_of : (cs : List (ℕ × ℕ)) (chosen : List Bool) (x y : ℕ) → contact_joins cs chosen x y ≡ true →
    (k : ℕ) × (c : ℕ × ℕ) × (slice_get cs k ≡ Some c) × (slice_get chosen k ≡ Some true) × (joins c x y ≡ true)
contact_of [] chosen x y h = absurd cc
contact_of (c ∷ cs) [] x y h = absurd cc
contact_of (c ∷ cs) (b ∷ bs) x y h = elim (or_cases (b && joins c x y) (contact_joins cs bs x y) h) [
  | inl l ↦ let both = and_parts b (joins c x y) l in (0, c, refl, ap Some both.0, both.1)
  | inr r ↦ let s = contact_of cs bs x y r in (suc s.0, s.1, s.2, s.3, s.4)
]

pub contact_is : (cs : List (ℕ × ℕ)) (chosen : List Bool) (k : ℕ) (c : ℕ × ℕ) (x y : ℕ) → slice_get cs k ≡ Some c → slice_get chosen k ≡ Some true → joins c x y ≡ true → contact_joins cs chosen x y ≡ true
contact_is [] chosen k c x y ec eb j = absurd cc
contact_is (d ∷ cs) [] k c x y ec eb j = absurd cc
contact_is (d ∷ cs) (b ∷ bs) zero c x y ec eb j =
    let e : d ≡ c = some_same ec in
    let t : b ≡ true = some_same eb in
    or_left (b && joins d x y) (contact_joins cs bs x y) (and_from b (joins d x y) t (subst (λ (z : ℕ × ℕ). joins z x y ≡ true) (sym e) j))
contact_is (d ∷ cs) (b ∷ bs) (suc k) c x y ec eb j =
    or_right (b && joins d x y) (contact_joins cs bs x y) (contact_is cs bs k c x y ec eb j)

pub contact_swap : (cs : List (ℕ × ℕ)) (chosen : List Bool) (x y : ℕ) → contact_joins cs chosen x y ≡ true → contact_joins cs chosen y x ≡ true
contact_swap cs chosen x y h = let s = contact_of cs chosen x y h in contact_is cs chosen s.0 s.1 y x s.2 s.3 (joins_swap s.1 x y s.4)

-- steps within old trees or over chosen pairs turn round
pub same_or_swap : (old : List ℕ) (cs : List (ℕ × ℕ)) (chosen : List Bool) (x y : ℕ) → same_or old (contact_joins cs chosen) x y ≡ true → same_or old (contact_joins cs chosen) y x ≡ true
same_or_swap old cs chosen x y h = elim (or_cases (nat_lt x (length old) && nat_lt y (length old) && (root_of old x == root_of old y)) (contact_joins cs chosen x y) h) [
  | inl l ↦
      let a = and_parts (nat_lt x (length old) && nat_lt y (length old)) (root_of old x == root_of old y) l in
      let b = and_parts (nat_lt x (length old)) (nat_lt y (length old)) a.0 in
      let e : (root_of old y == root_of old x) ≡ true = eq-eqb (root_of old y) (root_of old x) (sym (eqb-true (root_of old x) (root_of old y) a.1)) in
      or_left (nat_lt y (length old) && nat_lt x (length old) && (root_of old y == root_of old x)) (contact_joins cs chosen y x)
      (and_from (nat_lt y (length old) && nat_lt x (length old)) (root_of old y == root_of old x) (and_from (nat_lt y (length old)) (nat_lt x (length old)) b.1 b.0) e)
  | inr r ↦ or_right (nat_lt y (length old) && nat_lt x (length old) && (root_of old y == root_of old x)) (contact_joins cs chosen y x) (contact_swap cs chosen x y r)
]

-- one joins trees by one chosen pair c
module _ (old p new : List ℕ) (cs : List (ℕ × ℕ)) (chosen : List Bool) (i : ℕ) (c : ℕ × ℕ)
    (at : slice_get cs i ≡ Some c) (picked : slice_get chosen i ≡ Some true) (first : c.0 < length old) (second : c.1 < length old)
    (walks : (x : ℕ) → x < length old → Walk (same_or old (contact_joins cs chosen)) x (root_of p x))
    (roots : (x : ℕ) → root_of new x ≡ root_joined (root_of p c.0) (root_of p c.1) (root_of p x)) where
  over : Walk (same_or old (contact_joins cs chosen)) (root_of p c.0) (root_of p c.1)
  over =
      let step = same_or old (contact_joins cs chosen) in
      let back = walk_back step (same_or_swap old cs chosen) c.0 (root_of p c.0) (walks c.0 first) in
      let pass : step c.0 c.1 ≡ true = or_right (nat_lt c.0 (length old) && nat_lt c.1 (length old) && (root_of old c.0 == root_of old c.1)) (contact_joins cs chosen c.0 c.1) (contact_is cs chosen i c c.0 c.1 at picked (joins_is c)) in
      walk_join step (root_of p c.0) c.1 (root_of p c.1) (further c.0 c.1 back pass) (walks c.1 second)

  to_min : (a b r : ℕ) → Walk (same_or old (contact_joins cs chosen)) a b → Walk (same_or old (contact_joins cs chosen)) r (root_joined a b r)
  to_min a b r w =
      let step = same_or old (contact_joins cs chosen) in
      let back = walk_back step (same_or_swap old cs chosen) a b w in
      elim (eqb_tells r a) [
        | inl ea ↦ rw ea.0 (elim (le_or_lt a b) [
          | inl l ↦ let m : min a b ≡ a = omega arith in rw m (subst (λ (z : ℕ). Walk step z a) (sym ea.1) here)
          | inr g ↦ let m : min a b ≡ b = omega arith in rw m (subst (λ (z : ℕ). Walk step z b) (sym ea.1) w)
        ])
        | inr na ↦ elim (eqb_tells r b) [
          | inl eb ↦ rw na.0 (rw eb.0 (elim (le_or_lt a b) [
            | inl l ↦ let m : min a b ≡ a = omega arith in rw m (subst (λ (z : ℕ). Walk step z a) (sym eb.1) back)
            | inr g ↦ let m : min a b ≡ b = omega arith in rw m (subst (λ (z : ℕ). Walk step z b) (sym eb.1) here)
          ]))
          | inr nb ↦ rw na.0 (rw nb.0 here)
        ]
      ]
    where
      le_or_lt : (m n : ℕ) → (m ≤ n) ⊎ (n < m)
      le_or_lt m n = grind arith

  pub walks_more : (x : ℕ) → x < length old → Walk (same_or old (contact_joins cs chosen)) x (root_of new x)
  walks_more x l =
      let step = same_or old (contact_joins cs chosen) in
      subst (λ (z : ℕ). Walk step x z) (sym (roots x))
      (walk_join step x (root_of p x) (root_joined (root_of p c.0) (root_of p c.1) (root_of p x)) (walks x l) (to_min (root_of p c.0) (root_of p c.1) (root_of p x) over))

  pub keeps_more : (x y : ℕ) → root_of p x ≡ root_of p y → root_of new x ≡ root_of new y
  keeps_more x y e = roots x ∙ ap (root_joined (root_of p c.0) (root_of p c.1)) e ∙ sym (roots y)

  here_joined : (a b : ℕ) → root_joined a b a ≡ root_joined a b b
  here_joined a b =
      let ea : (a == a) ≡ true = eq-eqb a a refl in
      let eb : (b == b) ≡ true = eq-eqb b b refl in
      rw ea (rw eb (elim (eqb_tells b a) [ inl e ↦ rw e.0 refl | inr e ↦ rw e.0 refl ]))

  pub joined_more : ((k : ℕ) (d : ℕ × ℕ) → k < i → slice_get cs k ≡ Some d → slice_get chosen k ≡ Some true → root_of p d.0 ≡ root_of p d.1) →
      (k : ℕ) (d : ℕ × ℕ) → k < i + 1 → slice_get cs k ≡ Some d → slice_get chosen k ≡ Some true → root_of new d.0 ≡ root_of new d.1
  joined_more before k d l ed eb = elim (lt_or_eq k i l) [
    | inl less ↦ keeps_more d.0 d.1 (before k d less ed eb)
    | inr same ↦
        let e : c ≡ d = some_same (sym at ∙ subst (λ (j : ℕ). slice_get cs j ≡ Some d) same ed) in
        subst (λ (z : ℕ × ℕ). root_of new z.0 ≡ root_of new z.1) e (roots c.0 ∙ here_joined (root_of p c.0) (root_of p c.1) ∙ sym (roots c.1))
  ]

-- a pair that is not chosen joins nothing
pub joined_less : (p : List ℕ) (cs : List (ℕ × ℕ)) (chosen : List Bool) (i : ℕ) → slice_get chosen i ≡ Some false →
    ((k : ℕ) (d : ℕ × ℕ) → k < i → slice_get cs k ≡ Some d → slice_get chosen k ≡ Some true → root_of p d.0 ≡ root_of p d.1) →
    (k : ℕ) (d : ℕ × ℕ) → k < i + 1 → slice_get cs k ≡ Some d → slice_get chosen k ≡ Some true → root_of p d.0 ≡ root_of p d.1
joined_less p cs chosen i off before k d l ed eb = elim (lt_or_eq k i l) [
  | inl less ↦ before k d less ed eb
  | inr same ↦
      let e : slice_get chosen i ≡ Some true = subst (λ (j : ℕ). slice_get chosen j ≡ Some true) same eb in
      absurd cc
]

-- all chosen pairs are joined
pub all_joined : (p : List ℕ) (cs : List (ℕ × ℕ)) (chosen : List Bool) →
    ((k : ℕ) (d : ℕ × ℕ) → slice_get cs k ≡ Some d → slice_get chosen k ≡ Some true → root_of p d.0 ≡ root_of p d.1) →
    (x y : ℕ) → contact_joins cs chosen x y ≡ true → root_of p x ≡ root_of p y
all_joined p cs chosen each x y h =
    let s = contact_of cs chosen x y h in
    let e = each s.0 s.1 s.2 s.3 in
    elim (joins_cases s.1 x y s.4) [
      | inl same ↦ ap (root_of p) (sym same.0) ∙ e ∙ ap (root_of p) same.1
      | inr back ↦ ap (root_of p) (sym back.1) ∙ sym e ∙ ap (root_of p) back.0
    ]

-- at the start each place walks to its root
pub walks_start : (old : List ℕ) → IsForest old → (step : ℕ → ℕ → Bool) (x : ℕ) → x < length old → Walk (same_or old step) x (root_of old x)
walks_start old forest step x l =
    let r = root_of old x in
    let lower : r < length old = omega (arith, root_below old forest x) in
    let own : root_of old r ≡ r = own_root old forest r (root_is_own old forest x) in
    let in_x : nat_lt x (length old) ≡ true = lt_test x (length old) l in
    let in_r : nat_lt r (length old) ≡ true = lt_test r (length old) lower in
    let pass : same_or old step x r ≡ true =
    or_left (nat_lt x (length old) && nat_lt r (length old) && (root_of old x == root_of old r)) (step x r)
    (and_from (nat_lt x (length old) && nat_lt r (length old)) (root_of old x == root_of old r) (and_from (nat_lt x (length old)) (nat_lt r (length old)) in_x in_r) (eq-eqb (root_of old x) (root_of old r) (sym own))) in
    further x r here pass
  where
    lt_test : (a b : ℕ) → a < b → nat_lt a b ≡ true
    lt_test a b h = grind (arith, nat_tests)

-- The chosen pairs before i are joined, and nothing but by chosen pairs.
pub record Joining (old : List ℕ) (cs : List (ℕ × ℕ)) (chosen : List Bool) (i : ℕ) (p : List ℕ) : Type 0 where
  pub forest : IsForest p
  pub walks : (x : ℕ) → x < length old → Walk (same_or old (contact_joins cs chosen)) x (root_of p x)
  pub keeps : (x y : ℕ) → root_of old x ≡ root_of old y → root_of p x ≡ root_of p y
  pub joined : (k : ℕ) (c : ℕ × ℕ) → k < i → slice_get cs k ≡ Some c → slice_get chosen k ≡ Some true → root_of p c.0 ≡ root_of p c.1

pub joining_start : (old : List ℕ) (cs : List (ℕ × ℕ)) (chosen : List Bool) → IsForest old → Joining old cs chosen 0 old
joining_start old cs chosen forest = record {
  forest = forest;
  walks = λ x l. walks_start old forest (contact_joins cs chosen) x l;
  keeps = λ x y e. e;
  joined = λ k d l. absurd (omega arith);
}

pub joining_more : (old : List ℕ) (cs : List (ℕ × ℕ)) (chosen : List Bool) (i : ℕ) (p new : List ℕ) (c : ℕ × ℕ) → Joining old cs chosen i p →
    slice_get cs i ≡ Some c → slice_get chosen i ≡ Some true → c.0 < length old → c.1 < length old → IsForest new →
    ((x : ℕ) → root_of new x ≡ root_joined (root_of p c.0) (root_of p c.1) (root_of p x)) → Joining old cs chosen (i + 1) new
joining_more old cs chosen i p new c j at on first second forest roots = record {
  forest = forest;
  walks = walks_more old p new cs chosen i c at on first second j.walks roots;
  keeps = λ x y e. keeps_more old p new cs chosen i c at on first second j.walks roots x y (j.keeps x y e);
  joined = joined_more old p new cs chosen i c at on first second j.walks roots j.joined;
}

pub joining_less : (old : List ℕ) (cs : List (ℕ × ℕ)) (chosen : List Bool) (i : ℕ) (p : List ℕ) → Joining old cs chosen i p → slice_get chosen i ≡ Some false → Joining old cs chosen (i + 1) p
joining_less old cs chosen i p j off = record {
  forest = j.forest;
  walks = j.walks;
  keeps = j.keeps;
  joined = joined_less p cs chosen i off j.joined;
}

pub joining_end : (old : List ℕ) (cs : List (ℕ × ℕ)) (chosen : List Bool) (i : ℕ) (p : List ℕ) → Joining old cs chosen i p → length cs ≤ i → Joins (contact_joins cs chosen) old p
joining_end old cs chosen i p j end = record {
  walks = j.walks;
  keeps = λ x y _ _ e. j.keeps x y e;
  joined = all_joined p cs chosen (λ k d ed eb. j.joined k d (omega (arith, slice_get_within cs k d ed)) ed eb);
}

-- what holds of trees holds of their labels
pub joins_labels : (step : ℕ → ℕ → Bool) (old p labels : List ℕ) → Joins step old p → length p ≡ length old → length labels ≡ length old → AreLabels labels → IsForest p →
    ((x y : ℕ) → step x y ≡ true → (x < length old) × (y < length old)) →
    ((x : ℕ) → x < length p → slice_index labels x ≡ root_of p x) → Joins step old labels
joins_labels step old p labels j long long' flat forest bounds are = record {
  walks = λ x l. subst (λ (z : ℕ). Walk (same_or old step) x z) (sym (root x l)) (j.walks x l);
  keeps = λ x y lx ly e. root x lx ∙ j.keeps x y lx ly e ∙ sym (root y ly);
  joined = λ x y s. root x (bounds x y s).0 ∙ j.joined x y s ∙ sym (root y (bounds x y s).1);
}
  where
    root : (x : ℕ) → x < length old → root_of labels x ≡ root_of p x
    root x l = let in_labels : x < length labels = omega arith in let in_p : x < length p = omega arith in label_root labels flat x in_labels ∙ are x in_p

-- steps over chosen pairs are between places that there are
pub contact_bounds : (n : ℕ) (cs : List (ℕ × ℕ)) (chosen : List Bool) → ArePairs n cs →
    (x y : ℕ) → contact_joins cs chosen x y ≡ true → (x < n) × (y < n)
contact_bounds n cs chosen each x y h =
    let s = contact_of cs chosen x y h in
    let e = each s.0 s.1 s.2 in
    elim (joins_cases s.1 x y s.4) [
      | inl same ↦ (subst (λ (z : ℕ). z < n) same.0 e.0, subst (λ (z : ℕ). z < n) same.1 e.1)
      | inr back ↦ (subst (λ (z : ℕ). z < n) back.1 e.1, subst (λ (z : ℕ). z < n) back.0 e.0)
    ]

-- without pairs nothing is joined
pub joins_none : (old : List ℕ) (cs : List (ℕ × ℕ)) (chosen : List Bool) → IsForest old → length cs ≡ 0 → Joins (contact_joins cs chosen) old old
joins_none old cs chosen forest none = joining_end old cs chosen 0 old (joining_start old cs chosen forest) (omega arith)

pub get_replicate : {A : Type 0} (x : A) (count k : ℕ) → k < count → slice_get (replicate count x) k ≡ Some x
get_replicate x zero k h = absurd (omega arith)
get_replicate x (suc count) zero h = refl
get_replicate x (suc count) (suc k) h = get_replicate x count k (omega arith)

-- all pairs join what they join where each is chosen
pub joined_chosen : (cs : List (ℕ × ℕ)) (x y : ℕ) → contact_joins cs (replicate (length cs) true) x y ≡ joined_by cs x y
joined_chosen [] x y = refl
joined_chosen (c ∷ cs) x y = ap (λ (b : Bool). joins c x y || b) (joined_chosen cs x y)

pub joined_is : (cs : List (ℕ × ℕ)) (k : ℕ) (c : ℕ × ℕ) (x y : ℕ) → slice_get cs k ≡ Some c → joins c x y ≡ true → joined_by cs x y ≡ true
joined_is cs k c x y e h = sym (joined_chosen cs x y) ∙ contact_is cs (replicate (length cs) true) k c x y e (get_replicate true (length cs) k (slice_get_within cs k c e)) h

pub joined_swap : (cs : List (ℕ × ℕ)) (x y : ℕ) → joined_by cs x y ≡ true → joined_by cs y x ≡ true
joined_swap cs x y h = sym (joined_chosen cs y x) ∙ contact_swap cs (replicate (length cs) true) x y (joined_chosen cs x y ∙ h)

pub joined_bounds : (n : ℕ) (cs : List (ℕ × ℕ)) → ArePairs n cs → (x y : ℕ) → joined_by cs x y ≡ true → (x < n) × (y < n)
joined_bounds n cs each x y h = contact_bounds n cs (replicate (length cs) true) each x y (joined_chosen cs x y ∙ h)

-- steps that are the same join the same
pub joins_as : (step other : ℕ → ℕ → Bool) (old new : List ℕ) → ((x y : ℕ) → step x y ≡ other x y) → Joins step old new → Joins other old new
joins_as step other old new same j = record {
  walks = λ x l. walk_as (same_or old step) (same_or old other)
      (λ a b h. sym (ap (λ (s : Bool). (nat_lt a (length old) && nat_lt b (length old) && (root_of old a == root_of old b)) || s) (same a b)) ∙ h) x (root_of new x) (j.walks x l);
  keeps = j.keeps;
  joined = λ x y h. j.joined x y (same x y ∙ h);
}
