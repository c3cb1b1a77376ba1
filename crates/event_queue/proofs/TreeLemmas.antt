-- The top of the tree is the first of all.
use Rattle.std.proofs.Common.{◌≡◌, ◌≢◌, ℕ, zero, suc, ◌+◌, ◌-◌, ◌*◌, ◌/◌, ◌<◌, ◌≤◌, ◌⊎◌, inl, inr, List, [], ◌∷◌, length, Bool, true, false, Option, None, Some, refl, ap, sym, ◌∙◌, arith, subst, length-set}
use Rattle.std.specs.Prelude.{slice_get, slice_set, nat_le, if◌then◌else◌, option_map, unwrap_or, replicate}
use Rattle.std.proofs.lemmas.Bool.Decides.{nat_tests}
use Rattle.std.proofs.lemmas.Option.{slice_get_within}
use Rattle.event_queue.specs.declared.entry.Entry.{Entry}
use Rattle.event_queue.specs.First.{IsFirst}
use Rattle.event_queue.specs.Places.{IsNotAfter, leaf, no_entry, at_place, IsBest, IsWithout, with_cycle}

pub some_same : {A : Type 0} (x y : A) → Some x ≡ Some y → x ≡ y
some_same x y e = cc

pub not_after_self : (a : Entry) → IsNotAfter a a
not_after_self a v h = (v, h, inr (refl, omega arith))

pub not_after_then : (a b c : Entry) → IsNotAfter a b → IsNotAfter b c → IsNotAfter a c
not_after_then a b c first second v h =
    let y = second v h in
    let x = first y.0 y.1 in (
      x.0,
      x.1,
      elim x.2 [
        | inl less ↦ elim y.2 [
          | inl also ↦ inl (omega (arith, less, also))
          | inr same ↦ let e = same.0 in inl (omega (arith, less, e))
        ]
        | inr here ↦ elim y.2 [
          | inl also ↦ let e = here.0 in inl (omega (arith, also, e))
          | inr same ↦ inr (here.0 ∙ same.0, (let f = here.1 in let g = same.1 in omega (arith, f, g)))
        ]
      ],
    )

is_leaf_place : (n k : ℕ) → n ≤ k → nat_le n k ≡ true
is_leaf_place n k h = grind (arith, nat_tests)

is_inner_place : (n k : ℕ) → k < n → nat_le n k ≡ false
is_inner_place n k h = grind (arith, nat_tests)

pub at_leaf : (n : ℕ) (dues : List (Option ℕ)) (best : List Entry) (k : ℕ) → n ≤ k → at_place n dues best k ≡ leaf dues (k - n)
at_leaf n dues best k h = ap (λ (b : Bool). if b then leaf dues (k - n) else unwrap_or (slice_get best k) no_entry) (is_leaf_place n k h)

pub at_inner : (n : ℕ) (dues : List (Option ℕ)) (best : List Entry) (k : ℕ) → k < n → at_place n dues best k ≡ unwrap_or (slice_get best k) no_entry
at_inner n dues best k h = ap (λ (b : Bool). if b then leaf dues (k - n) else unwrap_or (slice_get best k) no_entry) (is_inner_place n k h)

one_or_more : (k : ℕ) → 1 ≤ k → (k ≡ 1) ⊎ (1 < k)
one_or_more k h = grind arith

halves : (k : ℕ) → (k ≡ 2 * (k / 2)) ⊎ (k ≡ 2 * (k / 2) + 1)
halves k = grind arith

inner_or_leaf : (n k : ℕ) → (k < n) ⊎ (n ≤ k)
inner_or_leaf n k = grind arith

module _ (n : ℕ) (dues : List (Option ℕ)) (best : List Entry) (all : (k : ℕ) → 1 ≤ k → k < n → IsBest n dues best k) where
  -- the top is not after any
  top_first : (fuel k : ℕ) → k ≤ fuel → 1 ≤ k → k < 2 * n → IsNotAfter (at_place n dues best 1) (at_place n dues best k)
  top_first zero k a b c = absurd (omega arith)
  top_first (suc fuel) k a b c = elim (one_or_more k b) [
    | inl one ↦ subst (λ (j : ℕ). IsNotAfter (at_place n dues best 1) (at_place n dues best j)) (sym one) (not_after_self (at_place n dues best 1))
    | inr more ↦
        let half = k / 2 in
        let low : half ≤ fuel = omega arith in
        let some : 1 ≤ half = omega arith in
        let inner : half < n = omega arith in
        let up = top_first fuel half low some (omega arith) in
        let here = all half some inner in
        elim (halves k) [
          | inl e ↦ subst (λ (j : ℕ). IsNotAfter (at_place n dues best 1) (at_place n dues best j)) (sym e) (not_after_then _ _ _ up here.first)
          | inr e ↦ subst (λ (j : ℕ). IsNotAfter (at_place n dues best 1) (at_place n dues best j)) (sym e) (not_after_then _ _ _ up here.second)
        ]
  ]

  -- what stands at a place is a part with its due cycle
  is_part : (fuel k : ℕ) → 2 * n ≤ fuel + k → 1 ≤ k → k < 2 * n → (u : ℕ) → (at_place n dues best k).due ≡ Some u → (i : ℕ) × (at_place n dues best k ≡ leaf dues i)
  is_part zero k a b c u h = absurd (omega arith)
  is_part (suc fuel) k a b c u h = elim (inner_or_leaf n k) [
    | inr leaves ↦ (k - n, at_leaf n dues best k leaves)
    | inl inner ↦ elim ((all k b inner).one u h) [
      | inl e ↦
          let below = is_part fuel (2 * k) (omega arith) (omega arith) (omega arith) u (ap (λ (x : Entry). x.due) (sym e) ∙ h) in
          (below.0, e ∙ below.1)
      | inr e ↦
          let below = is_part fuel (2 * k + 1) (omega arith) (omega arith) (omega arith) u (ap (λ (x : Entry). x.due) (sym e) ∙ h) in
          (below.0, e ∙ below.1)
    ]
  ]

  leaf_later : length dues ≡ n → (k : ℕ) (d : Option ℕ) → slice_get dues k ≡ Some d → IsNotAfter (at_place n dues best 1) (leaf dues k)
  leaf_later long k d e =
      let within : k < length dues = slice_get_within dues k d e in
      let at : n + k - n ≡ k = omega arith in
      subst (λ (x : Entry). IsNotAfter (at_place n dues best 1) x) (at_leaf n dues best (n + k) (omega arith) ∙ ap (leaf dues) at)
      (top_first (n + k) (n + k) (omega arith) (omega (arith, within, long)) (omega (arith, within, long)))

  due_of : (i u : ℕ) → unwrap_or (slice_get dues i) None ≡ Some u → slice_get dues i ≡ Some (Some u)
  due_of i u e = go (slice_get dues i) e
    where
      go : (o : Option (Option ℕ)) → unwrap_or o None ≡ Some u → o ≡ Some (Some u)
      go None h = absurd cc
      go (Some d) h = ap Some h

  pub first_none : length dues ≡ n → (at_place n dues best 1).due ≡ None → IsFirst dues None
  first_none long none k None e = refl
  first_none long none k (Some v) e =
      let later = leaf_later long k (Some v) e v (ap (λ (o : Option (Option ℕ)). unwrap_or o None) e) in
      absurd (let a : Some later.0 ≡ None = sym later.1 ∙ none in cc)

  pub first_some : length dues ≡ n → 1 ≤ n → (u : ℕ) → (at_place n dues best 1).due ≡ Some u → IsFirst dues (Some (u, (at_place n dues best 1).part))
  first_some long some u is =
      let top = at_place n dues best 1 in
      let at = is_part (2 * n) 1 (omega arith) (omega arith) (omega (arith, some)) u is in
      let part : top.part ≡ at.0 = ap (λ (x : Entry). x.part) at.1 in
      let due : slice_get dues at.0 ≡ Some (Some u) = due_of at.0 u (ap (λ (x : Entry). x.due) (sym at.1) ∙ is) in (
        ap (slice_get dues) part ∙ due,
        λ k v e.
            let later = leaf_later long k (Some v) e v (ap (λ (o : Option (Option ℕ)). unwrap_or o None) e) in
            let same : later.0 ≡ u = some_same _ _ (sym later.1 ∙ is) in
            elim later.2 [
              | inl less ↦ ((omega (arith, less, same)), λ (h : k < top.part). (omega (arith, less, same)))
              | inr here ↦
                  let a = here.0 in
                  let b = here.1 in
                  ((omega (arith, a, same)), λ (h : k < top.part). absurd (omega (arith, b)))
            ],
      )

  pub first_is : length dues ≡ n → 1 ≤ n → IsFirst dues (with_cycle (at_place n dues best 1))
  first_is long some = go (at_place n dues best 1).due refl
    where
      go : (d : Option ℕ) → (at_place n dues best 1).due ≡ d → IsFirst dues (option_map (λ (u : ℕ). (u, (at_place n dues best 1).part)) d)
      go None h = first_none long h
      go (Some u) h = first_some long some u h

get_same : {A : Type 0} (xs : List A) (i : ℕ) (x : A) → i < length xs → slice_get (slice_set xs i x) i ≡ Some x
get_same [] i x h = absurd (omega arith)
get_same (y ∷ xs) zero x h = refl
get_same (y ∷ xs) (suc i) x h = get_same xs i x (omega arith)

get_other : {A : Type 0} (xs : List A) (i k : ℕ) (x : A) → k ≢ i → slice_get (slice_set xs i x) k ≡ slice_get xs k
get_other [] i k x h = refl
get_other (y ∷ xs) zero zero x h = absurd (h refl)
get_other (y ∷ xs) zero (suc k) x h = refl
get_other (y ∷ xs) (suc i) zero x h = refl
get_other (y ∷ xs) (suc i) (suc k) x h = get_other xs i k x (λ e. h (ap suc e))

module _ (n : ℕ) (few : n ≤ 64) (dues : List (Option ℕ)) (best : List Entry) (long : length best ≡ 64) (p : ℕ) (some : 1 ≤ p) (inner : p < n) (e : Entry) where
  pub set_here : at_place n dues (slice_set best p e) p ≡ e
  set_here = at_inner n dues (slice_set best p e) p inner ∙ ap (λ (o : Option Entry). unwrap_or o no_entry) (get_same best p e (omega (arith, long, few, inner)))

  pub set_other : (k : ℕ) → k ≢ p → at_place n dues (slice_set best p e) k ≡ at_place n dues best k
  set_other k h = elim (inner_or_leaf n k) [
    | inl inside ↦ at_inner n dues (slice_set best p e) k inside ∙ ap (λ (o : Option Entry). unwrap_or o no_entry) (get_other best p k e h) ∙ sym (at_inner n dues best k inside)
    | inr leaves ↦ at_leaf n dues (slice_set best p e) k leaves ∙ sym (at_leaf n dues best k leaves)
  ]

  same_or_other : (k : ℕ) → (k ≡ p) ⊎ (k ≢ p)
  same_or_other k = grind arith

  -- one place is played anew, and the place above it is left
  pub played : (q : ℕ) → p ≡ q / 2 → (e ≡ at_place n dues best (2 * p)) ⊎ (e ≡ at_place n dues best (2 * p + 1)) → IsNotAfter e (at_place n dues best (2 * p)) → IsNotAfter e (at_place n dues best (2 * p + 1)) →
      ((k : ℕ) → 1 ≤ k → k < n → k ≢ q / 2 → IsBest n dues best k) → (k : ℕ) → 1 ≤ k → k < n → k ≢ p / 2 → IsBest n dues (slice_set best p e) k
  played q is one first second rest k a b above = elim (same_or_other k) [
    | inl here ↦
        let left = set_other (2 * p) (omega arith) in
        let right = set_other (2 * p + 1) (omega arith) in
        let done : IsBest n dues (slice_set best p e) p = record {
          one = λ u h. elim one [
            | inl x ↦ inl (set_here ∙ x ∙ sym left)
            | inr x ↦ inr (set_here ∙ x ∙ sym right)
          ];
          first = subst (λ (x : Entry). IsNotAfter x (at_place n dues (slice_set best p e) (2 * p))) (sym set_here) (subst (λ (x : Entry). IsNotAfter e x) (sym left) first);
          second = subst (λ (x : Entry). IsNotAfter x (at_place n dues (slice_set best p e) (2 * p + 1))) (sym set_here) (subst (λ (x : Entry). IsNotAfter e x) (sym right) second);
        } in
        subst (λ (j : ℕ). IsBest n dues (slice_set best p e) j) (sym here) done
    | inr other ↦
        let not_left : 2 * k ≢ p = (λ (h : 2 * k ≡ p). above (omega arith)) in
        let not_right : 2 * k + 1 ≢ p = (λ (h : 2 * k + 1 ≡ p). above (omega arith)) in
        let here = set_other k other in
        let left = set_other (2 * k) not_left in
        let right = set_other (2 * k + 1) not_right in
        let old = rest k a b (λ (h : k ≡ q / 2). other (h ∙ sym is)) in
        record {
          one = λ u h. elim (old.one u (ap (λ (x : Entry). x.due) (sym here) ∙ h)) [
            | inl x ↦ inl (here ∙ x ∙ sym left)
            | inr x ↦ inr (here ∙ x ∙ sym right)
          ];
          first = subst (λ (x : Entry). IsNotAfter x (at_place n dues (slice_set best p e) (2 * k))) (sym here) (subst (λ (x : Entry). IsNotAfter (at_place n dues best k) x) (sym left) old.first);
          second = subst (λ (x : Entry). IsNotAfter x (at_place n dues (slice_set best p e) (2 * k + 1))) (sym here) (subst (λ (x : Entry). IsNotAfter (at_place n dues best k) x) (sym right) old.second);
        }
  ]

-- an item that is put where it stands
pub set_same : {A : Type 0} (xs : List A) (i : ℕ) (x : A) → slice_get xs i ≡ Some x → slice_set xs i x ≡ xs
set_same [] i x e = refl
set_same {A = A} (z ∷ xs) zero x e = ap (λ (a : A). a ∷ xs) (some_same x z (sym e))
set_same {A = A} (z ∷ xs) (suc i) x e = ap (λ (l : List A). z ∷ l) (set_same xs i x e)

-- the due cycle of part i is another one
module _ (n : ℕ) (dues : List (Option ℕ)) (best : List Entry) (i : ℕ) (d : Option ℕ) where
  abbrev new : List (Option ℕ)
  new = slice_set dues i d

  pub leaf_other : (k : ℕ) → k ≢ n + i → at_place n new best k ≡ at_place n dues best k
  leaf_other k h = elim (inner_or_leaf n k) [
    | inl inside ↦ at_inner n new best k inside ∙ sym (at_inner n dues best k inside)
    | inr leaves ↦
        let other : k - n ≢ i = (λ (e : k - n ≡ i). h (omega arith)) in
        at_leaf n new best k leaves ∙ ap (λ (o : Option (Option ℕ)). record { due = unwrap_or o None; part = k - n }) (get_other dues i (k - n) d other) ∙ sym (at_leaf n dues best k leaves)
  ]

  pub leaf_set : ((k : ℕ) → 1 ≤ k → k < n → k ≢ (n + i) / 2 → IsBest n dues best k) → (k : ℕ) → 1 ≤ k → k < n → k ≢ (n + i) / 2 → IsBest n new best k
  leaf_set all k a b above =
      let not_here : k ≢ n + i = omega arith in
      let not_left : 2 * k ≢ n + i = (λ (h : 2 * k ≡ n + i). above (omega arith)) in
      let not_right : 2 * k + 1 ≢ n + i = (λ (h : 2 * k + 1 ≡ n + i). above (omega arith)) in
      let here = leaf_other k not_here in
      let left = leaf_other (2 * k) not_left in
      let right = leaf_other (2 * k + 1) not_right in
      let old = all k a b above in
      record {
        one = λ u h. elim (old.one u (ap (λ (x : Entry). x.due) (sym here) ∙ h)) [
          | inl x ↦ inl (here ∙ x ∙ sym left)
          | inr x ↦ inr (here ∙ x ∙ sym right)
        ];
        first = subst (λ (x : Entry). IsNotAfter x (at_place n new best (2 * k))) (sym here) (subst (λ (x : Entry). IsNotAfter (at_place n dues best k) x) (sym left) old.first);
        second = subst (λ (x : Entry). IsNotAfter x (at_place n new best (2 * k + 1))) (sym here) (subst (λ (x : Entry). IsNotAfter (at_place n dues best k) x) (sym right) old.second);
      }

pub set_best : (dues : List (Option ℕ)) (best : List Entry) (i : ℕ) (d : Option ℕ) → ((k : ℕ) → 1 ≤ k → k < length dues → k ≢ (length dues + i) / 2 → IsBest (length dues) dues best k) →
    (k : ℕ) → 1 ≤ k → k < length (slice_set dues i d) → k ≢ (length (slice_set dues i d) + i) / 2 → IsBest (length (slice_set dues i d)) (slice_set dues i d) best k
set_best dues best i d all =
    subst (λ (n : ℕ). (k : ℕ) → 1 ≤ k → k < n → k ≢ (n + i) / 2 → IsBest n (slice_set dues i d) best k) (sym (length-set dues i d)) (leaf_set (length dues) dues best i d all)

-- what stands at the top without part i
module _ (dues : List (Option ℕ)) (best : List Entry) (i : ℕ) where
  abbrev without : List (Option ℕ)
  without = slice_set dues i None

  abbrev n : ℕ
  n = length dues

  pub start_without : i < n → length best ≡ 64 → ((k : ℕ) → 1 ≤ k → k < n → IsBest n dues best k) → IsWithout dues best i (n + i) (record { due = None; part = i })
  start_without low long all = record {
    tree = best;
    long = long;
    best = leaf_set n dues best i None (λ k a b h. all k a b);
    here = at_leaf n without best (n + i) (omega arith) ∙ ap (leaf without) (let e : n + i - n ≡ i = omega arith in e) ∙ ap (λ (o : Option (Option ℕ)). record { due = unwrap_or o None; part = i }) (get_same dues i None low);
    beside = λ k a b. leaf_other n dues best i None k b;
  }

  -- one place up, where the earlier of what was found and of what stands beside it is
  pub up_without : (place other : ℕ) (found e : Entry) → n ≤ 64 → 1 < place → place < 2 * n →
      (place ≡ 2 * (place / 2)) × (other ≡ 2 * (place / 2) + 1) ⊎ (place ≡ 2 * (place / 2) + 1) × (other ≡ 2 * (place / 2)) →
      (e ≡ found) ⊎ (e ≡ at_place n dues best other) → IsNotAfter e found → IsNotAfter e (at_place n dues best other) →
      IsWithout dues best i place found → IsWithout dues best i (place / 2) e
  up_without place other found e few more low which one first second w =
      let p = place / 2 in
      let some : 1 ≤ p = omega (arith, more) in
      let inner : p < n = omega (arith, low) in
      let apart : other ≢ place = (λ (h : other ≡ place). elim which [
        | inl x ↦ let a = x.0 in let b = x.1 in omega (arith, a, b, h)
        | inr x ↦ let a = x.0 in let b = x.1 in omega (arith, a, b, h)
      ]) in
      let near : other < 2 * place = elim which [
        | inl x ↦ let a = x.0 in let b = x.1 in omega (arith, a, b, more)
        | inr x ↦ let a = x.0 in let b = x.1 in omega (arith, a, b, more)
      ] in
      let there : at_place n without w.tree other ≡ at_place n dues best other = w.beside other near apart in
      let second_tree : IsNotAfter e (at_place n without w.tree other) = subst (λ (x : Entry). IsNotAfter e x) (sym there) second in
      let first_tree : IsNotAfter e (at_place n without w.tree place) = subst (λ (x : Entry). IsNotAfter e x) (sym w.here) first in
      let step = played n few without w.tree w.long p some inner e place refl in
      let all : (k : ℕ) → 1 ≤ k → k < n → k ≢ p / 2 → IsBest n without (slice_set w.tree p e) k = elim which [
        | inl x ↦ step
            (elim one [
              | inl h ↦ inl (h ∙ sym w.here ∙ ap (at_place n without w.tree) x.0)
              | inr h ↦ inr (h ∙ sym there ∙ ap (at_place n without w.tree) x.1)
            ])
            (subst (λ (k : ℕ). IsNotAfter e (at_place n without w.tree k)) x.0 first_tree)
            (subst (λ (k : ℕ). IsNotAfter e (at_place n without w.tree k)) x.1 second_tree) w.best
        | inr x ↦ step
            (elim one [
              | inl h ↦ inr (h ∙ sym w.here ∙ ap (at_place n without w.tree) x.0)
              | inr h ↦ inl (h ∙ sym there ∙ ap (at_place n without w.tree) x.1)
            ])
            (subst (λ (k : ℕ). IsNotAfter e (at_place n without w.tree k)) x.1 second_tree)
            (subst (λ (k : ℕ). IsNotAfter e (at_place n without w.tree k)) x.0 first_tree) w.best
      ] in
      record {
        tree = slice_set w.tree p e;
        long = length-set w.tree p e ∙ w.long;
        best = all;
        here = set_here n few without w.tree w.long p some inner e;
        beside = λ k a b. set_other n few without w.tree w.long p some inner e k b ∙ w.beside k (omega (arith, a)) (λ (h : k ≡ place). omega (arith, a, h, more));
      }

  pub without_first : length dues ≤ 64 → i < length dues → (found : Entry) → IsWithout dues best i 1 found → IsFirst (slice_set dues i None) (with_cycle found)
  without_first few low found w =
      subst (λ (e : Entry). IsFirst (slice_set dues i None) (with_cycle e)) w.here
      (first_is (length dues) (slice_set dues i None) w.tree (λ k a b. w.best k a b (omega (arith, a))) (length-set dues i None) (omega (arith, low)))

-- where no part is due
module _ (n : ℕ) where
  abbrev none : Option ℕ
  none = None

  get_none : (n i : ℕ) → unwrap_or (slice_get (replicate n none) i) none ≡ none
  get_none zero i = refl
  get_none (suc n) zero = refl
  get_none (suc n) (suc i) = get_none n i

  get_entry : (m k : ℕ) (d : Entry) → d.due ≡ None → (unwrap_or (slice_get (replicate m no_entry) k) d).due ≡ None
  get_entry zero k d h = h
  get_entry (suc m) zero d h = refl
  get_entry (suc m) (suc k) d h = get_entry m k d h

  none_at : (k : ℕ) → (at_place n (replicate n none) (replicate 64 no_entry) k).due ≡ None
  none_at k = elim (inner_or_leaf n k) [
    | inl inside ↦ ap (λ (x : Entry). x.due) (at_inner n (replicate n none) (replicate 64 no_entry) k inside) ∙ get_entry 64 k no_entry refl
    | inr leaves ↦ ap (λ (x : Entry). x.due) (at_leaf n (replicate n none) (replicate 64 no_entry) k leaves) ∙ get_none n (k - n)
  ]

  pub best_none : (k : ℕ) → IsBest n (replicate n none) (replicate 64 no_entry) k
  best_none k = record {
    one = λ u h. absurd (let e : Some u ≡ None = sym h ∙ none_at k in cc);
    first = λ v h. absurd (let e : Some v ≡ None = sym h ∙ none_at (2 * k) in cc);
    second = λ v h. absurd (let e : Some v ≡ None = sym h ∙ none_at (2 * k + 1) in cc);
  }

-- where no part is due but one
pub none_or_some : (d : Option ℕ) → (d ≡ None) ⊎ ((u : ℕ) × (d ≡ Some u))
none_or_some None = inl refl
none_or_some (Some u) = inr (u, refl)

same_part : (k j : ℕ) → (k ≡ j) ⊎ (k ≢ j)
same_part k j = grind arith

there_is : (xs : List (Option ℕ)) (i : ℕ) → i < length xs → (x : Option ℕ) × (slice_get xs i ≡ Some x)
there_is [] i h = absurd (omega arith)
there_is (y ∷ xs) zero h = (y, refl)
there_is (y ∷ xs) (suc i) h = there_is xs i (omega arith)

set_twice : (xs : List (Option ℕ)) (i : ℕ) (x y : Option ℕ) → slice_set (slice_set xs i x) i y ≡ slice_set xs i y
set_twice [] i x y = refl
set_twice (z ∷ xs) zero x y = refl
set_twice (z ∷ xs) (suc i) x y = ap (λ (l : List (Option ℕ)). z ∷ l) (set_twice xs i x y)

module _ (dues : List (Option ℕ)) (j : ℕ) (low : j < length dues) (none : IsFirst (slice_set dues j None) None) where
  other_none : (k : ℕ) (d : Option ℕ) → k ≢ j → slice_get dues k ≡ Some d → d ≡ None
  other_none k d h e = none k d (get_other dues j k None h ∙ e)

  pub first_of_one : IsFirst dues (with_cycle (leaf dues j))
  first_of_one = let at = there_is dues j low in
      subst (λ (o : Option (Option ℕ)). IsFirst dues (with_cycle (record { due = unwrap_or o None; part = j }))) (sym at.1) (go at.0 at.1)
    where
      go : (d : Option ℕ) → slice_get dues j ≡ Some d → IsFirst dues (with_cycle (record { due = d; part = j }))
      go None e = λ k d h. elim (same_part k j) [
        | inl here ↦ some_same d None (sym h ∙ ap (slice_get dues) here ∙ e)
        | inr other ↦ other_none k d other h
      ]
      go (Some u) e = (
        e,
        λ k v h. elim (same_part k j) [
          | inl here ↦
              let same : v ≡ u = some_same v u (some_same (Some v) (Some u) (sym h ∙ ap (slice_get dues) here ∙ e)) in
              ((omega (arith, same)), λ (less : k < j). absurd (omega (arith, here, less)))
          | inr other ↦ absurd (let x = other_none k (Some v) other h in cc)
        ],
      )

  -- so without another part the first is the same
  pub same_without : (i : ℕ) → i < length dues → i ≢ j → slice_set dues i None ≡ dues
  same_without i within other =
      let at = there_is dues i within in
      set_same dues i None (at.1 ∙ ap Some (other_none i at.0 other at.1))

  -- and it stays alone whatever its due cycle is
  pub still_alone : (d : Option ℕ) → IsFirst (slice_set (slice_set dues j d) j None) None
  still_alone d = subst (λ (l : List (Option ℕ)). IsFirst l None) (sym (set_twice dues j d None)) none

-- the part at the top is one
module _ (dues : List (Option ℕ)) (best : List Entry) (all : (k : ℕ) → 1 ≤ k → k < length dues → IsBest (length dues) dues best k) (some : 1 ≤ length dues) where
  pub top_within : (e : Entry) → e ≡ at_place (length dues) dues best 1 → (u : ℕ) → e.due ≡ Some u → e.part < length dues
  top_within e top u is =
      subst (λ (x : Entry). x.part < length dues) (sym top)
      (slice_get_within dues _ (Some u) (first_some (length dues) dues best all refl some u (ap (λ (x : Entry). x.due) (sym top) ∙ is)).0)
