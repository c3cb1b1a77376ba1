-- Lists whose items are taken from places of another, or put there.
use Rattle.net_resolve.proofs.Common.{◌≡◌, ◌≢◌, ℕ, ◌+◌, ◌<◌, ◌≤◌, List, [], ◌∷◌, length, map, refl, ap, sym, ◌∙◌, subst, arith, inl, inr, Option, Some}
use Rattle.net_resolve.proofs.Common.{eqb_tells, length-map, slice_get_within, slice_get, slice_set, AreOnce, Filled, some_same, get_map_some, get_set_same}
use Rattle.net_resolve.proofs.Common.{get_set_other, lt_or_eq, same_lists}

-- the item is that of the place
abbrev pub IsFrom : {A : Type 0} → List A → ℕ → ℕ → A → Type 0
IsFrom from j k x = slice_get from k ≡ Some x

-- all items were taken
pub gathered : {A : Type 0} (from into : List A) (places : List ℕ) (n : ℕ) → length places ≤ n → length into ≡ length places → Filled (IsFrom from) n places into → map Some into ≡ map (slice_get from) places
gathered {A = A} from into places n end long filled = same_lists (map (λ (x : A). Some x) into) (map (slice_get from) places) (simp length-map long) (λ k x y ex ey.
    let a = get_map_some (λ (z : A). Some z) into k x ex in
    let b = get_map_some (slice_get from) places k y ey in
    let l : k < n = omega (arith, slice_get_within places k b.0 b.1) in
    sym a.2 ∙ sym (filled k b.0 a.0 l b.1 a.1) ∙ b.2)

-- The items before j were put in their places, and nothing else was written.
pub record Put {A : Type 0} (from : List A) (places : List ℕ) (j : ℕ) (old new : List A) : Type 0 where
  pub there : (i k : ℕ) → i < j → slice_get places i ≡ Some k → slice_get new k ≡ slice_get from i
  pub others : (k : ℕ) → ((i : ℕ) → i < j → slice_get places i ≡ Some k → ⊥) → slice_get new k ≡ slice_get old k

pub put_more : {A : Type 0} (from : List A) (places : List ℕ) (j : ℕ) (old new : List A) (m : ℕ) (x : A) →
    AreOnce places → Put from places j old new →
    slice_get places j ≡ Some m → m < length new → slice_get from j ≡ Some x → Put from places (j + 1) old (slice_set new m x)
put_more from places j old new m x once put at within is = record {
  there = λ i k l e. elim (lt_or_eq i j l) [
    | inl less ↦
        let other : k ≢ m = λ (same : k ≡ m). (let e2 : i ≡ j = once i j m (e ∙ ap Some same) at in omega (arith, e2, less)) in
        get_set_other new m k x other ∙ put.there i k less e
    | inr same ↦
        let e2 : k ≡ m = some_same (sym e ∙ ap (slice_get places) same ∙ at) in
        ap (slice_get (slice_set new m x)) e2 ∙ get_set_same new m x within ∙ sym is ∙ ap (slice_get from) (sym same)
  ];
  others = λ k h.
      let other : k ≢ m = λ (same : k ≡ m). h j (omega arith) (at ∙ ap Some (sym same)) in
      get_set_other new m k x other ∙ put.others k (λ i (l : i < j) e. h i (omega (arith, l)) e);
}

-- The places before j were renewed from a list, and nothing else was written.
pub record Renewed {A : Type 0} (all : List A) (places : List ℕ) (j : ℕ) (old new : List A) : Type 0 where
  pub there : (i k : ℕ) → i < j → slice_get places i ≡ Some k → slice_get new k ≡ slice_get all k
  pub others : (k : ℕ) → ((i : ℕ) → i < j → slice_get places i ≡ Some k → ⊥) → slice_get new k ≡ slice_get old k

pub renewed_more : {A : Type 0} (all : List A) (places : List ℕ) (j : ℕ) (old new : List A) (m : ℕ) (x : A) →
    Renewed all places j old new → slice_get places j ≡ Some m → m < length new → slice_get all m ≡ Some x → Renewed all places (j + 1) old (slice_set new m x)
renewed_more all places j old new m x renewed at within is = record {
  there = λ i k l e. elim (eqb_tells k m) [
    | inl t ↦ ap (slice_get (slice_set new m x)) t.1 ∙ get_set_same new m x within ∙ sym is ∙ ap (slice_get all) (sym t.1)
    | inr f ↦ get_set_other new m k x f.1 ∙ elim (lt_or_eq i j l) [
      | inl less ↦ renewed.there i k less e
      | inr same ↦ absurd (f.1 (some_same (sym e ∙ ap (slice_get places) same ∙ at)))
    ]
  ];
  others = λ k h.
      let other : k ≢ m = λ (same : k ≡ m). h j (omega arith) (at ∙ ap Some (sym same)) in
      get_set_other new m k x other ∙ renewed.others k (λ i (l : i < j) e. h i (omega (arith, l)) e);
}

-- items are known by being there
pub same_somes : {A : Type 0} (xs ys : List A) → ◌≡◌ {A = List (Option A)} (map Some xs) (map Some ys) → xs ≡ ys
same_somes [] [] e = refl
same_somes (x ∷ xs) (y ∷ ys) e =
    let a : x ≡ y = cc in
    let b : xs ≡ ys = same_somes xs ys cc in
    cc
same_somes xs ys e = absurd cc

-- one more item is that of its place
pub from_more : {A : Type 0} (from into : List A) (places : List ℕ) (j m : ℕ) (x : A) → Filled (IsFrom from) j places into →
    slice_get places j ≡ Some m → slice_get into j ≡ Some x → slice_get from m ≡ Some x → Filled (IsFrom from) (j + 1) places into
from_more {A = A} from into places j m x filled at is there k p b l ek eb = elim (lt_or_eq k j l) [
  | inl less ↦ filled k p b less ek eb
  | inr same ↦
      let em : m ≡ p = some_same (sym at ∙ subst (λ (i : ℕ). slice_get places i ≡ Some p) same ek) in
      let ex : x ≡ b = some_same (sym is ∙ subst (λ (i : ℕ). slice_get into i ≡ Some b) same eb) in
      subst (λ (q : ℕ). slice_get from q ≡ Some b) em (there ∙ ap Some ex)
]
