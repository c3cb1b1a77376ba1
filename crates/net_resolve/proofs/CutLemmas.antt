-- Nets that are cut into subcircuits.
use Rattle.net_resolve.proofs.Common.{◌≡◌, ◌≢◌, ℕ, zero, suc, ◌+◌, ◌<◌, ◌≤◌, List, [], ◌∷◌, ◌++◌, length, map, take, drop, Bool, true, false, refl, ap, sym}
use Rattle.net_resolve.proofs.Common.{◌∙◌, arith, ◌⊎◌, inl, inr, subst, Some, get_or, add-one, append_assoc, append-nil, drop-cons, length-append, eqb_tells}
use Rattle.net_resolve.proofs.Common.{length-map, map_more, drop_all, map-map, slice_get_within, get_or_from_slice_get, ◌==◌, if◌then◌else◌, slice_get}
use Rattle.net_resolve.proofs.Common.{slice_index, slice_set, ArePairs, some_same, some_map, get_map_some, get_within, get_set_same, get_set_other, lent_whole}
use Rattle.net_resolve.proofs.Common.{take_whole, WholeView, SubcircuitView, IsCut, IsSubcircuit, AreSubcircuits, AreOwn, own_pair, picked, labels_of}
use Rattle.net_resolve.proofs.Common.{ArePicked}
use Rattle.net_resolve.proofs.PickLemmas.{picked_key}
use Rattle.net_resolve.proofs.ReachLemmas.{map_here}
use Rattle.net_resolve.proofs.SubcircuitLemmas.{net_there}

-- what is still to be added to the list of each key
abbrev pub AreAdding : List ℕ → ℕ → List (List ℕ) → Type 0
AreAdding keys k lists = (q : ℕ) (l : List ℕ) → slice_get lists q ≡ Some l → l ++ picked q k (drop k keys) ≡ picked q 0 keys

pub adding_more : (keys : List ℕ) (k : ℕ) (lists : List (List ℕ)) → k < length keys → get_or keys k 0 < length lists → AreAdding keys k lists →
    AreAdding keys (k + 1) (slice_set lists (get_or keys k 0) (get_or lists (get_or keys k 0) [] ++ k ∷ []))
adding_more keys k lists h within adding q l e =
    let key = get_or keys k 0 in
    let front : drop k keys ≡ key ∷ drop (k + 1) keys = rw add-one (drop-cons keys k 0 h) in
    elim (eqb_tells key q) [
      | inl t ↦
          let m = get_or lists key [] in
          let at : slice_get lists q ≡ Some m = ap (slice_get lists) (sym t.1) ∙ get_within lists key [] within in
          let is : l ≡ m ++ k ∷ [] = sym (some_same (sym (get_set_same lists key (m ++ k ∷ []) within) ∙ ap (slice_get (slice_set lists key (m ++ k ∷ []))) t.1 ∙ e)) in
          rw (is, append_assoc m (k ∷ []) (picked q (k + 1) (drop (k + 1) keys))) (rw (front, t.0) at (adding q m at))
      | inr f ↦
          let other : q ≢ key = λ (same : q ≡ key). f.1 (sym same) in
          let at : slice_get lists q ≡ Some l = sym (get_set_other lists key q (get_or lists key [] ++ k ∷ []) other) ∙ e in
          rw (front, f.0) at (adding q l at)
    ]

pub adding_done : (keys : List ℕ) (k : ℕ) (lists : List (List ℕ)) → length keys ≤ k → AreAdding keys k lists → (q : ℕ) (l : List ℕ) → slice_get lists q ≡ Some l → l ≡ picked q 0 keys
adding_done keys k lists h adding q l e = sym (append-nil l) ∙ ap (λ (x : List ℕ). l ++ picked q k x) (sym (drop_all k keys h)) ∙ adding q l e

-- lists that were lent are those that were added to
pub picked_lent : (count : ℕ) (keys : List ℕ) (lists new : List (List ℕ)) → length new ≡ length lists → length lists ≡ count →
    ((q : ℕ) (l : List ℕ) → slice_get new q ≡ Some l → l ≡ picked q 0 keys) → ArePicked count keys (take (length lists) (new ++ drop (length new) lists))
picked_lent count keys lists new kept long each =
    subst (λ (ls : List (List ℕ)). ArePicked count keys ls) (sym (lent_whole (length lists) lists new refl kept)) (record { long = kept ∙ long; each = each })

-- a list to which a place was added, where what stands past the end of the lists is another
pub place_added : (lists : List (List ℕ)) (key place : ℕ) (past new : List ℕ) → key < length lists → new ≡ get_or lists key past ++ place ∷ [] →
    slice_set lists key new ≡ slice_set lists key (get_or lists key [] ++ place ∷ [])
place_added lists key place past new within e =
    let same : get_or lists key past ≡ get_or lists key [] = some_same (sym (get_within lists key past within) ∙ get_within lists key [] within) in
    ap (λ (l : List ℕ). slice_set lists key l) (e ∙ ap (λ (l : List ℕ). l ++ place ∷ []) same)

-- lists that have nothing
abbrev pub AreEmpty : List (List ℕ) → Type 0
AreEmpty lists = (q : ℕ) (l : List ℕ) → slice_get lists q ≡ Some l → l ≡ []

-- what is mapped stays below a bound
pub mapped_below : {A : Type 0} (f : A → ℕ) (xs : List A) (ys : List ℕ) (count : ℕ) → ys ≡ map f xs → ((j : ℕ) (x : A) → slice_get xs j ≡ Some x → f x < count) → (k y : ℕ) → slice_get ys k ≡ Some y → y < count
mapped_below f xs ys count are each k y e =
    let x = get_map_some f xs k y (ap (λ (l : List ℕ). slice_get l k) (sym are) ∙ e) in
    omega (arith, each k x.0 x.1, x.2)

-- labels are below their count
pub labels_below : {count : ℕ} (labels : List ℕ) → length labels ≡ count → ((n : ℕ) → slice_index labels n ≤ n) → (keys : List ℕ) → keys ≡ labels → (k key : ℕ) → slice_get keys k ≡ Some key → key < count
labels_below labels long below keys same k key e =
    let there : slice_get labels k ≡ Some key = ap (λ (l : List ℕ). slice_get l k) (sym same) ∙ e in
    omega (arith, long, below k, get_or_from_slice_get labels k key 0 there, slice_get_within labels k key there)

-- the labels of nets are numbers of nets
pub net_labels_below : (w : WholeView) (labels : List ℕ) → IsCut w labels → (keys : List ℕ) → keys ≡ map (slice_index labels) w.net_of →
    (k key : ℕ) → slice_get keys k ≡ Some key → key < w.nets
net_labels_below w labels cut keys ek = mapped_below (slice_index labels) w.net_of keys w.nets ek (λ j n at. omega (arith, cut.below n, cut.pins_within j n at))

pub pair_labels_below : (labels : List ℕ) → ((n : ℕ) → slice_index labels n ≤ n) → (pairs : List (ℕ × ℕ)) (count : ℕ) →
    ArePairs count pairs → (keys : List ℕ) → keys ≡ labels_of labels pairs →
    (k key : ℕ) → slice_get keys k ≡ Some key → key < count
pair_labels_below labels below pairs count within keys ek =
    mapped_below (λ (x : ℕ × ℕ). slice_index labels x.0) pairs keys count ek (λ j c at. omega (arith, below c.0, (within j c at).0))

pub pairs_below : {A : Type 0} (f : A → ℕ × ℕ) (xs : List A) (ys : List (ℕ × ℕ)) (count : ℕ) → ys ≡ map f xs → ((j : ℕ) (x : A) → slice_get xs j ≡ Some x → ((f x).0 < count) × ((f x).1 < count)) →
    ArePairs count ys
pairs_below f xs ys count are each k y e =
    let x = get_map_some f xs k y (ap (λ (l : List (ℕ × ℕ)). slice_get l k) (sym are) ∙ e) in
    let at = each k x.0 x.1 in
    (omega (arith, at.0, ap (λ (z : ℕ × ℕ). z.0) x.2), omega (arith, at.1, ap (λ (z : ℕ × ℕ). z.1) x.2))

-- all items of a list that was mapped from the front
pub map_all : {A B : Type 0} (f : A → B) (xs : List A) (i : ℕ) (ys : List B) → length xs ≤ i → ys ≡ map f (take i xs) → ys ≡ map f xs
map_all {A = A} f xs i ys h e = e ∙ ap (λ (l : List A). map f l) (take_whole i xs h)

-- one more item was put behind those that were mapped
pub map_next : {A B : Type 0} (f : A → B) (xs : List A) (i : ℕ) (d : A) (ys zs : List B) → i < length xs → ys ≡ map f (take i xs) → zs ≡ ys ++ f (get_or xs i d) ∷ [] → zs ≡ map f (take (i + 1) xs)
map_next {B = B} f xs i d ys zs h e put = put ∙ ap (λ (l : List B). l ++ f (get_or xs i d) ∷ []) e ∙ sym (map_more f xs i d h)

-- there are no more places of a key than places
pub picked_length : (key k : ℕ) (xs : List ℕ) → length (picked key k xs) ≤ length xs
picked_length key k [] = omega arith
picked_length key k (x ∷ xs) = one (x == key) (picked_length key (k + 1) xs)
  where
    one : (b : Bool) → length (picked key (k + 1) xs) ≤ length xs → length (if b then k ∷ picked key (k + 1) xs else picked key (k + 1) xs) ≤ suc (length xs)
    one true h = omega (arith, h)
    one false h = omega (arith, h)

-- a place of a key is one of the list
pub picked_within : (key : ℕ) (xs : List ℕ) (j m : ℕ) → slice_get (picked key 0 xs) j ≡ Some m → slice_get xs m ≡ Some key
picked_within key xs j m e =
    let s = picked_key key 0 xs j m e in
    let same : s.0 ≡ m = omega (arith, s.1) in
    subst (λ (z : ℕ). slice_get xs z ≡ Some key) same s.2

-- the places of a key are places of the list
pub places_within : {A : Type 0} (f : A → ℕ) (xs : List A) (q : ℕ) (places : List ℕ) → places ≡ picked q 0 (map f xs) →
    (j k : ℕ) → slice_get places j ≡ Some k → k < length xs
places_within f xs q places are j k e =
    let x = get_map_some f xs k q (picked_within q (map f xs) j k (subst (λ (l : List ℕ). slice_get l j ≡ Some k) are e)) in
    slice_get_within xs k x.0 x.1

module _ (w : WholeView) (labels : List ℕ) (cut : IsCut w labels) (q : ℕ) (nets : List ℕ) (nets_are : nets ≡ picked q 0 labels)
    (numbers : List ℕ) (long : length numbers ≡ w.nets) (numbered : (i n : ℕ) → slice_get nets i ≡ Some n → slice_get numbers n ≡ Some i) where
  -- the net of the number of a net
  number_of : (n : ℕ) → n < w.nets → slice_index labels n ≡ q → slice_get nets (slice_index numbers n) ≡ Some n
  number_of n l e =
      let t = net_there labels q nets nets_are n (omega (arith, cut.long)) e in
      let inside : n < length numbers = omega (arith, long) in
      rw (some_same (sym (numbered t.0 n t.1) ∙ get_within numbers n 0 inside)) at t.1

  pub own_nets_are : (pins : List ℕ) → pins ≡ picked q 0 (map (slice_index labels) w.net_of) →
      map (slice_get nets) (map (λ k. slice_index numbers (slice_index w.net_of k)) pins) ≡ map (slice_get w.net_of) pins
  own_nets_are pins are =
      map-map (slice_get nets) (λ (k : ℕ). slice_index numbers (slice_index w.net_of k)) pins
      ∙ map_here (λ (k : ℕ). slice_get nets (slice_index numbers (slice_index w.net_of k))) (slice_get w.net_of) pins (λ j k e.
      let key = picked_within q (map (slice_index labels) w.net_of) j k (subst (λ (l : List ℕ). slice_get l j ≡ Some k) are e) in
      let n = get_map_some (slice_index labels) w.net_of k q key in
      let is : slice_index w.net_of k ≡ n.0 = get_or_from_slice_get w.net_of k n.0 0 n.1 in
      ap (λ (z : ℕ). slice_get nets (slice_index numbers z)) is ∙ number_of n.0 (cut.pins_within k n.0 n.1) n.2 ∙ sym n.1)

  pub own_net_below : (pins : List ℕ) → pins ≡ picked q 0 (map (slice_index labels) w.net_of) → (j k : ℕ) → slice_get pins j ≡ Some k → slice_index numbers (slice_index w.net_of k) < length nets
  own_net_below pins are j k e =
      let key = picked_within q (map (slice_index labels) w.net_of) j k (subst (λ (l : List ℕ). slice_get l j ≡ Some k) are e) in
      let n = get_map_some (slice_index labels) w.net_of k q key in
      let is : slice_index w.net_of k ≡ n.0 = get_or_from_slice_get w.net_of k n.0 0 n.1 in
      subst (λ (z : ℕ). slice_index numbers z < length nets) (sym is) (slice_get_within nets (slice_index numbers n.0) n.0 (number_of n.0 (cut.pins_within k n.0 n.1) n.2))

  pub own_pairs_are : (whole : List (ℕ × ℕ)) → ArePairs w.nets whole →
      ((k : ℕ) (c : ℕ × ℕ) → slice_get whole k ≡ Some c → slice_index labels c.0 ≡ slice_index labels c.1) →
      (places : List ℕ) → places ≡ picked q 0 (labels_of labels whole) →
      AreOwn nets whole places (map (own_pair numbers whole) places)
  own_pairs_are whole within joined places are = record {
    long = simp length-map refl;
    each = λ j k c o ep ec eo.
        let key = picked_within q (labels_of labels whole) j k (subst (λ (l : List ℕ). slice_get l j ≡ Some k) are ep) in
        let s = get_map_some (λ (x : ℕ × ℕ). slice_index labels x.0) whole k q key in
        let same : s.0 ≡ c = some_same (sym s.1 ∙ ec) in
        let first : slice_index labels c.0 ≡ q = ap (λ (x : ℕ × ℕ). slice_index labels x.0) (sym same) ∙ s.2 in
        let second : slice_index labels c.1 ≡ q = sym (joined k c ec) ∙ first in
        let at = within k c ec in
        let is : get_or whole k (0, 0) ≡ c = get_or_from_slice_get whole k c (0, 0) ec in
        let mine : o ≡ own_pair numbers whole k = some_same (sym eo ∙ some_map (own_pair numbers whole) places j k ep) in
        let zero_is : o.0 ≡ slice_index numbers c.0 = ap (λ (x : ℕ × ℕ). x.0) mine ∙ ap (λ (x : ℕ × ℕ). slice_index numbers x.0) is in
        let one_is : o.1 ≡ slice_index numbers c.1 = ap (λ (x : ℕ × ℕ). x.1) mine ∙ ap (λ (x : ℕ × ℕ). slice_index numbers x.1) is in
        (ap (slice_get nets) zero_is ∙ number_of c.0 at.0 first, ap (slice_get nets) one_is ∙ number_of c.1 at.1 second);
  }

  pub own_pair_below : (whole : List (ℕ × ℕ)) → ArePairs w.nets whole →
      ((k : ℕ) (c : ℕ × ℕ) → slice_get whole k ≡ Some c → slice_index labels c.0 ≡ slice_index labels c.1) →
      (places : List ℕ) → places ≡ picked q 0 (labels_of labels whole) → (j k : ℕ) → slice_get places j ≡ Some k →
      ((own_pair numbers whole k).0 < length nets) × ((own_pair numbers whole k).1 < length nets)
  own_pair_below whole within joined places are j k e =
      let pair = own_pair numbers whole in
      let c = get_or whole k (0, 0) in
      let at : slice_get whole k ≡ Some c = get_within whole k (0, 0) (places_within (λ (x : ℕ × ℕ). slice_index labels x.0) whole q places are j k e) in
      let ends = (own_pairs_are whole within joined places are).each j k c (pair k) e at (some_map pair places j k e) in
      (slice_get_within nets (pair k).0 c.0 ends.0, slice_get_within nets (pair k).1 c.1 ends.1)

-- a list after one more item
pub snoc_cases : {A : Type 0} (xs : List A) (y z : A) (k : ℕ) → slice_get (xs ++ y ∷ []) k ≡ Some z → (slice_get xs k ≡ Some z) ⊎ ((k ≡ length xs) × (y ≡ z))
snoc_cases [] y z zero e = inr (refl, some_same e)
snoc_cases [] y z (suc k) e = absurd cc
snoc_cases (x ∷ xs) y z zero e = inl e
snoc_cases (x ∷ xs) y z (suc k) e = elim (snoc_cases xs y z k e) [
  | inl l ↦ inl l
  | inr r ↦ inr (ap suc r.0, r.1)
]

pub subcircuits_more : (w : WholeView) (labels : List ℕ) (subs : List SubcircuitView) (q : ℕ) (s : SubcircuitView) → length subs ≡ q → AreSubcircuits w labels subs → IsSubcircuit w labels q s → AreSubcircuits w labels (subs ++ s ∷ [])
subcircuits_more w labels subs q s long before is p t e = elim (snoc_cases subs s t p e) [
  | inl l ↦ before p t l
  | inr r ↦
      let here : q ≡ p = omega (arith, long, r.0) in
      subst (λ (z : ℕ). IsSubcircuit w labels z t) here (subst (λ (v : SubcircuitView). IsSubcircuit w labels q v) r.1 is)
]

-- one more subcircuit was put behind the others
pub subcircuits_next : (w : WholeView) (labels : List ℕ) (subs all : List SubcircuitView) (q : ℕ) (s : SubcircuitView) → all ≡ subs ++ s ∷ [] → length subs ≡ q → AreSubcircuits w labels subs → IsSubcircuit w labels q s →
    record { long : length all ≡ q + 1; subcircuits : AreSubcircuits w labels all }
subcircuits_next w labels subs all q s e long before is = record {
  long = omega (arith, ap length e, length-append subs (s ∷ []), long);
  subcircuits = subst (λ (l : List SubcircuitView). AreSubcircuits w labels l) (sym e) (subcircuits_more w labels subs q s long before is);
}
