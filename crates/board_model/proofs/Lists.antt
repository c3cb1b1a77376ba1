-- Lists that are filled or changed from the front.
use Rattle.std.proofs.Common.{◌≡◌, ℕ, zero, suc, ◌+◌, ◌<◌, ◌≤◌, List, [], ◌∷◌, ◌++◌, ◌∙◌, length, map, take, drop, Some, refl, ap, sym, arith, add-one, length-append, get_or, ◌≢◌, ◌⊎◌, inl, inr, subst, length-set}
use Rattle.std.specs.Prelude.{slice_get, slice_set}
use Rattle.std.specs.List.{flat_map}
use Rattle.std.proofs.lemmas.Option.{slice_get-get_or, slice_get_within}
use Rattle.board_model.specs.Walks.{below}

take_set_suc : {A : Type 0} (xs ys : List A) (i : ℕ) (y : A) → i < length xs → slice_get ys i ≡ Some y → take i xs ≡ take i ys → take (suc i) (slice_set xs i y) ≡ take (suc i) ys
take_set_suc [] ys i y h e same = absurd (omega arith)
take_set_suc (x ∷ xs) [] i y h e same = cc
take_set_suc (x ∷ xs) (z ∷ ys) zero y h e same = cc
take_set_suc (x ∷ xs) (z ∷ ys) (suc i) y h e same =
    let heads : x ≡ z = cc in
    let tails : take i xs ≡ take i ys = cc in
    let rest : take (suc i) (slice_set xs i y) ≡ take (suc i) ys = take_set_suc xs ys i y (omega arith) e tails in
    cc

-- one more item is as it is to be
pub take_set_more : {A : Type 0} (xs ys : List A) (i : ℕ) (y : A) → i < length xs → slice_get ys i ≡ Some y → take i xs ≡ take i ys → take (i + 1) (slice_set xs i y) ≡ take (i + 1) ys
take_set_more xs ys i y h e same = rw add-one (take_set_suc xs ys i y h e same)

-- an item and those before it take no more room than all
pub flat_map_room : {A B : Type 0} (f : A → List B) (xs : List A) (i : ℕ) (x : A) → slice_get xs i ≡ Some x → length (flat_map f (take i xs)) + length (f x) ≤ length (flat_map f xs)
flat_map_room f [] i x e = cc
flat_map_room f (z ∷ xs) zero x e =
    let same : f z ≡ f x = cc in
    omega (arith, length-append (f z) (flat_map f xs), ap length same)
flat_map_room f (z ∷ xs) (suc i) x e =
    omega (arith, flat_map_room f xs i x e, length-append (f z) (flat_map f xs), length-append (f z) (flat_map f (take i xs)))

-- the item at a place that there is
pub get_within : {A : Type 0} (xs : List A) (i : ℕ) (d : A) → i < length xs → slice_get xs i ≡ Some (get_or xs i d)
get_within [] i d h = absurd (omega arith)
get_within (x ∷ xs) zero d h = refl
get_within (x ∷ xs) (suc i) d h = get_within xs i d (omega arith)

pub take_whole : {B : Type 0} (n : ℕ) (xs : List B) → length xs ≤ n → take n xs ≡ xs
take_whole zero [] h = refl
take_whole (suc n) [] h = refl
take_whole zero (x ∷ xs) h = absurd (omega arith)
take_whole {B = B} (suc n) (x ∷ xs) h = ap (λ (l : List B). x ∷ l) (take_whole n xs (omega arith))

-- a list that is taken whole
pub all_taken : {A : Type 0} (n : ℕ) (xs ys : List A) → length xs ≤ n → take n xs ≡ ys → xs ≡ ys
all_taken n xs ys h e = sym (take_whole n xs h) ∙ e

pub get_set_same : {A : Type 0} (xs : List A) (i : ℕ) (y : A) → i < length xs → slice_get (slice_set xs i y) i ≡ Some y
get_set_same [] i y h = absurd (omega arith)
get_set_same (x ∷ xs) zero y h = refl
get_set_same (x ∷ xs) (suc i) y h = get_set_same xs i y (omega arith)

pub get_set_other : {A : Type 0} (xs : List A) (i k : ℕ) (y : A) → k ≢ i → slice_get (slice_set xs i y) k ≡ slice_get xs k
get_set_other [] i k y h = refl
get_set_other (x ∷ xs) zero zero y h = absurd (h refl)
get_set_other (x ∷ xs) zero (suc k) y h = refl
get_set_other (x ∷ xs) (suc i) zero y h = refl
get_set_other (x ∷ xs) (suc i) (suc k) y h = get_set_other xs i k y (λ e. h (ap suc e))

pub some_same : {B : Type 0} {x y : B} → Some x ≡ Some y → x ≡ y
some_same e = cc

-- below one more
pub lt_or_eq : (k i : ℕ) → k < i + 1 → (k < i) ⊎ (k ≡ i)
lt_or_eq k i h = grind arith

-- each item before i became one that is related to it, and the others are as they were
pub record Done {A : Type 0} (R : ℕ → A → A → Type 0) (i : ℕ) (old new : List A) : Type 0 where
  pub long : length new ≡ length old
  pub each : (k : ℕ) (p q : A) → k < i → slice_get old k ≡ Some p → slice_get new k ≡ Some q → R k p q
  pub rest : (k : ℕ) → i ≤ k → slice_get new k ≡ slice_get old k

pub done_none : {A : Type 0} (R : ℕ → A → A → Type 0) (xs : List A) → Done R 0 xs xs
done_none R xs = record { long = refl; each = λ k p q h. absurd (omega arith); rest = λ k h. refl }

pub done_more : {A : Type 0} (R : ℕ → A → A → Type 0) (i : ℕ) (old new : List A) (p q : A) →
    Done R i old new → i < length old → slice_get old i ≡ Some p → R i p q → Done R (i + 1) old (slice_set new i q)
done_more {A = A} R i old new p q d h at r = record {
  long = length-set new i q ∙ d.long;
  each = λ k a b l ea eb. elim (lt_or_eq k i l) [
    | inl less ↦
        let other : k ≢ i = omega arith in
        let e : slice_get new k ≡ Some b = sym (get_set_other new i k q other) ∙ eb in
        d.each k a b less ea e
    | inr same ↦
        let within : i < length new = omega (arith, d.long) in
        let e1 : slice_get old i ≡ Some a = subst (λ (j : ℕ). slice_get old j ≡ Some a) same ea in
        let e2 : slice_get (slice_set new i q) i ≡ Some b = subst (λ (j : ℕ). slice_get (slice_set new i q) j ≡ Some b) same eb in
        let ep : p ≡ a = some_same (sym at ∙ e1) in
        let eq : q ≡ b = some_same (sym (get_set_same new i q within) ∙ e2) in
        subst (λ (j : ℕ). R j a b) (sym same) (subst (λ (y : A). R i a y) eq (subst (λ (x : A). R i x q) ep r))
  ];
  rest = λ k l. let other : k ≢ i = omega arith in get_set_other new i k q other ∙ d.rest k (omega arith);
}

-- an item of a mapped list comes from one of the list
pub get_map_some : {A B : Type 0} (f : A → B) (xs : List A) (k : ℕ) (b : B) → slice_get (map f xs) k ≡ Some b → (a : A) × (slice_get xs k ≡ Some a) × (f a ≡ b)
get_map_some f [] k b e = cc
get_map_some f (x ∷ xs) zero b e = (x, refl, some_same e)
get_map_some f (x ∷ xs) (suc k) b e = get_map_some f xs k b e

-- the next item is as it was
pub done_next : {A : Type 0} (R : ℕ → A → A → Type 0) (i : ℕ) (old new : List A) (d : A) → Done R i old new → i < length old → slice_get old i ≡ Some (get_or new i d)
done_next R i old new d done h =
    let within : i < length new = omega (arith, done.long) in
    sym (done.rest i (omega arith)) ∙ slice_get-get_or new i d within

-- every item of the whole list is related to the one that it was
pub done_all : {A : Type 0} (R : ℕ → A → A → Type 0) (i : ℕ) (old new : List A) → Done R i old new → length old ≤ i →
    (k : ℕ) (p q : A) → slice_get old k ≡ Some p → slice_get new k ≡ Some q → R k p q
done_all R i old new done h k p q ep eq =
    let within : k < length old = slice_get_within old k p ep in
    done.each k p q (omega arith) ep eq

pub done_from : {A : Type 0} (R : ℕ → A → A → Type 0) (i : ℕ) (old new : List A) → Done R i old new → length old ≤ i →
    (k : ℕ) (q : A) → slice_get new k ≡ Some q → (p : A) × (slice_get old k ≡ Some p) × R k p q
done_from R i old new done h k q eq =
    let within : k < length new = slice_get_within new k q eq in
    let inside : k < length old = omega (arith, done.long) in
    let p = get_or old k q in
    let ep : slice_get old k ≡ Some p = slice_get-get_or old k q inside in
    (p, ep, done_all R i old new done h k p q ep eq)

pub flat_map-map : {A B C : Type 0} (f : B → List C) (g : A → B) (xs : List A) → flat_map f (map g xs) ≡ flat_map (λ x. f (g x)) xs
flat_map-map f g [] = refl
flat_map-map f g (x ∷ xs) = ap (λ l. f (g x) ++ l) (flat_map-map f g xs)

-- each item before i of the second list is related to that of the first
abbrev pub Filled : {A B : Type 0} → (ℕ → A → B → Type 0) → ℕ → List A → List B → Type 0
Filled {A = A} {B = B} R i old new = (k : ℕ) (p : A) (b : B) → k < i → slice_get old k ≡ Some p → slice_get new k ≡ Some b → R k p b

pub filled_more : {A B : Type 0} (R : ℕ → A → B → Type 0) (i : ℕ) (old : List A) (new : List B) (p : A) (b : B) →
    Filled R i old new → i < length new → slice_get old i ≡ Some p → R i p b → Filled R (i + 1) old (slice_set new i b)
filled_more {A = A} {B = B} R i old new p b f h at r k x y l ex ey = elim (lt_or_eq k i l) [
  | inl less ↦
      let other : k ≢ i = omega arith in
      let e : slice_get new k ≡ Some y = sym (get_set_other new i k b other) ∙ ey in
      f k x y less ex e
  | inr same ↦
      let e1 : slice_get old i ≡ Some x = subst (λ (j : ℕ). slice_get old j ≡ Some x) same ex in
      let e2 : slice_get (slice_set new i b) i ≡ Some y = subst (λ (j : ℕ). slice_get (slice_set new i b) j ≡ Some y) same ey in
      let ep : p ≡ x = some_same (sym at ∙ e1) in
      let eb : b ≡ y = some_same (sym (get_set_same new i b h) ∙ e2) in
      subst (λ (j : ℕ). R j x y) (sym same) (subst (λ (z : B). R i x z) eb (subst (λ (z : A). R i z b) ep r))
]

-- lists that have the same items
pub same_lists : {A : Type 0} (xs ys : List A) → length xs ≡ length ys → ((k : ℕ) (x y : A) → slice_get xs k ≡ Some x → slice_get ys k ≡ Some y → x ≡ y) → xs ≡ ys
same_lists [] [] h each = refl
same_lists [] (y ∷ ys) h each = absurd (omega arith)
same_lists (x ∷ xs) [] h each = absurd (omega arith)
same_lists {A = A} (x ∷ xs) (y ∷ ys) h each =
    let a : x ≡ y = each 0 x y refl refl in
    let b : xs ≡ ys = same_lists xs ys (omega arith) (λ k u v eu ev. each (suc k) u v eu ev) in
    cc

-- lists whose items give the same lists
pub flat_map_same : {A B : Type 0} (f : A → List B) (xs ys : List A) → length xs ≡ length ys → ((k : ℕ) (x y : A) → slice_get xs k ≡ Some x → slice_get ys k ≡ Some y → f x ≡ f y) → flat_map f xs ≡ flat_map f ys
flat_map_same f [] [] h each = refl
flat_map_same f [] (y ∷ ys) h each = absurd (omega arith)
flat_map_same f (x ∷ xs) [] h each = absurd (omega arith)
flat_map_same f (x ∷ xs) (y ∷ ys) h each =
    let a : f x ≡ f y = each 0 x y refl refl in
    let b : flat_map f xs ≡ flat_map f ys = flat_map_same f xs ys (omega arith) (λ k u v eu ev. each (suc k) u v eu ev) in
    cc

-- a list that was lent and keeps its length ends as what was written
pub lent_whole : {A : Type 0} (n : ℕ) (xs ws : List A) → n ≡ length xs → length ws ≡ length xs → take n (ws ++ drop (length ws) xs) ≡ ws
lent_whole n xs ws e h =
    let none : drop (length ws) xs ≡ [] = drop_all (length ws) xs (omega arith) in
    let k : length (ws ++ drop (length ws) xs) ≤ n = omega (arith, ap length none, length-append ws (drop (length ws) xs)) in
    take_whole n (ws ++ drop (length ws) xs) k ∙ ap (λ l. ws ++ l) none ∙ nothing_there ws
  where
    drop_all : {B : Type 0} (n : ℕ) (xs : List B) → length xs ≤ n → drop n xs ≡ []
    drop_all zero [] h = refl
    drop_all (suc n) [] h = refl
    drop_all zero (x ∷ xs) h = absurd (omega arith)
    drop_all (suc n) (x ∷ xs) h = drop_all n xs (omega arith)

    nothing_there : {B : Type 0} (xs : List B) → xs ++ [] ≡ xs
    nothing_there [] = refl
    nothing_there {B = B} (x ∷ xs) = ap (λ (l : List B). x ∷ l) (nothing_there xs)

-- an item of a mapped list
pub some_map : {A B : Type 0} (f : A → B) (xs : List A) (k : ℕ) (a : A) → slice_get xs k ≡ Some a → slice_get (map f xs) k ≡ Some (f a)
some_map f [] k a e = cc
some_map f (x ∷ xs) zero a e = ap (λ y. Some (f y)) (some_same e)
some_map f (x ∷ xs) (suc k) a e = some_map f xs k a e

pub length-below : (n : ℕ) → length (below n) ≡ n
length-below zero = refl
length-below (suc n) = omega (arith, length-append (below n) (n ∷ []), length-below n)

get_last : {A : Type 0} (xs : List A) (y : A) → slice_get (xs ++ y ∷ []) (length xs) ≡ Some y
get_last [] y = refl
get_last (x ∷ xs) y = get_last xs y

get_front : {A : Type 0} (xs ys : List A) (k : ℕ) → k < length xs → slice_get (xs ++ ys) k ≡ slice_get xs k
get_front [] ys k h = absurd (omega arith)
get_front (x ∷ xs) ys zero h = refl
get_front (x ∷ xs) ys (suc k) h = get_front xs ys k (omega arith)

pub get-below : (n k : ℕ) → k < n → slice_get (below n) k ≡ Some k
get-below zero k h = absurd (omega arith)
get-below (suc n) k h = elim (lt_or_eq k n (omega arith)) [
  | inl less ↦ let l : k < length (below n) = omega (arith, length-below n) in get_front (below n) (n ∷ []) k l ∙ get-below n k less
  | inr same ↦ subst (λ (j : ℕ). slice_get (below (suc n)) j ≡ Some j) (sym same) (subst (λ (j : ℕ). slice_get (below (suc n)) j ≡ Some n) (length-below n) (get_last (below n) n))
]
