-- Lists that are filled one by one.
use Rattle.std.proofs.Common.{◌≡◌, ℕ, zero, suc, ◌+◌, ◌-◌, ◌<◌, ◌≤◌, List, [], ◌∷◌, ◌++◌, length, get_or, set, map, take, drop, Option, Some, refl, sym, ap, subst, ◌∙◌, arith, inl, inr, ◌⊎◌, append_assoc, length-append, length-take, length-drop, take-suc}
use Rattle.std.specs.Prelude.{slice_get}
use Rattle.std.proofs.lemmas.List.{length-map, map-append}
use Rattle.wasm_num.specs.declared.value.Value.{Value}
use Rattle.wasm_num.specs.Mem.{put}
use Rattle.wasm_code.specs.declared.types.ValType.{ValType}
use Rattle.wasm_semantics.specs.Values.{HasTypes}

pub under : {X : Type 0} (xs : List X) (i : ℕ) → i < length xs → (x : X) × (slice_get xs i ≡ Some x)
under [] i lt = absurd (omega arith)
under (x ∷ xs) zero lt = (x, refl)
under (x ∷ xs) (suc i) lt = under xs i (omega arith)

pub get_snoc : {X : Type 0} (xs : List X) (b y : X) (j : ℕ) → slice_get (xs ++ b ∷ []) j ≡ Some y → (slice_get xs j ≡ Some y) ⊎ (j ≡ length xs) × (b ≡ y)
get_snoc [] b y zero e = let q : b ≡ y = cc in inr (refl, q)
get_snoc [] b y (suc j) e = absurd cc
get_snoc (x ∷ xs) b y zero e = inl e
get_snoc (x ∷ xs) b y (suc j) e = up (get_snoc xs b y j e)
  where
    up : (slice_get xs j ≡ Some y) ⊎ (j ≡ length xs) × (b ≡ y) → (slice_get (x ∷ xs) (suc j) ≡ Some y) ⊎ (suc j ≡ suc (length xs)) × (b ≡ y)
    up (inl q) = inl q
    up (inr q) = inr (ap suc q.0, q.1)

pub get_drop : {X : Type 0} (xs : List X) (n j : ℕ) (y : X) → slice_get (drop n xs) j ≡ Some y → slice_get xs (n + j) ≡ Some y
get_drop xs zero j y e = let z : j ≡ 0 + j = omega arith in subst (λ (k : ℕ). slice_get xs k ≡ Some y) z e
get_drop [] (suc n) j y e = absurd cc
get_drop (x ∷ xs) (suc n) j y e = let z : suc (n + j) ≡ suc n + j = omega arith in subst (λ (k : ℕ). slice_get (x ∷ xs) k ≡ Some y) z (get_drop xs n j y e)

pub get_item : {X : Type 0} (xs : List X) (i : ℕ) (x d : X) → i < length xs → x ≡ get_or xs i d → slice_get xs i ≡ Some x
get_item [] i x d lt e = absurd (omega arith)
get_item (y ∷ xs) zero x d lt e = ap (λ z. Some z) (sym e)
get_item (y ∷ xs) (suc i) x d lt e = get_item xs i x d (omega arith) e

-- one more of those that are looked up
pub looked_more : {X : Type 0} (all : List X) (found more : List X) (ns : List ℕ) (i : ℕ) (x : X) → i < length ns → map (λ y. Some y) found ≡ map (slice_get all) (take i ns) → slice_get all (get_or ns i 0) ≡ Some x → more ≡ found ++ x ∷ [] → map (λ y. Some y) more ≡ map (slice_get all) (take (i + 1) ns)
looked_more all found more ns i x lt so e me =
    let z : suc i ≡ i + 1 = omega arith in
    ap (map (λ y. Some y)) me ∙ map-append (λ y. Some y) found (x ∷ []) ∙ ap (λ os. os ++ Some x ∷ []) so ∙ ap (λ o. map (slice_get all) (take i ns) ++ o ∷ []) (sym e)
    ∙ sym (map-append (slice_get all) (take i ns) (get_or ns i 0 ∷ [])) ∙ ap (map (slice_get all)) (sym (take-suc ns i 0 lt)) ∙ ap (λ (k : ℕ). map (slice_get all) (take k ns)) z

set_at : {X : Type 0} (xs zs : List X) (n : ℕ) (v : X) → n ≡ length xs → 0 < length zs → set (xs ++ zs) n v ≡ xs ++ v ∷ drop 1 zs
set_at [] [] n v e lt = absurd (omega arith)
set_at [] (z ∷ zs) zero v e lt = refl
set_at [] (z ∷ zs) (suc n) v e lt = absurd (omega arith)
set_at (x ∷ xs) zs zero v e lt = absurd (omega arith)
set_at (x ∷ xs) zs (suc n) v e lt = ap (λ ys. x ∷ ys) (set_at xs zs n v (omega arith) lt)

drop_nothing : {X : Type 0} (n : ℕ) (xs : List X) → xs ≡ [] → drop n xs ≡ []
drop_nothing zero xs e = e
drop_nothing (suc n) [] e = refl
drop_nothing (suc n) (x ∷ xs) e = absurd cc

drop_more : {X : Type 0} (xs : List X) (m n : ℕ) → drop n (drop m xs) ≡ drop (m + n) xs
drop_more xs zero n = let z : n ≡ 0 + n = omega arith in ap (λ (k : ℕ). drop k xs) z
drop_more [] (suc m) n = let z : suc (m + n) ≡ suc m + n = omega arith in drop_nothing n [] refl ∙ ap (λ (k : ℕ). drop k []) z
drop_more (x ∷ xs) (suc m) n = let z : suc (m + n) ≡ suc m + n = omega arith in drop_more xs m n ∙ ap (λ (k : ℕ). drop k (x ∷ xs)) z

-- one more function is put into a table
pub put_more : (old table : List (Option ℕ)) (at i : ℕ) (fs : List ℕ) → i < length fs → at + length fs ≤ length old → table ≡ take at old ++ (map (λ f. Some f) (take i fs) ++ drop (at + length (take i fs)) old) → set table (at + i) (Some (get_or fs i 0)) ≡ take at old ++ (map (λ f. Some f) (take (i + 1) fs) ++ drop (at + length (take (i + 1) fs)) old)
put_more old table at i fs lt le e =
    let x = get_or fs i 0 in
    let a = take at old in
    let m = map (λ f. Some f) (take i fs) in
    let n : length (take i fs) ≡ i = omega (arith, length-take i fs, lt) in
    let n1 : length (take (i + 1) fs) ≡ i + 1 = omega (arith, length-take (i + 1) fs, lt) in
    let rest = drop (at + length (take i fs)) old in
    let la : length (a ++ m) ≡ at + i = omega (arith, length-append a m, length-take at old, length-map (take i fs) (λ (f : ℕ). Some f), n, le, lt) in
    let z : suc i ≡ i + 1 = omega arith in
    let more : map (λ f. Some f) (take (i + 1) fs) ≡ m ++ Some x ∷ [] = ap (λ (k : ℕ). map (λ f. Some f) (take k fs)) (sym z) ∙ ap (map (λ f. Some f)) (take-suc fs i 0 lt) ∙ map-append (λ f. Some f) (take i fs) (x ∷ []) in
    let behind : drop 1 rest ≡ drop (at + length (take (i + 1) fs)) old = (let k : at + length (take i fs) + 1 ≡ at + length (take (i + 1) fs) = omega (arith, n, n1) in drop_more old (at + length (take i fs)) 1 ∙ ap (λ (j : ℕ). drop j old) k) in
    ap (λ t. set t (at + i) (Some x)) (e ∙ sym (append_assoc a m rest))
    ∙ set_at (a ++ m) rest (at + i) (Some x) (sym la) (omega (arith, length-drop (at + length (take i fs)) old, n, le, lt))
    ∙ ap (λ t. (a ++ m) ++ Some x ∷ t) behind
    ∙ append_assoc a m (Some x ∷ drop (at + length (take (i + 1) fs)) old)
    ∙ ap (λ t. a ++ t) (sym (append_assoc m (Some x ∷ []) (drop (at + length (take (i + 1) fs)) old)))
    ∙ ap (λ t. a ++ (t ++ drop (at + length (take (i + 1) fs)) old)) (sym more)

pub get_split : {X : Type 0} (xs ys : List X) (i : ℕ) (y : X) → slice_get (xs ++ ys) i ≡ Some y → (slice_get xs i ≡ Some y) ⊎ (slice_get ys (i - length xs) ≡ Some y)
get_split [] ys i y e = let z : i ≡ i - 0 = omega arith in inr (subst (λ (k : ℕ). slice_get ys k ≡ Some y) z e)
get_split (x ∷ xs) ys zero y e = inl e
get_split (x ∷ xs) ys (suc i) y e = up (get_split xs ys i y e)
  where
    up : (slice_get xs i ≡ Some y) ⊎ (slice_get ys (i - length xs) ≡ Some y) → (slice_get (x ∷ xs) (suc i) ≡ Some y) ⊎ (slice_get ys (suc i - suc (length xs)) ≡ Some y)
    up (inl q) = inl q
    up (inr q) = let z : i - length xs ≡ suc i - suc (length xs) = omega arith in inr (subst (λ (k : ℕ). slice_get ys k ≡ Some y) z q)

get_take : {X : Type 0} (n : ℕ) (xs : List X) (i : ℕ) (y : X) → slice_get (take n xs) i ≡ Some y → slice_get xs i ≡ Some y
get_take zero xs i y e = absurd cc
get_take (suc n) [] i y e = absurd cc
get_take (suc n) (x ∷ xs) zero y e = e
get_take (suc n) (x ∷ xs) (suc i) y e = get_take n xs i y e

get_some : (fs : List ℕ) (i f : ℕ) → slice_get (map (λ f. Some f) fs) i ≡ Some (Some f) → slice_get fs i ≡ Some f
get_some [] i f e = absurd cc
get_some (g ∷ fs) zero f e = let q : g ≡ f = cc in ap (λ (x : ℕ). Some x) q
get_some (g ∷ fs) (suc i) f e = get_some fs i f e

-- functions put into a table stay below the count
pub below_put : (count at : ℕ) (fs : List ℕ) (old : List (Option ℕ)) → ((i f : ℕ) → slice_get old i ≡ Some (Some f) → f < count) → ((i f : ℕ) → slice_get fs i ≡ Some f → f < count) → (i f : ℕ) → slice_get (take at old ++ (map (λ f. Some f) fs ++ drop (at + length fs) old)) i ≡ Some (Some f) → f < count
below_put count at fs old b n i f e = first (get_split (take at old) (map (λ f. Some f) fs ++ drop (at + length fs) old) i (Some f) e)
  where
    rest : (j : ℕ) → (slice_get (map (λ f. Some f) fs) j ≡ Some (Some f)) ⊎ (slice_get (drop (at + length fs) old) (j - length (map (λ (f : ℕ). Some f) fs)) ≡ Some (Some f)) → f < count
    rest j (inl q) = n j f (get_some fs j f q)
    rest j (inr q) = b _ f (get_drop old (at + length fs) _ (Some f) q)

    first : (slice_get (take at old) i ≡ Some (Some f)) ⊎ (slice_get (map (λ f. Some f) fs ++ drop (at + length fs) old) (i - length (take at old)) ≡ Some (Some f)) → f < count
    first (inl q) = b i f (get_take at old i (Some f) q)
    first (inr q) = rest (i - length (take at old)) (get_split (map (λ f. Some f) fs) (drop (at + length fs) old) (i - length (take at old)) (Some f) q)

pub drop_item : {X : Type 0} (xs : List X) (i : ℕ) (x d : X) → i < length xs → x ≡ get_or xs i d → drop i xs ≡ x ∷ drop (i + 1) xs
drop_item [] i x d lt e = absurd (omega arith)
drop_item (y ∷ xs) zero x d lt e = ap (λ z. z ∷ xs) (sym e)
drop_item (y ∷ xs) (suc i) x d lt e = let z : suc (i + 1) ≡ suc i + 1 = omega arith in drop_item xs i x d (omega arith) e ∙ ap (λ (k : ℕ). x ∷ drop k (y ∷ xs)) z

pub has_length : (vs : List Value) (ts : List ValType) → HasTypes vs ts → length vs ≡ length ts
has_length [] [] h = refl
has_length [] (t ∷ ts) h = absurd h
has_length (v ∷ vs) [] h = absurd h
has_length (v ∷ vs) (t ∷ ts) h = ap suc (has_length vs ts h.1)

pub length_put : (at : ℕ) (new bytes : List ℕ) → at + length new ≤ length bytes → length (put at new bytes) ≡ length bytes
length_put at new bytes le = omega (arith, length-append (take at bytes) (new ++ drop (at + length new) bytes), length-append new (drop (at + length new) bytes), length-take at bytes, length-drop (at + length new) bytes, le)
