-- The definitions of the levels, as a program finds them step by step.
use Rattle.std.proofs.Common.{◌≡◌, ℕ, suc, ◌+◌, ◌-◌, ◌<◌, ◌≤◌, Bool, true, false, List, [], ◌∷◌, ◌++◌, length, map, drop, drop-cons, get_or, add-one, append_assoc, refl, ap, sym, ◌∙◌, arith}
use Rattle.std.specs.Prelude.{◌==◌, ◌&&◌, ◌||◌, if◌then◌else◌, filter}
use Rattle.std.specs.List.{flat_map, zip}
use Rattle.std.proofs.lemmas.Grind.{flat_map-append}
use Rattle.sim_base.specs.declared.signal.Drive.{Drive}
use Rattle.sim_base.specs.declared.signal.Drive.TheVariants as drives
use Rattle.board_model.specs.Walks.{any_below, below, walk_within}

pub within_none : (count : ℕ) (step : ℕ → ℕ → Bool) (k n m : ℕ) → k ≡ 0 → (n == m) ≡ walk_within count step k n m
unfolding walk_within
within_none count step k n m e = ap (λ (j : ℕ). walk_within count step j n m) (sym e)

pub within_next : (count : ℕ) (step : ℕ → ℕ → Bool) (k n m : ℕ) → 0 < k →
    (walk_within count step (k - 1) n m || any_below count (λ j. walk_within count step (k - 1) n j && step j m)) ≡ walk_within count step k n m
unfolding walk_within
within_next count step k n m h = let e : suc (k - 1) ≡ k = omega arith in ap (λ (j : ℕ). walk_within count step j n m) e

-- what a program has found, once it has looked at all places
pub found_all : (count : ℕ) (step : ℕ → ℕ → Bool) (k n m j : ℕ) (found : Bool) → 0 < k → count ≤ j → j ≤ count →
    found ≡ (walk_within count step (k - 1) n m || any_below j (λ i. walk_within count step (k - 1) n i && step i m)) → found ≡ walk_within count step k n m
found_all count step k n m j found h a b e =
    let same : j ≡ count = omega arith in
    e ∙ ap (λ (x : ℕ). walk_within count step (k - 1) n m || any_below x (λ i. walk_within count step (k - 1) n i && step i m)) same ∙ within_next count step k n m h

-- two values that are pushed where a net is reached
pub pushed_two : (r h l : Bool) (xs ys zs : List Drive) → ys ≡ xs ++ (if r && h then drives.High ∷ [] else []) → zs ≡ ys ++ (if r && l then drives.Low ∷ [] else []) →
    zs ≡ xs ++ (if r then (if h then drives.High ∷ [] else []) ++ (if l then drives.Low ∷ [] else []) else [])
pushed_two true h l xs ys zs e f = f ∙ ap (λ (w : List Drive). w ++ (if l then drives.Low ∷ [] else [])) e ∙ append_assoc xs (if h then drives.High ∷ [] else []) (if l then drives.Low ∷ [] else [])
pushed_two false h l xs ys zs e f = f ∙ append_nil ys ∙ e
  where
    append_nil : (w : List Drive) → w ++ [] ≡ w
    append_nil [] = refl
    append_nil (x ∷ w) = ap (λ (v : List Drive). x ∷ v) (append_nil w)

-- one more list
pub flat_last : (f : ℕ → List Drive) (m : ℕ) (start xs ys : List Drive) → xs ≡ start ++ flat_map f (below m) → ys ≡ xs ++ f m → ys ≡ start ++ flat_map f (below (m + 1))
flat_last f m start xs ys e h =
    let more : flat_map f (below (suc m)) ≡ flat_map f (below m) ++ f m = flat_map-append f (below m) (m ∷ []) ∙ ap (λ (l : List Drive). flat_map f (below m) ++ l) (append_nil (f m)) in
    let n : m + 1 ≡ suc m = omega arith in
    h ∙ ap (λ (l : List Drive). l ++ f m) e ∙ append_assoc start (flat_map f (below m)) (f m) ∙ ap (λ (l : List Drive). start ++ l) (sym more) ∙ ap (λ (k : ℕ). start ++ flat_map f (below k)) (sym n)
  where
    append_nil : (w : List Drive) → w ++ [] ≡ w
    append_nil [] = refl
    append_nil (x ∷ w) = ap (λ (v : List Drive). x ∷ v) (append_nil w)

-- the weak drives of the pins from i on that count
abbrev pub weak_from : (ℕ × Drive → Bool) → List ℕ → List Drive → ℕ → List Drive
weak_from counts ns ds i = map (λ p. p.1) (filter counts (zip (drop i ns) (drop i ds)))

pub weak_next : (counts : ℕ × Drive → Bool) (ns : List ℕ) (ds : List Drive) (i : ℕ) → i < length ns → length ds ≡ length ns →
    weak_from counts ns ds i ≡ (if counts (get_or ns i 0, get_or ds i drives.Z) then get_or ds i drives.Z ∷ [] else []) ++ weak_from counts ns ds (i + 1)
weak_next counts ns ds i h long =
    let l : i < length ds = omega (arith, long) in
    rw add-one (rw (drop-cons ns i 0) (rw (drop-cons ds i drives.Z) (go (counts (get_or ns i 0, get_or ds i drives.Z)) refl)))
  where
    go : (b : Bool) → counts (get_or ns i 0, get_or ds i drives.Z) ≡ b →
        map (λ p. p.1) (filter counts ((get_or ns i 0, get_or ds i drives.Z) ∷ zip (drop (suc i) ns) (drop (suc i) ds)))
        ≡ (if counts (get_or ns i 0, get_or ds i drives.Z) then get_or ds i drives.Z ∷ [] else []) ++ map (λ p. p.1) (filter counts (zip (drop (suc i) ns) (drop (suc i) ds)))
    go true e = rw e refl
    go false e = rw e refl
