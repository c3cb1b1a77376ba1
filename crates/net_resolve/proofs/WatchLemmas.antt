-- What watched pins drive, and how many of them drive something else.
use Rattle.net_resolve.proofs.Common.{◌≡◌, ℕ, zero, suc, ◌+◌, ◌<◌, ◌≤◌, List, [], ◌∷◌, ◌∙◌, length, replicate, Bool, true, false, Some, refl, ap, arith, ◌&&◌}
use Rattle.net_resolve.proofs.Common.{◌==◌, slice_get, slice_set, if◌then◌else◌, Drive, same_list, same_drive, some_same, drive_same, flagged, unlike}
use Rattle.net_resolve.proofs.Common.{differing}

-- no place has a flag
pub none_flagged : {A : Type 0} (n : ℕ) (xs : List A) → flagged (replicate n false) xs ≡ []
none_flagged zero xs = refl
none_flagged (suc n) [] = refl
none_flagged (suc n) (x ∷ xs) = none_flagged n xs

-- nothing differs from itself
pub none_differs : (flags : List Bool) (xs : List Drive) → differing flags xs xs ≡ 0
none_differs [] xs = refl
none_differs (flag ∷ flags) [] = refl
none_differs (true ∷ flags) (x ∷ xs) = let same : unlike x x ≡ 0 = ap (λ (b : Bool). if b then 0 else 1) (drive_same x) in omega (arith, same, none_differs flags xs)
none_differs (false ∷ flags) (x ∷ xs) = none_differs flags xs

-- whether nothing differs
pub same_where : (flags : List Bool) (xs ys : List Drive) → length xs ≡ length ys → (differing flags xs ys == 0) ≡ same_list same_drive (flagged flags xs) (flagged flags ys)
same_where [] xs ys long = refl
same_where (flag ∷ flags) [] [] long = refl
same_where (flag ∷ flags) [] (y ∷ ys) long = absurd (omega (arith, long))
same_where (flag ∷ flags) (x ∷ xs) [] long = absurd (omega (arith, long))
same_where (false ∷ flags) (x ∷ xs) (y ∷ ys) long = same_where flags xs ys (omega (arith, long))
same_where (true ∷ flags) (x ∷ xs) (y ∷ ys) long = go (same_drive x y) (differing flags xs ys) (same_where flags xs ys (omega (arith, long)))
  where
    go : (b : Bool) (n : ℕ) → (n == 0) ≡ same_list same_drive (flagged flags xs) (flagged flags ys) → (n + (if b then 0 else 1) == 0) ≡ (b && same_list same_drive (flagged flags xs) (flagged flags ys))
    go true n e = let none : n + 0 ≡ n = omega arith in ap (λ (k : ℕ). k == 0) none ∙ e
    go false n e = grind arith

-- where a place has no flag, what stands there does not matter
pub differing_other : (flags : List Bool) (xs ys : List Drive) (k : ℕ) (y : Drive) → slice_get flags k ≡ Some false → differing flags xs (slice_set ys k y) ≡ differing flags xs ys
differing_other [] xs ys k y e = refl
differing_other (flag ∷ flags) [] ys k y e = refl
differing_other (flag ∷ flags) (x ∷ xs) [] k y e = refl
differing_other (true ∷ flags) (x ∷ xs) (z ∷ ys) zero y e = absurd cc
differing_other (false ∷ flags) (x ∷ xs) (z ∷ ys) zero y e = refl
differing_other (true ∷ flags) (x ∷ xs) (z ∷ ys) (suc k) y e = ap (λ (n : ℕ). n + unlike x z) (differing_other flags xs ys k y e)
differing_other (false ∷ flags) (x ∷ xs) (z ∷ ys) (suc k) y e = differing_other flags xs ys k y e

pub unlike_most : (a b : Drive) → unlike a b ≤ 1
unlike_most a b = go (same_drive a b)
  where
    go : (c : Bool) → (if c then 0 else 1) ≤ 1
    go true = omega arith
    go false = omega arith

differing_most : (flags : List Bool) (xs ys : List Drive) → differing flags xs ys ≤ length ys
differing_most [] xs ys = omega arith
differing_most (flag ∷ flags) [] ys = omega arith
differing_most (flag ∷ flags) (x ∷ xs) [] = omega arith
differing_most (true ∷ flags) (x ∷ xs) (y ∷ ys) = omega (arith, differing_most flags xs ys, unlike_most x y)
differing_most (false ∷ flags) (x ∷ xs) (y ∷ ys) = omega (arith, differing_most flags xs ys)

-- one place, and at how many others they differ
pub differing_at : (flags : List Bool) (xs ys : List Drive) (k : ℕ) → slice_get flags k ≡ Some true → k < length xs → k < length ys → (n : ℕ) × (n < length ys) × ((x : Drive) → slice_get xs k ≡ Some x → (y : Drive) → differing flags xs (slice_set ys k y) ≡ n + unlike x y)
differing_at [] xs ys k e lx ly = absurd cc
differing_at (flag ∷ flags) [] ys k e lx ly = absurd (omega (arith, lx))
differing_at (flag ∷ flags) (a ∷ xs) [] k e lx ly = absurd (omega (arith, ly))
differing_at (false ∷ flags) (a ∷ xs) (b ∷ ys) zero e lx ly = absurd cc
differing_at (true ∷ flags) (a ∷ xs) (b ∷ ys) zero e lx ly =
    (differing flags xs ys, omega (arith, differing_most flags xs ys), λ x is y. ap (λ (z : Drive). differing flags xs ys + unlike z y) (some_same is))
differing_at (true ∷ flags) (a ∷ xs) (b ∷ ys) (suc k) e lx ly =
    let rest = differing_at flags xs ys k e (omega (arith, lx)) (omega (arith, ly)) in
    (rest.0 + unlike a b, omega (arith, rest.1, unlike_most a b), λ x is y. let same = rest.2 x is y in omega (arith, same))
differing_at (false ∷ flags) (a ∷ xs) (b ∷ ys) (suc k) e lx ly =
    let rest = differing_at flags xs ys k e (omega (arith, lx)) (omega (arith, ly)) in
    (rest.0, omega (arith, rest.1), rest.2)
