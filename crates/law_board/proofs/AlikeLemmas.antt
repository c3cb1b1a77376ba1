-- Lists whose items are related one by one.
use Rattle.std.proofs.Common.{◌≡◌, ℕ, suc, List, [], ◌∷◌, ◌++◌, ◌∙◌, map, Bool, Some, refl, ap, arith}
use Rattle.std.specs.Prelude.{slice_get, if◌then◌else◌}
use Rattle.std.specs.List.{flat_map}
use Rattle.sim_base.specs.declared.signal.Drive.{Drive}
use Rattle.part_law.specs.Machine.{Machine}
use Rattle.board_model.specs.Rows.{chip_drives_of}
use Rattle.law_board.specs.Alike.{Alike}

pub alike_tail : {A B : Type 0} (R : ℕ → A → B → Type 0) (x : A) (y : B) (xs : List A) (ys : List B) → Alike R (x ∷ xs) (y ∷ ys) → Alike (λ k a b. R (suc k) a b) xs ys
alike_tail R x y xs ys h = record { long = let l = h.long in omega (arith, l); each = λ k a b ea eb. h.each (suc k) a b ea eb }

pub alike_weaker : {A B : Type 0} (R Q : ℕ → A → B → Type 0) (xs : List A) (ys : List B) → Alike R xs ys →
    ((k : ℕ) (x : A) (y : B) → slice_get xs k ≡ Some x → slice_get ys k ≡ Some y → R k x y → Q k x y) → Alike Q xs ys
alike_weaker R Q xs ys h to = record { long = h.long; each = λ k x y ex ey. to k x y ex ey (h.each k x y ex ey) }

pub map_alike : {A B C : Type 0} (f : A → C) (g : B → C) (xs : List A) (ys : List B) → Alike (λ k x y. f x ≡ g y) xs ys → map f xs ≡ map g ys
map_alike f g [] [] h = refl
map_alike f g [] (y ∷ ys) h = let l = h.long in absurd (omega (arith, l))
map_alike f g (x ∷ xs) [] h = let l = h.long in absurd (omega (arith, l))
map_alike f g (x ∷ xs) (y ∷ ys) h =
    let a : f x ≡ g y = h.each 0 x y refl refl in
    let b : map f xs ≡ map g ys = map_alike f g xs ys (alike_tail (λ k x y. f x ≡ g y) x y xs ys h) in
    cc

pub flat_map_alike : {A B C : Type 0} (f : A → List C) (g : B → List C) (xs : List A) (ys : List B) → Alike (λ k x y. f x ≡ g y) xs ys → flat_map f xs ≡ flat_map g ys
flat_map_alike f g [] [] h = refl
flat_map_alike f g [] (y ∷ ys) h = let l = h.long in absurd (omega (arith, l))
flat_map_alike f g (x ∷ xs) [] h = let l = h.long in absurd (omega (arith, l))
flat_map_alike f g (x ∷ xs) (y ∷ ys) h =
    let a : f x ≡ g y = h.each 0 x y refl refl in
    let b : flat_map f xs ≡ flat_map g ys = flat_map_alike f g xs ys (alike_tail (λ k x y. f x ≡ g y) x y xs ys h) in
    cc

pub chip_drives_alike : {A B : Type 0} (m : Machine A) (n : Machine B) (chips : List Bool) (xs : List A) (ys : List B) → Alike (λ k x y. m.drives x ≡ n.drives y) xs ys → chip_drives_of m chips xs ≡ chip_drives_of n chips ys
chip_drives_alike m n [] xs ys h = refl
chip_drives_alike m n (c ∷ chips) [] [] h = refl
chip_drives_alike m n (c ∷ chips) [] (y ∷ ys) h = let l = h.long in absurd (omega (arith, l))
chip_drives_alike m n (c ∷ chips) (x ∷ xs) [] h = let l = h.long in absurd (omega (arith, l))
chip_drives_alike m n (c ∷ chips) (x ∷ xs) (y ∷ ys) h =
    let a : m.drives x ≡ n.drives y = h.each 0 x y refl refl in
    let b : chip_drives_of m chips xs ≡ chip_drives_of n chips ys = chip_drives_alike m n chips xs ys (alike_tail (λ k x y. m.drives x ≡ n.drives y) x y xs ys h) in
    ap (λ (d : List Drive). (if c then d else []) ++ chip_drives_of m chips xs) a ∙ ap (λ (l : List Drive). (if c then n.drives y else []) ++ l) b
