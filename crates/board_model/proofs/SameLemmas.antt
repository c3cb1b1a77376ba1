-- Tests that tell levels and drives apart.
use Rattle.std.proofs.Common.{◌≡◌, ℕ, List, [], ◌∷◌, ◌∙◌, Bool, true, refl, ap, arith}
use Rattle.std.specs.Prelude.{◌==◌, ◌&&◌}
use Rattle.std.proofs.lemmas.Bool.Decides.{nat_tests}
use Rattle.std.proofs.lemmas.Bool.{and_parts}
use Rattle.sim_base.specs.declared.signal.Level.{Level}
use Rattle.sim_base.specs.declared.signal.Level.TheVariants as levels
use Rattle.sim_base.specs.declared.signal.Drive.{Drive}
use Rattle.sim_base.specs.declared.signal.Drive.TheVariants as drives
use Rattle.board_model.specs.Rows.{same_list, same_level, same_drive}

eqb_same : (v : ℕ) → (v == v) ≡ true
eqb_same v = grind (arith, nat_tests)

eqb_means : (v w : ℕ) → (v == w) ≡ true → v ≡ w
eqb_means v w h = grind (arith, nat_tests)

pub level_same : (l : Level) → same_level l l ≡ true
level_same levels.Low = refl
level_same levels.High = refl
level_same levels.X = refl
level_same levels.Z = refl
level_same (levels.Wiped w) = eqb_same w

pub drive_same : (d : Drive) → same_drive d d ≡ true
drive_same drives.Z = refl
drive_same drives.Low = refl
drive_same drives.High = refl
drive_same drives.PullLow = refl
drive_same drives.PullHigh = refl
drive_same (drives.Wiper w) = eqb_same w

pub list_same : {A : Type 0} (same : A → A → Bool) → ((x : A) → same x x ≡ true) → (xs : List A) → same_list same xs xs ≡ true
list_same same each [] = refl
list_same same each (x ∷ xs) = ap (λ (b : Bool). b && same_list same xs xs) (each x) ∙ list_same same each xs

level_means : (x y : Level) → same_level x y ≡ true → x ≡ y
level_means levels.Low levels.Low h = refl
level_means levels.High levels.High h = refl
level_means levels.X levels.X h = refl
level_means levels.Z levels.Z h = refl
level_means (levels.Wiped v) (levels.Wiped w) h = ap (λ (n : ℕ). levels.Wiped n) (eqb_means v w h)
level_means x y h = absurd cc

pub drive_means : (x y : Drive) → same_drive x y ≡ true → x ≡ y
drive_means drives.Z drives.Z h = refl
drive_means drives.Low drives.Low h = refl
drive_means drives.High drives.High h = refl
drive_means drives.PullLow drives.PullLow h = refl
drive_means drives.PullHigh drives.PullHigh h = refl
drive_means (drives.Wiper v) (drives.Wiper w) h = ap (λ (n : ℕ). drives.Wiper n) (eqb_means v w h)
drive_means x y h = absurd cc

lists_mean : {A : Type 0} (same : A → A → Bool) → ((x y : A) → same x y ≡ true → x ≡ y) → (xs ys : List A) → same_list same xs ys ≡ true → xs ≡ ys
lists_mean same means [] [] h = refl
lists_mean same means [] (y ∷ ys) h = absurd cc
lists_mean same means (x ∷ xs) [] h = absurd cc
lists_mean same means (x ∷ xs) (y ∷ ys) h =
    let a : x ≡ y = means x y (and_parts _ _ h).0 in
    let b : xs ≡ ys = lists_mean same means xs ys (and_parts (same x y) (same_list same xs ys) h).1 in
    cc

-- lists that are told to be the same are
pub levels_mean : (xs ys : List Level) → same_list same_level xs ys ≡ true → xs ≡ ys
levels_mean xs ys h = lists_mean same_level level_means xs ys h

pub drives_mean : (xs ys : List Drive) → same_list same_drive xs ys ≡ true → xs ≡ ys
drives_mean xs ys h = lists_mean same_drive drive_means xs ys h
