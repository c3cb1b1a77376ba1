-- Pins that are watched.
use Rattle.std.specs.Prelude.{◌≡◌, ℕ, ◌+◌, List, [], ◌∷◌, length, Bool, true, false, if◌then◌else◌}
use Rattle.sim_base.specs.declared.signal.Drive.{Drive}
use Rattle.board_model.specs.Rows.{same_drive}
use Rattle.net_resolve.specs.declared.watch.Watch.{Watch}

-- the items at the places that have a flag
abbrev pub flagged : {A : Type 0} → List Bool → List A → List A
flagged [] xs = []
flagged (flag ∷ flags) [] = []
flagged (flag ∷ flags) (x ∷ xs) = if flag then x ∷ flagged flags xs else flagged flags xs

abbrev pub unlike : Drive → Drive → ℕ
unlike a b = if same_drive a b then 0 else 1

-- at how many places that have a flag two lists differ
abbrev pub differing : List Bool → List Drive → List Drive → ℕ
differing [] xs ys = 0
differing (flag ∷ flags) [] ys = 0
differing (flag ∷ flags) (x ∷ xs) [] = 0
differing (false ∷ flags) (x ∷ xs) (y ∷ ys) = differing flags xs ys
differing (true ∷ flags) (x ∷ xs) (y ∷ ys) = differing flags xs ys + unlike x y

-- It counts the watched pins that do not drive what was kept of them.
pub record IsWatch (drives : List Drive) (w : Watch) : Type 0 where
  pub flags_long : length w.watched.items ≡ length drives
  pub kept_long : length w.kept.items ≡ length drives
  pub counted : w.differing ≡ differing w.watched.items w.kept.items drives
