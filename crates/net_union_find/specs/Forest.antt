-- Places that are joined: each has a parent, none later than itself, and the first place of its tree is its root.
use Rattle.std.specs.Prelude.{◌≡◌, ℕ, zero, suc, ◌<◌, ◌≤◌, List, length, Bool, true, ◌&&◌, ◌||◌, nat_lt, ◌==◌, min, if◌then◌else◌, slice_index}
use Rattle.board_model.specs.Walks.{Walk}

abbrev pub IsForest : List ℕ → Type 0
IsForest parents = (x : ℕ) → slice_index parents x ≤ x

-- where one comes from x by k parents
unfoldable pub ancestor : List ℕ → ℕ → ℕ → ℕ
ancestor parents zero x = x
ancestor parents (suc k) x = slice_index parents (ancestor parents k x)

-- where one comes from x in the end
unfoldable pub root_of : List ℕ → ℕ → ℕ
root_of parents x = ancestor parents x x

-- the root of a place whose root was r, once the trees of a and b are one
abbrev pub root_joined : ℕ → ℕ → ℕ → ℕ
root_joined a b r = if (r == a) || (r == b) then min a b else r

-- each place has its root as its parent
pub record AreLabels (labels : List ℕ) : Type 0 where
  pub forest : IsForest labels
  pub flat : (x : ℕ) → x < length labels → slice_index labels (slice_index labels x) ≡ slice_index labels x

-- a step that is taken, or one within an old tree
abbrev pub same_or : List ℕ → (ℕ → ℕ → Bool) → ℕ → ℕ → Bool
same_or old step n m = (nat_lt n (length old) && nat_lt m (length old) && (root_of old n == root_of old m)) || step n m

-- the trees after joining what a step leads to
pub record Joins (step : ℕ → ℕ → Bool) (old new : List ℕ) : Type 0 where
  pub walks : (x : ℕ) → x < length old → Walk (same_or old step) x (root_of new x)
  pub keeps : (x y : ℕ) → x < length old → y < length old → root_of old x ≡ root_of old y → root_of new x ≡ root_of new y
  pub joined : (x y : ℕ) → step x y ≡ true → root_of new x ≡ root_of new y

-- The labels of classes: places of one label have a walk between them, and a step leads to a place of the same label.
-- So a label is the least place of its class.
pub record AreClasses (step : ℕ → ℕ → Bool) (places : List ℕ) : Type 0 where
  pub labels : AreLabels places
  pub walks : (a b : ℕ) → a < length places → b < length places → slice_index places a ≡ slice_index places b → Walk step a b
  pub same : (a b : ℕ) → step a b ≡ true → slice_index places a ≡ slice_index places b
