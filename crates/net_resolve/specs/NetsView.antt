-- What callers see of the nets of a board.
use Rattle.std.specs.Prelude.{◌≡◌, ◌≢◌, ℕ, List, Bool, true, false, slice_get}
use Rattle.sim_base.specs.declared.signal.Drive.{Drive}
use Rattle.sim_base.specs.declared.signal.Level.{Level}
use Rattle.sim_base.specs.declared.wiring.Wiring.{Wiring}
use Rattle.board_model.specs.Resolve.{resolve}
use Rattle.net_resolve.specs.Marked.{has}

pub record NetsView : Type 0 where
  -- what joins them
  pub wiring : Wiring
  -- what each pin drives, and which contacts are closed
  pub drives : List Drive
  pub closed : List Bool
  -- the level of each net, as last resolved
  pub levels : List Level
  -- the nets whose levels that changed
  pub changed : List ℕ
  -- which pins are watched, and what these drove when that was kept last
  pub watched : List Bool
  pub kept : List Drive

-- the levels of a wiring's nets by these contacts and drives
abbrev pub levels_by : Wiring → List Bool → List Drive → List Level
levels_by w closed drives = resolve w.nets w.net_of w.contacts w.resistors closed drives

-- The nets of a list are those whose levels differ.
pub record AreChanged (old new : List Level) (changed : List ℕ) : Type 0 where
  pub differ : (n : ℕ) → has changed n ≡ true → slice_get new n ≢ slice_get old n
  pub others : (n : ℕ) → has changed n ≡ false → slice_get new n ≡ slice_get old n
