-- Resolutions that are kept. No public clause cites this.
use Rattle.std.specs.Prelude.{◌≡◌, ℕ, ◌<◌, List, Bool, length, map, Some, slice_get, vec_len, if◌then◌else◌}
use Rattle.sim_base.specs.declared.signal.Drive.{Drive}
use Rattle.net_resolve.specs.WholeView.{WholeView, levels_of}
use Rattle.net_resolve.specs.declared.resolution.Resolution.{Resolution}
use Rattle.net_resolve.specs.declared.resolution.Kept.{Kept}

-- The levels are those that the drives and the closed contacts give.
pub record IsResolution (w : WholeView) (r : Resolution) : Type 0 where
  pub drives_long : vec_len r.drives ≡ length w.net_of
  pub closed_long : vec_len r.closed ≡ length w.contacts
  pub levels_long : vec_len r.levels ≡ w.nets
  pub levels_are : r.levels.items ≡ levels_of w r.closed.items r.drives.items

-- the pins and contacts of these nets, by their numbers on a board of so many pins and contacts
pub record ArePlaces (w : WholeView) (drives : List Drive) (closed : List Bool) (pins contacts : List ℕ) : Type 0 where
  pub pins_within : (j k : ℕ) → slice_get pins j ≡ Some k → k < length drives
  pub contacts_within : (j k : ℕ) → slice_get contacts j ≡ Some k → k < length closed
  pub pins_long : length pins ≡ length w.net_of
  pub contacts_long : length contacts ≡ length w.contacts

-- It is one by what pins and contacts with these numbers do.
pub record IsBy (drives : List Drive) (closed : List Bool) (pins contacts : List ℕ) (r : Resolution) : Type 0 where
  pub drives_are : map Some r.drives.items ≡ map (slice_get drives) pins
  pub closed_are : map Some r.closed.items ≡ map (slice_get closed) contacts

pub record AreResolutions (w : WholeView) (k : Kept) : Type 0 where
  pub first : IsResolution w k.first
  pub second : IsResolution w k.second

-- the one that was asked for last
abbrev pub last_of : Kept → Resolution
last_of k = if k.flipped then k.second else k.first
