-- What is shown of nets, and which of them changed. No public clause cites this.
use Rattle.std.specs.Prelude.{◌≡◌, ◌≢◌, ℕ, ◌<◌, ◌≤◌, List, length, map, true, false, Some, slice_get, ◌⊎◌}
use Rattle.sim_base.specs.declared.signal.Level.{Level}
use Rattle.board_model.specs.Board.{level_at}
use Rattle.net_resolve.specs.Marked.{MarksView, has}
use Rattle.net_resolve.specs.declared.shown.Shown.{Shown}

-- The nets that are listed beside those that were are those whose levels differ.
pub record Moves (old new : List Level) (before after : MarksView) : Type 0 where
  pub long : length new ≡ length old
  pub room : after.room ≡ before.room
  pub differ : (n : ℕ) → has after.marked n ≡ true → (has before.marked n ≡ true) ⊎ (slice_get new n ≢ slice_get old n)
  pub others : (n : ℕ) → has after.marked n ≡ false → (has before.marked n ≡ false) × (slice_get new n ≡ slice_get old n)

-- There is room to list each net.
pub record HasRoom (s : Shown) : Type 0 where
  pub few : length s.levels.items ≤ 65536
  pub room : s.changed.room ≡ length s.levels.items

-- Each pin has the level of its net.
pub record AreShown (net_of : List ℕ) (s : Shown) : Type 0 where
  pub room : HasRoom s
  pub within : (k n : ℕ) → slice_get net_of k ≡ Some n → n < length s.levels.items
  pub pins : s.pin_levels.items ≡ map (level_at s.levels.items) net_of
