-- A watcher that was handed what a live board has shown, and no more.
use Rattle.std.specs.Prelude.{◌≡◌, ℕ, ◌<◌, ◌≤◌, List, true}
use Rattle.std.specs.Option.{ForSome}
use Rattle.sim_base.specs.Rows.{Row, AreFronts}
use Rattle.sim_base.specs.declared.watcher.Watcher.{Ghosts as Watching}
use Rattle.part_law.specs.declared.part.Part.{Ghosts}
use Rattle.board_live.specs.LiveView.{LiveView, rows_by, bytes_by, shown_by}

module _ {P W : Type 0} (part : Ghosts P) (watcher : Watching W) (s : LiveView P) where
  -- It stands for the rows and the bytes of the cycles before the live board's, and may be handed those that follow.
  pub record Follows (out : W) : Type 0 where
    pub whole : watcher.whole out ≡ true
    pub stands : watcher.stands out (rows_by part s s.cycle) (bytes_by part s s.cycle)
    pub last : ForSome (watcher.last out) (λ u. (u < s.cycle) × ForSome (shown_by part s s.cycle) (λ shown. watcher.seen out shown.levels))

  -- It has stopped within those of the cycles before n.
  pub record StoppedBefore (n : ℕ) (out : W) : Type 0 where
    pub front_rows : List Row
    pub front_bytes : List ℕ
    pub are_fronts : AreFronts front_rows front_bytes (rows_by part s n) (bytes_by part s n)
    pub stopped : watcher.stopped out front_rows front_bytes
