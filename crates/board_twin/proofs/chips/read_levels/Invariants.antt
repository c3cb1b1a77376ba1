use Rattle.std.proofs.Common.{◌≡◌, drop, take, map, length}
use Rattle.std.specs.Prelude.{◌&&◌}
use Rattle.board_model.specs.Board.{level_at}
use Rattle.board_model.specs.Rows.{same_list, same_level}
use Rattle.board_twin.proofs.chips.read_levels.Given as goal

abbrev pub invariant-loop-i : goal.invariant-loop-i
invariant-loop-i l = record {
  long : length l.own ≡ length l.fn.own;
  own : take l.i l.own ≡ take l.i (map (level_at l.now) l.nets);
  same : (l.same && same_list same_level (map (level_at l.now) (drop l.i l.nets)) (map (level_at l.before) (drop l.i l.nets)))
      ≡ same_list same_level (map (level_at l.now) l.nets) (map (level_at l.before) l.nets);
}
