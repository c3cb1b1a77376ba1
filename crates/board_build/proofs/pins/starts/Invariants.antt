use Rattle.std.proofs.Common.{◌≡◌, ◌≤◌, ◌*◌, take}
use Rattle.std.specs.List.{sum_by}
use Rattle.board_build.specs.Pins.{count_of, starts_from}
use Rattle.board_build.proofs.pins.starts.Given as goal

abbrev pub invariant-loop-kind : goal.invariant-loop-kind
invariant-loop-kind l = record {
  firsts : l.firsts ≡ take l.kind-index (starts_from l.pins 0 l.kinds);
  next : l.next ≡ sum_by (count_of l.pins) (take l.kind-index l.kinds);
  few : l.next ≤ 64 * l.kind-index;
}
