use Rattle.std.proofs.Common.{◌≡◌, ◌+◌, ◌-◌, ◌≤◌, drop, slice_get}
use Rattle.board_build.specs.Parts.{is_chip, numbers_from, few_chips, no_ninth}
use Rattle.board_build.proofs.kinds.few_chips.Given as goal

abbrev pub invariant-loop-i : goal.invariant-loop-i
invariant-loop-i l = record {
  few : l.chips ≤ 8;
  rest : no_ninth (slice_get (numbers_from is_chip (l.i + 1) (drop l.i l.kinds)) (8 - l.chips)) ≡ few_chips l.kinds;
}
