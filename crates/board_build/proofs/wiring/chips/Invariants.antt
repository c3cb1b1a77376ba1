use Rattle.std.proofs.Common.{◌≡◌, map, take}
use Rattle.board_build.specs.Parts.{is_chip}
use Rattle.board_build.proofs.wiring.chips.Given as goal

abbrev pub invariant-loop-kind : goal.invariant-loop-kind
invariant-loop-kind l = l.chips ≡ map is_chip (take l.kind-index l.kinds)
