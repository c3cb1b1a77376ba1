use Rattle.std.proofs.Common.{◌≡◌}
use Rattle.board_model.specs.Walks.{below}
use Rattle.net_pins.proofs.numbers.own_labels.Given as goal

abbrev pub invariant-loop-pin : goal.invariant-loop-pin
invariant-loop-pin l = l.labels ≡ below l.pin
