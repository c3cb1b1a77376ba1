use Rattle.std.proofs.Common.{◌≡◌, drop}
use Rattle.law_board.specs.FirstDiff.{pin_diff}
use Rattle.board_twin.proofs.compare.pin_difference.Given as goal

abbrev pub invariant-loop-pin : goal.invariant-loop-pin
invariant-loop-pin g l =
    let p = g.P.Part in
    pin_diff l.pin (drop l.pin (p.machine.drives (p.state l.a))) (drop l.pin (p.machine.drives (p.state l.b))) ≡ pin_diff 0 (p.machine.drives (p.state l.a)) (p.machine.drives (p.state l.b))
