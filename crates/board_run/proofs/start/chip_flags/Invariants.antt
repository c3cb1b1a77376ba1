use Rattle.board_run.proofs.Common.{◌≡◌, ◌++◌, take, drop, map, length, drives_of, pin_flags}
use Rattle.board_run.proofs.start.chip_flags.Given as goal

abbrev pub invariant-loop-i : goal.invariant-loop-i
invariant-loop-i g l =
    let w = l.wiring in
    record {
      flags : l.flags.items ++ pin_flags (drop l.i w.chip) (drop l.i w.first_pin) (length w.net_of) ≡ pin_flags w.chip w.first_pin (length w.net_of);
      long : length l.flags.items ≡ length (drives_of g.P.Part.machine (take l.i (map g.P.Part.state l.parts)));
    }
