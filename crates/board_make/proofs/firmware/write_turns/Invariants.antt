use Rattle.std.proofs.Common.{◌≡◌, ◌+◌, ◌++◌}
use Rattle.board_make.specs.Draws.{drawn}
use Rattle.board_make.specs.Firmware.{flash_of, opening, turns}
use Rattle.board_make.proofs.firmware.write_turns.Given as goal

abbrev pub invariant-loop-j : goal.invariant-loop-j
invariant-loop-j l = record {
  x : l.x ≡ drawn l.seed (2 + l.j);
  flash : l.fn.flash ≡ flash_of opening → l.flash ≡ flash_of (opening ++ turns l.seed l.j);
}
