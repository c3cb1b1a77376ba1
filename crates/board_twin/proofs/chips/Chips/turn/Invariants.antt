use Rattle.std.proofs.Common.{◌≡◌, length}
use Rattle.law_board.specs.Twin.{chips_before}
use Rattle.board_twin.specs.Beside.{ChipsTurned}
use Rattle.board_twin.proofs.chips.Chips.turn.Given as goal

abbrev pub invariant-loop-k : goal.invariant-loop-k
invariant-loop-k g l = record {
  place : l.j ≡ chips_before l.wiring l.k;
  levels : l.self.levels ≡ l.fn.self.levels;
  own : length l.self.own ≡ length l.fn.self.own;
  turns : ChipsTurned g.P.Part l.wiring l.now l.t l.fn.self l.k l.self l.fn.steps l.steps;
}
