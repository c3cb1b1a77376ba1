use Rattle.std.proofs.Common.{◌≡◌, map}
use Rattle.law_board.specs.FirstDiff.{part_diff}
use Rattle.law_board.specs.Twin.{chips_before, with_chips}
use Rattle.board_twin.proofs.DifferenceLemmas.{from}
use Rattle.board_twin.proofs.compare.difference.Given as goal

-- no chip before part k differs
abbrev pub invariant-loop-k : goal.invariant-loop-k
invariant-loop-k g l =
    let p = g.P.Part in
    record {
      place : l.j ≡ chips_before l.wiring l.k;
      same : from p.machine l.wiring l.t (map p.state l.parts) (map p.state l.chips) l.k l.j ≡ part_diff p.machine l.wiring l.t 0 (map p.state l.parts) (with_chips l.wiring (map p.state l.parts) (map p.state l.chips));
    }
