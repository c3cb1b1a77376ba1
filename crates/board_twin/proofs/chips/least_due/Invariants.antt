use Rattle.std.proofs.Common.{◌≡◌, ◌≤◌, ◌<◌, ◌-◌, ℕ, Some}
use Rattle.std.specs.Prelude.{slice_get}
use Rattle.part_law.specs.Machine.{IsQuiet}
use Rattle.board_twin.proofs.chips.least_due.Given as goal

abbrev pub invariant-loop-j : goal.invariant-loop-j
invariant-loop-j g l =
    let p = g.P.Part in
    record {
      within : l.least ≤ l.n;
      quiet : (k : ℕ) (q : g.row.P.Denot) → k < l.j → slice_get l.chips k ≡ Some q → IsQuiet p.machine (p.state q) (p.now q) (l.least - p.now q);
    }
