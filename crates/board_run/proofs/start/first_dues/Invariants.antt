use Rattle.board_run.proofs.Common.{◌≡◌, ◌<◌, ℕ, Some, length, Option, slice_get, IsFirstDue}
use Rattle.board_run.proofs.start.first_dues.Given as goal

-- the parts before i were asked
abbrev pub invariant-loop-i : goal.invariant-loop-i
invariant-loop-i g l =
    let p = g.P.Part in
    record {
      long : length l.dues ≡ length l.parts;
      due : (k : ℕ) (y : g.row.P.Denot) (d : Option ℕ) → k < l.i → slice_get l.parts k ≡ Some y → slice_get l.dues k ≡ Some d → IsFirstDue p.machine (p.state y) (p.now y) d;
    }
