use Rattle.board_run.proofs.Common.{◌≡◌, ◌<◌, ℕ, Some, length, Option, slice_get, IsFirstDue, Done, glided}
use Rattle.board_run.proofs.engine.Engine.settle.Given as goal

-- the parts before i are at the cycle
abbrev pub invariant-loop-i : goal.invariant-loop-i
invariant-loop-i g l =
    let p = g.P.Part in
    record {
      same : l.self ≡ record l.fn.self { parts = l.self.parts; dues = l.self.dues };
      parts : Done (λ k x y. (p.state y ≡ glided p.machine p.state p.now p.wakes l.fn.self.cycle x) × (p.now y ≡ l.fn.self.cycle) × (p.wakes y ≡ p.wakes x)) l.i l.fn.self.parts l.self.parts;
      long : length l.self.dues ≡ length l.fn.self.dues;
      due : (k : ℕ) (y : g.row.P.Denot) (d : Option ℕ) → k < l.i → slice_get l.self.parts k ≡ Some y → slice_get l.self.dues k ≡ Some d → IsFirstDue p.machine (p.state y) (p.now y) d;
    }
