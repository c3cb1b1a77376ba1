use Rattle.std.proofs.Common.{◌≡◌, ◌<◌, ◌≤◌, ◌-◌, ◌∙◌, ap, subst, arith, ℕ, List, Some, inl, inr}
use Rattle.std.specs.Prelude.{slice_get}
use Rattle.board_run.proofs.NextLemmas.{below_or}
use Rattle.board_twin.proofs.AbreastLemmas.{goes, same_there, stays}
use Rattle.board_twin.proofs.beside.Beside.go_still.Goals as goal

pub returns-then-t-next : goal.returns-then-t-next
returns-then-t-next g c =
    let p = g.P.Part in
    let laws = g.met.P.Part.laws in
    let self = c.args.self.now in
    let b = self.board in
    let e = c.run_still.ensures in
    let new = c.run_still.new.self in
    let last = c.run_still.new.steps in
    let x = c.requires.way in
    let went = e.still.went in
    let near : new.cycle ≤ c.least_due-next.result = e.within in
    let after : 0 < b.cycle = subst (λ (t : ℕ). 0 < t) c.cycle-t.ensures.value c.if-t-gt0.true in
    let quiet = λ (j : ℕ) (q : g.row.P.Denot) (ej : slice_get self.chips.parts j ≡ Some q) (k : ℕ) (h : k < new.cycle - p.now q).
    c.least_due-next.ensures.quiet j q (ap (λ (l : List g.row.P.Denot). slice_get l j) c.as_slice.ensures ∙ ej) k (omega (arith, near, h)) in
    record {
      from = went.from;
      within = λ _. omega (arith, near, c.least_due-next.ensures.within);
      same = λ at. same_there p laws x.start self x.steps c.args.steps.now x.is new last went at c.requires.same;
      went = λ start steps is. elim (below_or b.cycle new.cycle) [
        | inl less ↦ goes p laws start self steps c.args.steps.now is new last went c.requires.same less after (e.still.steady less) quiet
        | inr most ↦ stays p laws start self steps c.args.steps.now is new last went (let o = went.from in omega (arith, o, most))
      ];
    }
