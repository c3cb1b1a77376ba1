use Rattle.board_run.proofs.Common.{◌≡◌, ◌<◌, ◌≤◌, ◌∙◌, ap, sym, ℕ, false, subst, ◌==◌, or_left, or_right, BoardView, wiring_of, kept_of}
use Rattle.board_run.proofs.StretchLemmas.{stretch_until, unchanged, neither, event_at}
use Rattle.board_run.proofs.board.Board.next.Goals as goal

pub next_cycle-requires-clause-within : goal.next_cycle-requires-clause-within
next_cycle-requires-clause-within g c = c.self.invariant.end

pub returns : goal.returns
returns g c =
    let p = g.P.Part in
    let i = c.self.inside.engine in
    let r : ℕ = c.next_cycle.result in
    let next = c.next_cycle.ensures in
    let cycle = ap (λ (v : BoardView g.row.P.Denot). v.cycle) c.self.view_is in
    let changed = ap (λ (v : BoardView g.row.P.Denot). v.changed) c.self.view_is in
    record {
      from = subst (λ (t : ℕ). t ≤ r) cycle next.from;
      within = next.within;
      start = λ is. next.stays (or_right i.changed _ (ap (λ (t : ℕ). t == 0) (cycle ∙ is))) ∙ cycle ∙ is;
      changed = λ is. next.stays (or_left i.changed _ (changed ∙ is)) ∙ cycle;
      event = λ none later before.
          let fresh : i.changed ≡ false = changed ∙ none in
          let after : 0 < i.cycle = subst (λ (t : ℕ). 0 < t) (sym cycle) later in
          rw (← c.self.view_is) (event_at p.machine g.met.P.Part.laws (wiring_of i) p.state p.now p.wakes i.inputs i.cycle r i.parts
          (kept_of i) c.self.invariant.may.lags c.self.invariant.at (next.event (neither i.changed i.cycle fresh after) before));
      quiet = λ less.
          let later : i.cycle < r = subst (λ (t : ℕ). t < r) (sym cycle) less in
          let still = unchanged i.changed i.cycle r next.stays later in
          rw (← c.self.view_is) (stretch_until p.machine g.met.P.Part.laws (wiring_of i) p.state p.now p.wakes i.inputs i.cycle r i.parts (kept_of i)
          c.self.invariant.may.lags c.self.invariant.at still.0 still.1 next.from next.within next.late next.silent);
    }
