use Rattle.board_run.proofs.Common.{◌≡◌, ◌≢◌, ◌+◌, ◌-◌, ◌<◌, ◌≤◌, ℕ, List, length, map, Some, true, false, slice_get, Input, sum_below, active_in, Fits}
use Rattle.board_run.proofs.Common.{IsTold, retold, has_part, AreNone, Awaits, Turns, AreDue, AreLate, given, wiring_of}
use Rattle.board_run.proofs.TurnLemmas.{Begun}
use Rattle.board_run.proofs.engine.Engine.turn.Given as goal

-- the parts before i had their turn, and the others are as they were
abbrev pub invariant-loop-i : goal.invariant-loop-i
invariant-loop-i g l =
    let p = g.P.Part in
    let e = l.fn.self in
    record {
      same : l.self ≡ record l.fn.self { parts = l.self.parts; dues = l.self.dues; answers = l.self.answers; reading = retold e.reading l.self.reading.nets.drives l.self.reading.nets.closed };
      order : l.i ≤ l.least;
      here : l.i < l.least → has_part l.marked l.i ≡ true;
      within : l.least ≤ length e.parts;
      begun : Begun e.parts e.dues l.i l.self.parts l.self.dues l.self.answers;
      due : AreDue p.machine p.state p.now p.wakes l.self.parts l.self.dues;
      late : AreLate l.self.dues e.cycle;
      passed : (k : ℕ) → k < l.least → slice_get l.self.dues k ≢ Some (Some e.cycle);
      turns : (inputs : List Input) (ts : List p.State) → Awaits p.machine (wiring_of e) p.state p.now (given e l.end) inputs e.reading.nets.levels l.differ e.cycle e.parts ts →
          Turns p.machine (wiring_of e) inputs p.state p.now p.wakes e.reading.nets.levels e.cycle ts l.i e.parts l.self.parts l.self.answers l.changed
          × (l.steps ≡ l.fn.steps + sum_below l.i (λ k. active_in p.machine (wiring_of e) inputs e.reading.nets.levels e.cycle k (slice_get ts k)));
      fits : Fits p.machine (wiring_of e) (map p.state l.self.parts);
      told : IsTold p.machine (map p.state l.self.parts) l.self.reading.nets;
      silent : l.sent ≡ false → AreNone l.self.answers;
    }

abbrev pub decreases-loop-i : goal.decreases-loop-i
decreases-loop-i g l = length l.fn.self.parts - l.i
