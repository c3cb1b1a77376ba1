use Rattle.std.proofs.Common.{◌≡◌, ◌≤◌, length, true}
use Rattle.sim_base.specs.Rows.{IsBehind}
use Rattle.rows_texts.proofs.wave.hand_out.Given as goal

abbrev pub invariant-loop-event : goal.invariant-loop-event
invariant-loop-event g l =
    let w = g.W.Watcher in
    record {
      whole : w.whole l.out ≡ true;
      behind : IsBehind w.last w.seen l.out l.least l.before;
      few : length l.before ≤ 65535;
      place : w.place l.out ≡ w.place l.fn.out;
    }
