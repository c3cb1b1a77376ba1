use Rattle.std.proofs.Common.{ap}
use Rattle.trace_run.specs.PlayerAt.{PlayerAt}
use Rattle.trace_run.proofs.StateLemmas.{settled, next_later, past_later}
use Rattle.trace_run.proofs.player.PlayerPart.settle.Goals as goal

pub invariant_of-self : goal.invariant_of-self
invariant_of-self c =
    let inv = c.self.invariant in
    let is = ap (λ (p : PlayerAt). p.player) c.self.view_is in
    record {
      few = inv.few;
      rows = inv.rows;
      counts = past_later _ c.args.self.now.player c.args.to c.self.inside.counts is c.requires.later c.requires.quiet inv.counts;
      next = next_later _ c.args.self.now.player c.args.to c.self.inside.next is c.requires.later c.requires.quiet inv.next;
      end = c.requires.end;
    }

pub returns-clause-state : goal.returns-clause-state
returns-clause-state c = settled _ c.args.self.now.player c.args.to (ap (λ (p : PlayerAt). p.player) c.self.view_is) c.requires.later
