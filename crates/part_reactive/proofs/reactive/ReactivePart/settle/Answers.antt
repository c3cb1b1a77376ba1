use Rattle.std.proofs.Common.{ap, ◌-◌}
use Rattle.part_reactive.specs.Reaction.{Reacting}
use Rattle.part_reactive.specs.ReactiveAt.{ReactiveAt}
use Rattle.part_reactive.proofs.StillLemmas.{settles}
use Rattle.part_reactive.proofs.reactive.ReactivePart.settle.Goals as goal

pub returns-clause-state : goal.returns-clause-state
returns-clause-state g c =
    let b = g.B.Behaviour in
    let state : ReactiveAt g.row.B.Denot → Reacting b.Own = λ x. record { own = b.own x.behaviour; held = x.held } in
    settles b.reaction g.met.B.Behaviour.laws _ _ _ _ (c.args.to - c.args.self.now.cycle) (ap state c.self.view_is) (ap (λ (x : ReactiveAt g.row.B.Denot). x.cycle) c.self.view_is) c.self.invariant.agrees c.requires.quiet
