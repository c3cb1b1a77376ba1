use Rattle.std.proofs.Common.{◌≡◌, ap, subst}
use Rattle.sim_base.specs.Outside.{Outside}
use Rattle.sim_io.specs.Outcomes.{outcome_of}
use Rattle.live_model.specs.Standing.{opened}
use Rattle.live_project.specs.Start.{setup_of}
use Rattle.cli_serve.specs.Conversed.{Held}
use Rattle.cli_serve.proofs.HeldLemmas.{held_from}
use Rattle.cli_serve.proofs.serving.hold_talk.Goals as goal

pub talk-outcome-requires : goal.talk-outcome-requires
talk-outcome-requires g c = record { may = (c.open-live.ensures.at c.requires.ready.0 c.requires.ready.1 c.requires.ready.2).may }

pub returns : goal.returns
returns g c = record {
  held = λ has plan ready.
      let outside = g.B.Bench.outside in
      let b = setup_of has plan c.args.wave in
      let end = outside c.talk-outcome.new.bench in
      let here : outside c.of-start.result.value ≡ outside c.args.bench.now = ap outside c.of-start.ensures in
      let held : Held b (outside c.args.bench.now) (opened plan.inputs) (outcome_of c.talk-outcome.result) (outside c.open-live.new.bench) end c.args.steps.now c.talk-outcome.new.steps =
      subst (λ (x : Outside). Held b x (opened plan.inputs) (outcome_of c.talk-outcome.result) (outside c.open-live.new.bench) end c.args.steps.now c.talk-outcome.new.steps)
      here (c.talk-outcome.ensures.held b (opened plan.inputs) (c.open-live.ensures.at has plan ready)) in
      held_from b (outside c.args.bench.now) (opened plan.inputs) (outside c.args.bench.now) (outside c.open-live.new.bench) end
      c.open-live.ensures.requests c.args.steps.now c.talk-outcome.new.steps (outcome_of c.talk-outcome.result) held;
}
