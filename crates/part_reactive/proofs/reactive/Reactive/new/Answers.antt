use Rattle.std.proofs.Common.{◌≡◌, ℕ, List, take, replicate, length, false, ap, ◌∙◌}
use Rattle.std.proofs.lemmas.List.{take-replicate}
use Rattle.sim_base.specs.declared.signal.Level.{Level}
use Rattle.sim_base.specs.declared.signal.Level.TheVariants as levels
use Rattle.part_reactive.specs.ReactiveAt.{ReactiveAt}
use Rattle.part_reactive.proofs.reactive.Reactive.new.Goals as goal

pub returns : goal.returns
returns g c =
    let pins = c.pins-pins.result in
    let held : take pins (replicate 32 levels.Z) ≡ replicate (length (g.B.Behaviour.reaction.drives (g.B.Behaviour.own c.args.behaviour))) levels.Z =
    take-replicate pins 32 levels.Z c.pins-pins.ensures.few ∙ ap (λ (n : ℕ). replicate n levels.Z) c.pins-pins.ensures.count in
    ap (λ (l : List Level). record { behaviour = c.args.behaviour; held = l; cycle = 0; wakes = 0; changed = false }) held
