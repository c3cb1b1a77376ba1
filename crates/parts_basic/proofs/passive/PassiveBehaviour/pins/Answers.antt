use Rattle.std.proofs.Common.{◌≡◌, ℕ, length, ap, sym, ◌∙◌}
use Rattle.parts_basic.specs.Passive.{PassiveState, drives_at, length-drives_at}
use Rattle.parts_basic.proofs.passive.PassiveBehaviour.pins.Goals as goal

pub returns-clause-count : goal.returns-clause-count
returns-clause-count c =
    c.pin_count.ensures.count
    ∙ sym (length-drives_at c.self.inside.kind c.self.inside.value)
    ∙ ap (λ (s : PassiveState). length (drives_at s.kind s.value)) c.self.view_is
