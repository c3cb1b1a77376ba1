use Rattle.net_resolve.proofs.Common.{◌∙◌, map, ap, level_at, NetsView}
use Rattle.net_resolve.proofs.nets.Nets.pin_levels.Goals as goal

pub returns-clause-levels : goal.returns-clause-levels
returns-clause-levels c = c.deref.ensures.value ∙ c.self.invariant.shown.pins ∙ ap (λ (x : NetsView). map (level_at x.levels) x.wiring.net_of) c.self.view_is
