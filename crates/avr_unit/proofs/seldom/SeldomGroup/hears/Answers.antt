use Rattle.std.proofs.Common.{◌∙◌}
use Rattle.avr_unit.proofs.seldom.SeldomGroup.hears.Goals as goal

pub returns : goal.returns
returns g c = λ none t h.
    let both = c.hears.ensures none t h.here in
    (both.0, record { here = both.1; due_is = h.due_is; request_is = h.request_is ∙ both.0.requests })
