use Rattle.std.proofs.Common.{◌∙◌, sym, ap, length}
use Rattle.net_resolve.specs.NetsView.{NetsView}
use Rattle.rows_nets.proofs.rows.resolves.Goals as goal

pub resolve_others-requires-clause-contacts : goal.resolve_others-requires-clause-contacts
resolve_others-requires-clause-contacts c = c.requires.contacts ∙ sym (ap (λ (x : NetsView). length x.wiring.contacts) c.in_ok-nets.ensures)
