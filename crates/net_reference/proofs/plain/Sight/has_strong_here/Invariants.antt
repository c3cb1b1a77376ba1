use Rattle.std.proofs.Common.{◌≡◌, drop}
use Rattle.std.specs.Prelude.{◌||◌, ◌&&◌}
use Rattle.std.specs.List.{list_any, zip}
use Rattle.sim_base.specs.Signal.{strong_of}
use Rattle.board_model.specs.Walks.{leads}
use Rattle.board_model.specs.Resolve.{contact_joins, is_value}
use Rattle.net_reference.proofs.plain.Sight.has_strong_here.Given as goal

abbrev pub invariant-loop-i : goal.invariant-loop-i
invariant-loop-i l = (l.found || list_any (λ p. leads l.self.nets (contact_joins l.self.contacts.now l.self.closed.now) l.n p.0 && is_value l.value (strong_of p.1)) (zip (drop l.i l.self.net_of.now) (drop l.i l.self.drives.now)))
    ≡ list_any (λ p. leads l.self.nets (contact_joins l.self.contacts.now l.self.closed.now) l.n p.0 && is_value l.value (strong_of p.1)) (zip l.self.net_of.now l.self.drives.now)
