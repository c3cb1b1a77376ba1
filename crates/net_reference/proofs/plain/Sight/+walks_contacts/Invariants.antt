use Rattle.std.proofs.Common.{◌≡◌, ◌-◌}
use Rattle.std.specs.Prelude.{◌||◌, ◌&&◌}
use Rattle.board_model.specs.Walks.{any_below, walk_within}
use Rattle.board_model.specs.Resolve.{contact_joins}
use Rattle.net_reference.proofs.plain.Sight.+walks_contacts.Given as goal

abbrev pub invariant-loop-j : goal.invariant-loop-j
invariant-loop-j l = l.found ≡ (walk_within l.self.nets (contact_joins l.self.contacts.now l.self.closed.now) (l.k - 1) l.n l.m
    || any_below l.j (λ i. walk_within l.self.nets (contact_joins l.self.contacts.now l.self.closed.now) (l.k - 1) l.n i && contact_joins l.self.contacts.now l.self.closed.now i l.m))

abbrev pub decreases-walks_contacts : goal.decreases-walks_contacts
decreases-walks_contacts l = l.k
