use Rattle.std.proofs.Common.{◌≡◌, ◌-◌}
use Rattle.std.specs.Prelude.{◌||◌, ◌&&◌}
use Rattle.board_model.specs.Walks.{any_below, walk_within}
use Rattle.board_model.specs.Resolve.{passes}
use Rattle.net_reference.proofs.plain.Sight.+walks.Given as goal

abbrev pub invariant-loop-j : goal.invariant-loop-j
invariant-loop-j l = l.found ≡ (walk_within l.self.nets (passes l.self.nets l.self.net_of.now l.self.contacts.now l.self.resistors.now l.self.closed.now l.self.drives.now) (l.k - 1) l.n l.m
    || any_below l.j (λ i. walk_within l.self.nets (passes l.self.nets l.self.net_of.now l.self.contacts.now l.self.resistors.now l.self.closed.now l.self.drives.now) (l.k - 1) l.n i && passes l.self.nets l.self.net_of.now l.self.contacts.now l.self.resistors.now l.self.closed.now l.self.drives.now i l.m))

abbrev pub decreases-walks : goal.decreases-walks
decreases-walks l = l.k
