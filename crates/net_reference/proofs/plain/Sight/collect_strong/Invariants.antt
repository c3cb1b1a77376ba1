use Rattle.std.proofs.Common.{◌≡◌, ◌++◌, []}
use Rattle.std.specs.Prelude.{if◌then◌else◌}
use Rattle.std.specs.List.{flat_map}
use Rattle.board_model.specs.Walks.{below}
use Rattle.board_model.specs.Resolve.{reaches, strong_values}
use Rattle.net_reference.proofs.plain.Sight.collect_strong.Given as goal

abbrev pub invariant-loop-m : goal.invariant-loop-m
invariant-loop-m l = l.into.items ≡ l.fn.into.items ++ flat_map (λ m. if reaches l.self.nets l.self.net_of.now l.self.contacts.now l.self.resistors.now l.self.closed.now l.self.drives.now l.n m then strong_values l.self.nets l.self.net_of.now l.self.contacts.now l.self.resistors.now l.self.closed.now l.self.drives.now m else []) (below l.m)
