use Rattle.std.proofs.Common.{◌≡◌, ◌++◌}
use Rattle.std.specs.Prelude.{◌&&◌, not}
use Rattle.sim_base.specs.Signal.{is_weak}
use Rattle.board_model.specs.Resolve.{reaches, is_driven}
use Rattle.net_reference.proofs.PlainLemmas.{weak_from}
use Rattle.net_reference.proofs.plain.Sight.collect_weak.Given as goal

abbrev pub invariant-loop-i : goal.invariant-loop-i
invariant-loop-i l = l.into.items ++ weak_from (λ p. reaches l.self.nets l.self.net_of.now l.self.contacts.now l.self.resistors.now l.self.closed.now l.self.drives.now l.n p.0 && not (is_driven l.self.nets l.self.net_of.now l.self.contacts.now l.self.resistors.now l.self.closed.now l.self.drives.now p.0) && is_weak p.1) l.self.net_of.now l.self.drives.now l.i
    ≡ l.fn.into.items ++ weak_from (λ p. reaches l.self.nets l.self.net_of.now l.self.contacts.now l.self.resistors.now l.self.closed.now l.self.drives.now l.n p.0 && not (is_driven l.self.nets l.self.net_of.now l.self.contacts.now l.self.resistors.now l.self.closed.now l.self.drives.now p.0) && is_weak p.1) l.self.net_of.now l.self.drives.now 0
