use Rattle.std.proofs.Common.{◌≡◌}
use Rattle.rows_nets.proofs.rows.set_contacts.Given as goal

abbrev pub invariant-loop-contact : goal.invariant-loop-contact
invariant-loop-contact l = l.nets.wiring ≡ l.fn.nets.wiring
