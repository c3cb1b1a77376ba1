use Rattle.std.proofs.Common.{refl}
use Rattle.cli_bare.proofs.PlanLemmas.{one_fresh}
use Rattle.cli_bare.proofs.uno.make_parts.Goals as goal

pub returns-clause-fresh : goal.returns-clause-fresh
returns-clause-fresh c = rw (c.in_ok-push.ensures.ok, c.new-parts.ensures, c.in_ok-new.ensures) (one_fresh _ refl refl)
