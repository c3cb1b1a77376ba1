use Rattle.cli_twin.proofs.Common.{sym, same_pin}
use Rattle.cli_twin.proofs.SharedLemmas.{lengths_differ, pin_means}
use Rattle.cli_twin.proofs.sharing.same_pins.Goals as goal

pub returns-then-a-b : goal.returns-then-a-b
returns-then-a-b c = sym (lengths_differ same_pin pin_means c.args.a.now c.args.b.now c.if-a-b.true)
