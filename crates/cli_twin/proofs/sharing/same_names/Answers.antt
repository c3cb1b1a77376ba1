use Rattle.std.proofs.Common.{sym}
use Rattle.cli_twin.proofs.SharedLemmas.{names_differ}
use Rattle.cli_twin.proofs.sharing.same_names.Goals as goal

pub returns-then-a-b : goal.returns-then-a-b
returns-then-a-b c = sym (names_differ c.args.a.now c.args.b.now c.if-a-b.true)
