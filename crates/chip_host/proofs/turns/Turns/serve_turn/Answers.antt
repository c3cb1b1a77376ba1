use Rattle.chip_host.proofs.MovedLemmas.{both_but}
use Rattle.chip_host.proofs.turns.Turns.serve_turn.Goals as goal

pub returns-in_default-clause-drives : goal.returns-in_default-clause-drives
returns-in_default-clause-drives c =
    let a = c.serve_next-by_first in
    let b = c.serve_next-by_second in
    both_but a.result b.result c.both.result c.args.self.now.chip a.new.self.chip b.new.self.chip c.both.ensures a.ensures.drives b.ensures.drives
