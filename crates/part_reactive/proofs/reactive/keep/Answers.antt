use Rattle.sim_base.specs.declared.signal.Level.TheVariants as levels
use Rattle.part_reactive.proofs.KeepLemmas.{both_kept}
use Rattle.part_reactive.proofs.reactive.keep.Goals as goal

pub returns-then-levels-eq2 : goal.returns-then-levels-eq2
returns-then-levels-eq2 c = both_kept levels.Low c.args.held.now c.args.levels.now c.requires c.if-levels-eq2.true
