use Rattle.part_law.proofs.SpanLemmas.{not_in_span}
use Rattle.trace_run.proofs.StateLemmas.{none_moved}
use Rattle.trace_run.proofs.player.PlayerPart.wake_held.Goals as goal

pub returns-clause-drives : goal.returns-clause-drives
returns-clause-drives c = none_moved c.step.new.self.moved c.args.self.now.player c.step.new.self.player c.step.ensures.others

pub returns-clause-others : goal.returns-clause-others
returns-clause-others c = λ pin out. c.step.ensures.others pin (not_in_span c.step.new.self.moved pin out)
