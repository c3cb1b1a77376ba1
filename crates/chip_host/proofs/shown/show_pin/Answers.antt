use Rattle.chip_host.proofs.shown.show_pin.Goals as goal

pub returns-else-is_same-clause-moved : goal.returns-else-is_same-clause-moved
returns-else-is_same-clause-moved c = λ k out. let w = c.with_pin.ensures k out in (w.0, λ e. absurd (w.1 e))
