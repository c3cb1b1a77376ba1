use Rattle.board_report.proofs.report.write_report_of.Goals as goal

pub returns-then-chips-clause-wrote : goal.returns-then-chips-clause-wrote
returns-then-chips-clause-wrote g c = rw c.if-chips.true (c.write_parts.ensures.next _ _ (c.write_parts-end.ensures.next _ _ c.write_report-end.ensures.wrote))

pub returns-else-chips-clause-wrote : goal.returns-else-chips-clause-wrote
returns-else-chips-clause-wrote g c = rw c.if-chips.false (c.write_parts-end.ensures.next _ _ c.write_report-end.ensures.wrote)
