use Rattle.std.proofs.Common.{sym, subst}
use Rattle.wave_lines.specs.Timely.{IsTimely}
use Rattle.wave_lines.proofs.LineLemmas.{time_fits, value_fits, one_of}
use Rattle.wave_lines.proofs.line.read_line.Goals as goal

pub returns-in-Start-clause-fits : goal.returns-in-Start-clause-fits
returns-in-Start-clause-fits c = subst (IsTimely c.args.n c.args.cycle) (sym c.exactly.ensures) (one_of c.args.n c.args.cycle _ _)

pub returns-in-Dump-clause-fits : goal.returns-in-Dump-clause-fits
returns-in-Dump-clause-fits c = subst (IsTimely c.args.n c.args.cycle) (sym c.exactly-in-Dump.ensures) (one_of c.args.n c.args.cycle _ _)

pub returns-in-Ended-clause-fits : goal.returns-in-Ended-clause-fits
returns-in-Ended-clause-fits c = subst (IsTimely c.args.n c.args.cycle) (sym c.read_time.ensures) (time_fits c.args.n c.args.cycle c.args.line.now)

pub returns-in-Changed-clause-fits : goal.returns-in-Changed-clause-fits
returns-in-Changed-clause-fits c = subst (IsTimely c.args.n c.args.cycle) (sym c.read_time-in-Changed.ensures) (time_fits c.args.n c.args.cycle c.args.line.now)

pub returns-in-Initial-2-clause-fits : goal.returns-in-Initial-2-clause-fits
returns-in-Initial-2-clause-fits c = subst (IsTimely c.args.n c.args.cycle) (sym c.read_value.ensures) (value_fits c.args.n c.args.cycle c.args.line.now)
