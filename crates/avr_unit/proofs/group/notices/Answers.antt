use Rattle.std.proofs.Common.{◌<◌, arith}
use Rattle.avr_unit.proofs.group.notices.Goals as goal

pub returns-else-due-cycle : goal.returns-else-due-cycle
returns-else-due-cycle g c =
    let late = c.if-due-cycle.false in
    let less : c.args.cycle < c.args.due = omega (arith, late) in
    record {
      quiet = λ h. less;
      unheard = λ h. (c.hears.ensures h c.args.cycle c.requires.here).0;
      stands = λ h. (c.hears.ensures h c.args.cycle c.requires.here).1;
    }
