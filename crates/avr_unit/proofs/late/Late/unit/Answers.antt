use Rattle.std.proofs.Common.{refl}
use Rattle.avr_unit.proofs.UnitLemmas.{late_quiet}
use Rattle.avr_unit.proofs.late.Late.unit.Goals as goal

pub returns : goal.returns
returns g c = λ l t h.
    let s = c.args.self.now in
    record { lags = h.late.lags; quiet = late_quiet g.U.Unit.machine (g.U.Unit.shows s.unit) s.due t h.late; state = refl }
