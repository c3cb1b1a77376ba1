use Rattle.avr_unit.proofs.UnheardLemmas.{late_unheard, late_stays}
use Rattle.avr_unit.proofs.late.LateGroup.hears.Goals as goal

pub returns : goal.returns
returns g c = λ none t h.
    let m = g.U.Unit.machine in
    let laws = g.met.U.Unit.laws in
    let s = c.args.self.now in
    let un = c.hears.ensures none in (
      late_unheard m laws (g.U.Unit.shows s.unit) s.due t c.args.before.now c.args.now.now h.late un,
      late_stays m laws (g.U.Unit.shows s.unit) s.due t c.args.before.now c.args.now.now h un,
    )
