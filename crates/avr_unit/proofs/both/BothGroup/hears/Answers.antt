use Rattle.std.proofs.lemmas.Bool.{or_parts}
use Rattle.avr_unit.specs.Late.{late_state}
use Rattle.avr_unit.proofs.UnheardLemmas.{both_unheard}
use Rattle.avr_unit.proofs.both.BothGroup.hears.Goals as goal

pub returns : goal.returns
returns g c = λ none t h.
    let each = or_parts c.hears.result c.hears-2.result none in
    let first = c.hears.ensures each.0 t h.0 in
    let second = c.hears-2.ensures each.1 t h.1 in
    let s = c.args.self.now in (
      both_unheard g.U.Unit.machine g.G.Group.machine (late_state g.U.Unit.machine (g.U.Unit.shows s.first.unit) t, g.G.Group.state s.second t) t c.args.before.now c.args.now.now first.0 second.0,
      (first.1, second.1),
    )
