use Rattle.std.proofs.lemmas.Bool.{or_parts}
use Rattle.avr_unit.specs.Clock.{own_cycle, clocked_at}
use Rattle.avr_unit.proofs.UnheardLemmas.{powered_unheard}
use Rattle.avr_unit.proofs.powered.PoweredGroup.hears.Goals as goal

pub returns : goal.returns
returns g c = λ none t h.
    let each = or_parts c.hears.result c.hears-2.result none in
    let s = c.args.self.now in
    let first = c.hears.ensures each.0 t h.awake in
    let second = c.hears-2.ensures each.1 (own_cycle s.clock t) h.clocked in (
      powered_unheard g.A.Group.machine g.B.Group.machine (g.A.Group.state s.awake t, clocked_at s.clock (g.B.Group.state s.clocked) t) t c.args.before.now c.args.now.now first.0 second.0,
      record { awake = first.1; clocked = second.1; begun = h.begun },
    )
