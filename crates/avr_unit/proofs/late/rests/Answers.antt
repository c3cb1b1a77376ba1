use Rattle.std.proofs.Common.{◌≡◌, ◌<◌, not, Bool, true, false, refl, arith}
use Rattle.avr_unit.proofs.UnheardLemmas.{rests_unheard}
use Rattle.avr_unit.proofs.late.rests.Goals as goal

not_true : (b : Bool) → not b ≡ true → b ≡ false
not_true true h = cc
not_true false h = refl

pub returns-else-due-cycle : goal.returns-else-due-cycle
returns-else-due-cycle g c = λ none.
    let late = c.if-due-cycle.false in
    let less : c.args.cycle < c.args.due = omega (arith, late) in
    rests_unheard g.U.Unit.machine g.met.U.Unit.laws (g.U.Unit.shows c.args.unit.now) c.args.due c.args.cycle c.args.before.now c.args.now.now c.requires.here less
    (c.hears.ensures (not_true c.hears.result none))
