use Rattle.board_run.proofs.Common.{take, length, refl, None, true, or_right, is_at}
use Rattle.board_run.proofs.TurnLemmas.{may_wake}
use Rattle.board_run.proofs.turn.hear_levels.Goals as goal

pub hear-heard-requires-clause-may : goal.hear-heard-requires-clause-may
hear-heard-requires-clause-may g c =
    let p = g.P.Part in
    let x = c.args.part.now in
    may_wake p.machine g.met.P.Part.laws p.state p.now p.wakes c.args.t x c.args.due None (take (length (p.machine.drives (p.state x))) c.args.levels.now) true
    c.requires.may (λ is. c.requires.differs c.if-not-may_hear.false) (or_right (is_at c.args.due c.args.t) _ refl)
