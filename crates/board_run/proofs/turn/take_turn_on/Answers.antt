use Rattle.std.proofs.Common.{◌∙◌, sym}
use Rattle.board_run.proofs.TurnLemmas.{may_wake}
use Rattle.board_run.proofs.turn.take_turn_on.Goals as goal

pub wake_late-requires-clause-active : goal.wake_late-requires-clause-active
wake_late-requires-clause-active g c =
    let p = g.P.Part in
    may_wake p.machine g.met.P.Part.laws p.state p.now p.wakes c.args.t c.args.part.now c.args.due.now c.args.input c.args.own.now c.args.differs
    c.requires.may c.requires.differs (sym c.is_to_wake.ensures ∙ c.if-is_to_wake.true)
