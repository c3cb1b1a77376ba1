use Rattle.board_run.proofs.Common.{sym, refl, subst, List, [], ℕ, Handed}
use Rattle.board_run.proofs.WakeLemmas.{none_sent}
use Rattle.board_run.proofs.HandLemmas.{handed_nothing}
use Rattle.board_run.proofs.hand.hand_sent.Goals as goal

pub returns-else-sent-clause-none : goal.returns-else-sent-clause-none
returns-else-sent-clause-none g c = (c.requires.silent c.if-sent.false, refl)

pub returns-else-sent-clause-ok : goal.returns-else-sent-clause-ok
returns-else-sent-clause-ok g c = λ ok.
    let o = g.W.Watcher in
    let none = none_sent c.args.answers.now (c.requires.silent c.if-sent.false) in
    subst (λ (bytes : List ℕ). Handed o.whole o.faults o.stands c.args.out.now c.args.out.now [] bytes) (sym none) (handed_nothing o.whole o.faults o.stands c.args.out.now c.requires.whole)
