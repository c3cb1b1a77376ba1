use Rattle.board_run.proofs.Common.{ap, arith, subst, List, Input, BoardView}
use Rattle.law_board.specs.Scripts.{SameRun}
use Rattle.board_run.proofs.GiveLemmas.{given_past}
use Rattle.board_run.proofs.board.Board.give.Goals as goal

pub returns-clause-past : goal.returns-clause-past
returns-clause-past g c = λ from n before ss early.
    let w = c.args.self.now.wiring in
    subst (λ (l : List Input). SameRun g.P.Part.machine w l c.give.new.self.inputs before ss from n) (ap (λ (v : BoardView g.row.P.Denot). v.inputs) c.self.view_is)
    (given_past g.P.Part c.give.result c.self.inside.engine c.give.new.self c.args.input c.give.ensures.ok c.give.ensures.err w from n before ss (let later = c.requires.later in omega (arith, early, later)))
