use Rattle.board_run.proofs.Common.{◌∙◌, ap, sym, BoardView}
use Rattle.board_run.proofs.ShowLemmas.{levels_shown}
use Rattle.board_run.proofs.board.Board.levels.Goals as goal

pub returns : goal.returns
returns g c = λ s es.
    let before = ap (λ (v : BoardView g.row.P.Denot). v.before) c.self.view_is in
    c.levels.ensures ∙ sym (levels_shown c.self.inside.engine.cycle c.self.inside.engine.reading s (before ∙ es))
