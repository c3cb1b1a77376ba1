use Rattle.std.proofs.Common.{◌∙◌}
use Rattle.board_live.proofs.LiveLemmas.{played_none}
use Rattle.board_live.proofs.live.LiveBoard.open.Goals as goal

pub invariant_of-result : goal.invariant_of-result
invariant_of-result g c = played_none g.P.Part c.args.board c.of-start.result.value c.requires.cycle c.requires.before c.requires.inputs (c.of-start.ensures ∙ c.parts.ensures)
