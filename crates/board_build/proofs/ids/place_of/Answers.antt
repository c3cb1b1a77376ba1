use Rattle.board_build.proofs.IdLemmas.{placed}
use Rattle.std.proofs.Common.{◌∙◌}
use Rattle.board_build.proofs.ids.place_of.Goals as goal

pub returns : goal.returns
returns c = c.get_index_of.ensures.index ∙ placed c.bytes.result.now c.args.id.now c.args.ids.now.keys c.bytes.ensures
