use Rattle.live_request.proofs.WordLemmas.{over}
use Rattle.live_request.proofs.words.is_over.Goals as goal

pub returns : goal.returns
returns c = over c.args.rest c.is_none.result c.is_none.ensures
