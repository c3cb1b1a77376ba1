use Rattle.std.proofs.lemmas.Result.{on_ok_weaker}
use Rattle.net_resolve.proofs.CutLemmas.{place_added}
use Rattle.net_resolve.proofs.cut.add_place.Goals as goal

pub returns : goal.returns
returns c = on_ok_weaker c.push.result (place_added c.args.lists.now c.args.key c.args.place c.index-lists-key.result c.push.new.self c.requires) c.push.ensures.ok
