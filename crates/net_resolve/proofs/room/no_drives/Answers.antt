use Rattle.std.proofs.lemmas.Result.{IfOk-weaker}
use Rattle.net_resolve.proofs.room.no_drives.Goals as goal

pub returns : goal.returns
returns c = record {
  items = IfOk-weaker c.vec.result _ _ (λ v same. same (λ y e. e)) c.vec.ensures.items_if_clones_equal;
  len = c.vec.ensures.len;
}
