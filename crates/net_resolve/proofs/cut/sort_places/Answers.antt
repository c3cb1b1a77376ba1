use Rattle.std.proofs.Common.{◌≡◌, ◌∙◌, ap, length}
use Rattle.net_resolve.proofs.CutLemmas.{picked_lent}
use Rattle.net_resolve.proofs.cut.sort_places.Goals as goal

pub returns : goal.returns
returns c =
    let kept : length c.add_places.new.lists ≡ length c.in_ok-lists.lists = c.add_places.auto.lists ∙ ap length c.as_mut_slice.ensures.value in
    picked_lent c.args.count c.args.keys.now c.in_ok-lists.lists c.add_places.new.lists kept c.in_ok-lists.ensures.long c.in_ok-add_places.ensures
