use Rattle.net_resolve.proofs.Common.{sym, subst, length, map, ℕ, List, Bool, ◌&&◌, contact_joins, Joins, is_loose, ArePairs}
use Rattle.net_resolve.proofs.AreaLemmas.{joins_unchosen}
use Rattle.net_resolve.proofs.levels.find_areas.Goals as goal

pub join_chosen-requires-clause-pairs : goal.join_chosen-requires-clause-pairs
join_chosen-requires-clause-pairs c = subst (λ (l : List ℕ). ArePairs (length l) c.args.resistors.now) (sym c.copy_from_slice.ensures.after) c.requires.resistors

pub returns-else-put_bridges-clause-joins : goal.returns-else-put_bridges-clause-joins
returns-else-put_bridges-clause-joins c =
    let groups = c.args.groups.now in
    let rs = c.args.resistors.now in
    subst (λ (areas : List ℕ). Joins (contact_joins rs (map (λ r. is_loose groups c.args.strong.now r.0 && is_loose groups c.args.strong.now r.1) rs)) groups areas)
    (sym c.copy_from_slice.ensures.after)
    (subst (λ (bs : List Bool). Joins (contact_joins rs bs) groups groups) c.put_bridges.ensures.bridges
    (joins_unchosen groups rs c.put_bridges.new.bridges c.requires.labels.forest (c.put_bridges.ensures.none c.if-put_bridges.false)))
