use Rattle.net_resolve.proofs.Common.{ℕ, ◌∙◌, ap, ◌==◌, ◌&&◌, slice_index, zip, Level, added, weak_level, is_loose, resistors_add}
use Rattle.net_resolve.proofs.levels.sum_areas.Goals as goal

pub returns : goal.returns
returns c = λ a l.
    let groups = c.args.groups.now in
    let strong = c.args.strong.now in
    let areas = c.args.areas.now in
    c.add_weak.ensures a
    ∙ ap (λ (x : Level). added weak_level (λ (n : ℕ). is_loose groups strong n && (slice_index areas n == a)) x (zip c.args.net_of.now c.args.drives.now))
    (c.add_resistors.ensures a ∙ ap (λ (x : Level). resistors_add groups strong areas a x c.args.resistors.now) (c.clear.ensures a l))
