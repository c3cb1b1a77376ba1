use Rattle.net_resolve.proofs.Common.{◌<◌, ◌∙◌, arith, length, get_within}
use Rattle.net_resolve.proofs.AreaLemmas.{Grouped}
use Rattle.net_resolve.proofs.ResolveLemmas.{levels_are, driven_are}
use Rattle.net_resolve.proofs.levels.Room.resolve.Goals as goal

pub returns-then-put_strong-clause-levels : goal.returns-then-put_strong-clause-levels
returns-then-put_strong-clause-levels c = λ contacts closed grouped.
    let groups = c.args.groups.now in
    let strong = c.sum_groups.new.strong in
    let g : Grouped c.args.net_of.now contacts c.args.resistors.now closed c.args.drives.now groups strong = record {
      groups_are = grouped;
      pins_within = c.requires.nets;
      resistors_within = c.requires.resistors;
      strong_are = λ x (l : x < length groups). c.sum_groups.ensures x (omega (arith, c.as_mut_slice-strong.ensures.len, c.requires.room.strong));
    } in
    c.put_strong.ensures.levels ∙ driven_are c.args.net_of.now contacts c.args.resistors.now closed c.args.drives.now groups strong g (c.put_strong.ensures.driven c.if-put_strong.true)

pub returns-clause-levels : goal.returns-clause-levels
returns-clause-levels c = λ contacts closed grouped.
    let groups = c.args.groups.now in
    let strong = c.sum_groups.new.strong in
    let g : Grouped c.args.net_of.now contacts c.args.resistors.now closed c.args.drives.now groups strong = record {
      groups_are = grouped;
      pins_within = c.requires.nets;
      resistors_within = c.requires.resistors;
      strong_are = λ x (l : x < length groups). c.sum_groups.ensures x (omega (arith, c.as_mut_slice-strong.ensures.len, c.requires.room.strong));
    } in
    c.put_levels.ensures
    ∙ levels_are c.args.net_of.now contacts c.args.resistors.now closed c.args.drives.now groups strong g c.find_areas.new.areas (omega (arith, c.find_areas.auto.areas, c.as_mut_slice-areas.ensures.len, c.requires.room.areas)) c.find_areas.ensures.labels c.find_areas.ensures.joins
    c.sum_areas.new.sums (λ a (l : a < length groups). c.sum_areas.ensures a (omega (arith, c.as_mut_slice-sums.ensures.len, c.requires.room.sums)))

pub sum_groups-requires : goal.sum_groups-requires
sum_groups-requires c = record {
  pins = c.requires.pins;
  nets = λ k l. c.requires.nets k _ (get_within c.args.net_of.now k 0 l);
  groups = λ n l. omega (arith, l, c.requires.labels.forest n, c.as_mut_slice-strong.ensures.len, c.requires.room.strong);
}

pub put_strong-requires : goal.put_strong-requires
put_strong-requires c = record {
  levels = c.requires.levels;
  groups = λ n l. omega (arith, l, c.requires.labels.forest n, c.as_mut_slice-strong.ensures.len, c.requires.room.strong, c.sum_groups.auto.strong);
}

pub find_areas-requires : goal.find_areas-requires
find_areas-requires c = record {
  resistors = c.requires.resistors;
  groups = λ n l. omega (arith, l, c.requires.labels.forest n, c.as_mut_slice-strong.ensures.len, c.requires.room.strong, c.sum_groups.auto.strong);
  labels = c.requires.labels;
  bridges = omega (arith, c.as_mut_slice.ensures.len, c.requires.room.bridges);
  areas = omega (arith, c.as_mut_slice-areas.ensures.len, c.requires.room.areas);
}

pub sum_areas-requires : goal.sum_areas-requires
sum_areas-requires c = record {
  pins = c.requires.pins;
  nets = λ k l. c.requires.nets k _ (get_within c.args.net_of.now k 0 l);
  resistors = c.requires.resistors;
  groups = λ n l. omega (arith, l, c.requires.labels.forest n, c.as_mut_slice-strong.ensures.len, c.requires.room.strong, c.sum_groups.auto.strong);
  places = omega (arith, c.find_areas.auto.areas, c.as_mut_slice-areas.ensures.len, c.requires.room.areas);
  areas = λ n l. omega (arith, l, c.find_areas.ensures.labels.forest n, c.find_areas.auto.areas, c.as_mut_slice-areas.ensures.len, c.requires.room.areas, c.as_mut_slice-sums.ensures.len, c.requires.room.sums);
}

pub put_levels-requires : goal.put_levels-requires
put_levels-requires c = record {
  places = omega (arith, c.find_areas.auto.areas, c.as_mut_slice-areas.ensures.len, c.requires.room.areas);
  levels = c.put_strong.auto.levels ∙ c.requires.levels;
  groups = λ n l. omega (arith, l, c.requires.labels.forest n, c.as_mut_slice-strong.ensures.len, c.requires.room.strong, c.sum_groups.auto.strong);
  areas = λ n l. omega (arith, l, c.find_areas.ensures.labels.forest n, c.find_areas.auto.areas, c.as_mut_slice-areas.ensures.len, c.requires.room.areas, c.as_mut_slice-sums.ensures.len, c.requires.room.sums, c.sum_areas.auto.sums);
}
