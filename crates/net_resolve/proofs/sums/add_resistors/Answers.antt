use Rattle.net_resolve.proofs.Common.{◌+◌, drop, ◌∙◌, sym, ap, get_or, arith, Level, sum_at, over_adds, resistors_add}
use Rattle.net_resolve.proofs.SumLemmas.{ends_within, resistors_next, resistors_end}
use Rattle.net_resolve.proofs.sums.add_resistors.Goals as goal

pub loop-i-preserved : goal.loop-i-preserved
loop-i-preserved c = λ a.
    let strong = c.args.strong.now in
    let areas = c.args.areas.now in
    let r = get_or c.args.resistors.now c.loop-i.i (0, 0) in
    let here = c.add_over-in-loop-i.ensures a ∙ ap (over_adds c.args.groups.now strong areas a r.0 r.1) (c.add_over.ensures a) in
    ap (λ (x : Level). resistors_add c.args.groups.now strong areas a x (drop (c.loop-i.i + 1) c.args.resistors.now)) here
    ∙ sym (resistors_next c.args.groups.now strong areas a (sum_at c.loop-i.sums a) c.args.resistors.now c.loop-i.i c.loop-i-test.true) ∙ c.loop-i.invariant a

pub returns : goal.returns
returns c = λ a.
    sym (resistors_end c.args.groups.now c.args.strong.now c.args.areas.now a (sum_at c.loop-i.sums a) c.args.resistors.now c.loop-i.i c.loop-i-test.false) ∙ c.loop-i.invariant a

pub bounds-resistors-i : goal.bounds-resistors-i
bounds-resistors-i c = c.loop-i-test.true

pub add_over-requires : goal.add_over-requires
add_over-requires c =
    let (a, a_area, b, b_area) = ends_within c.args.groups.now c.args.areas.now _ c.args.resistors.now c.loop-i.i c.requires.resistors c.requires.places c.requires.areas c.loop-i-test.true in
    record { from = b; to = a; groups = c.requires.groups; places = c.requires.places; area = omega (arith, c.loop-i.auto.sums, a_area) }

pub add_over-requires-in-loop-i : goal.add_over-requires-in-loop-i
add_over-requires-in-loop-i c =
    let (a, a_area, b, b_area) = ends_within c.args.groups.now c.args.areas.now _ c.args.resistors.now c.loop-i.i c.requires.resistors c.requires.places c.requires.areas c.loop-i-test.true in
    record { from = a; to = b; groups = c.requires.groups; places = c.requires.places; area = omega (arith, c.loop-i.auto.sums, c.add_over.auto.sums, b_area) }
