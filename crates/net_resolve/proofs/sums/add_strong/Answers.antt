use Rattle.net_resolve.proofs.Common.{◌+◌, ℕ, drop, ◌∙◌, sym, ap, arith, get_or, ◌==◌, slice_index, zip, Level, sum_at, added, strong_level, together}
use Rattle.sim_base.specs.declared.signal.Drive.TheVariants as drives
use Rattle.net_resolve.proofs.SumLemmas.{sum_set, added_next, added_end}
use Rattle.net_resolve.proofs.sums.add_strong.Goals as goal

pub loop-i-preserved : goal.loop-i-preserved
loop-i-preserved c = λ g.
    let counts = λ (n : ℕ). slice_index c.args.groups.now n == g in
    let i = c.loop-i.i in
    let k = get_or c.args.groups.now (get_or c.args.net_of.now i 0) 0 in
    let sums = c.loop-i.sums in
    let inside = c.requires.groups (get_or c.args.net_of.now i 0) (c.requires.nets i c.loop-i-test.true) in
    let next = added_next strong_level counts (sum_at sums g) c.args.net_of.now c.args.drives.now i c.loop-i-test.true c.requires.pins in
    let here = sum_set sums k g c.sum.result (strong_level (get_or c.args.drives.now i drives.Z)) (omega (arith, inside, c.loop-i.auto.sums))
    (c.sum.ensures ∙ ap (λ (x : Level). together (sum_at sums k) x) c.strong.ensures) in
    ap (λ (x : Level). added strong_level counts x (zip (drop (i + 1) c.args.net_of.now) (drop (i + 1) c.args.drives.now))) here ∙ sym next ∙ c.loop-i.invariant g

pub returns : goal.returns
returns c = λ g.
    sym (added_end strong_level (λ (n : ℕ). slice_index c.args.groups.now n == g) (sum_at c.loop-i.sums g) c.args.net_of.now c.args.drives.now c.loop-i.i c.loop-i-test.false)
    ∙ c.loop-i.invariant g
