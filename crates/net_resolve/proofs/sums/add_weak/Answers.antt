use Rattle.net_resolve.proofs.Common.{ℕ, ◌+◌, drop, ◌∙◌, sym, ap, get_or, ◌==◌, ◌&&◌, slice_index, zip, Level, sum_at, added, weak_level, is_loose}
use Rattle.sim_base.specs.declared.signal.Drive.TheVariants as drives
use Rattle.net_resolve.proofs.SumLemmas.{added_next, added_end, added_one}
use Rattle.net_resolve.proofs.sums.add_weak.Goals as goal

pub loop-i-preserved : goal.loop-i-preserved
loop-i-preserved c = λ a.
    let counts = λ (n : ℕ). is_loose c.args.groups.now c.args.strong.now n && (slice_index c.args.areas.now n == a) in
    let i = c.loop-i.i in
    let next = added_next weak_level counts (sum_at c.loop-i.sums a) c.args.net_of.now c.args.drives.now i c.loop-i-test.true c.requires.pins in
    let here = c.add_weak_of.ensures a ∙ added_one weak_level counts (sum_at c.loop-i.sums a) (get_or c.args.net_of.now i 0) (get_or c.args.drives.now i drives.Z) in
    ap (λ (x : Level). added weak_level counts x (zip (drop (i + 1) c.args.net_of.now) (drop (i + 1) c.args.drives.now))) here ∙ sym next ∙ c.loop-i.invariant a

pub returns : goal.returns
returns c = λ a.
    sym (added_end weak_level (λ (n : ℕ). is_loose c.args.groups.now c.args.strong.now n && (slice_index c.args.areas.now n == a)) (sum_at c.loop-i.sums a) c.args.net_of.now c.args.drives.now c.loop-i.i c.loop-i-test.false)
    ∙ c.loop-i.invariant a
