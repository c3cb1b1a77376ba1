use Rattle.net_resolve.proofs.Common.{◌≡◌, ◌+◌, ◌<◌, ◌∙◌, ℕ, List, Bool, length, Some, ap, sym, arith, true, get_or, length-set, slice_get, slice_set, Drive}
use Rattle.net_resolve.proofs.Common.{get_within, IsWatch, unlike, differing, Watch}
use Rattle.sim_base.specs.declared.signal.Drive.TheVariants as drives
use Rattle.net_resolve.proofs.RightLemmas.{set_same}
use Rattle.net_resolve.proofs.WatchLemmas.{differing_at, differing_other, unlike_most}
use Rattle.net_resolve.proofs.watch.Watch.note.Goals as goal

-- at how many other pins than one that is watched they differ
others : (w : Watch) (ds : List Drive) (pin : ℕ) (flag : Bool) (kept : Drive) → IsWatch ds w → pin < length ds → flag ≡ get_or w.watched.items pin flag → flag ≡ true → kept ≡ get_or w.kept.items pin kept →
    (n : ℕ) × (n < length ds) × (w.differing ≡ n + unlike kept (get_or ds pin drives.Z)) × ((d : Drive) → differing w.watched.items w.kept.items (slice_set ds pin d) ≡ n + unlike kept d)
others w ds pin flag kept is inside flagged on there =
    let within : pin < length w.watched.items = omega (arith, inside, is.flags_long) in
    let room : pin < length w.kept.items = omega (arith, inside, is.kept_long) in
    let at : slice_get w.watched.items pin ≡ Some true = get_within w.watched.items pin flag within ∙ ap Some (sym flagged ∙ on) in
    let all = differing_at w.watched.items w.kept.items ds pin at room inside in
    let set = all.2 kept (get_within w.kept.items pin kept room ∙ ap Some (sym there)) in
    (all.0, all.1, is.counted ∙ sym (ap (differing w.watched.items w.kept.items) (set_same ds pin (get_or ds pin drives.Z) (get_within ds pin drives.Z inside))) ∙ set (get_or ds pin drives.Z), set)

pub overflow_sub-self : goal.overflow_sub-self
overflow_sub-self c =
    let all = others c.args.self.now c.args.drives.now c.args.pin c.index.result.now c.index-kept.result.now c.requires.is c.requires.pin c.index.ensures c.if-index.true c.index-kept.ensures in
    omega (arith, all.2, c.unlike.ensures)

pub overflow_add-self : goal.overflow_add-self
overflow_add-self c =
    let all = others c.args.self.now c.args.drives.now c.args.pin c.index.result.now c.index-kept.result.now c.requires.is c.requires.pin c.index.ensures c.if-index.true c.index-kept.ensures in
    let less = all.1 in
    let was = all.2 in
    omega (arith, less, was, c.unlike.ensures, c.unlike-then-index.ensures, unlike_most c.index-kept.result.now c.args.drive, c.requires.is.flags_long, c.len-pins.ensures, c.len-pins.type_inv)

pub returns-then-index-clause-is : goal.returns-then-index-clause-is
returns-then-index-clause-is c =
    let is = c.requires.is in
    let ds = c.args.drives.now in
    let all = others c.args.self.now ds c.args.pin c.index.result.now c.index-kept.result.now is c.requires.pin c.index.ensures c.if-index.true c.index-kept.ensures in
    record {
      flags_long = is.flags_long ∙ sym (length-set ds c.args.pin c.args.drive);
      kept_long = is.kept_long ∙ sym (length-set ds c.args.pin c.args.drive);
      counted = omega (arith, all.2, all.3 c.args.drive, c.unlike.ensures, c.unlike-then-index.ensures);
    }

pub returns-else-index-clause-is : goal.returns-else-index-clause-is
returns-else-index-clause-is c =
    let is = c.requires.is in
    let w = c.args.self.now in
    let within : c.args.pin < length w.watched.items = omega (arith, c.requires.pin, is.flags_long) in
    let off = get_within w.watched.items c.args.pin c.index.result.now within ∙ ap Some (sym c.index.ensures ∙ c.if-index.false) in
    record {
      flags_long = is.flags_long ∙ sym (length-set c.args.drives.now c.args.pin c.args.drive);
      kept_long = is.kept_long ∙ sym (length-set c.args.drives.now c.args.pin c.args.drive);
      counted = is.counted ∙ sym (differing_other w.watched.items w.kept.items c.args.drives.now c.args.pin c.args.drive off);
    }
