use Rattle.net_resolve.proofs.Common.{◌∙◌, sym, ap, arith, get_or, Some, get_within, drive_means}
use Rattle.sim_base.specs.declared.signal.Drive.TheVariants as drives
use Rattle.net_resolve.proofs.PlaceLemmas.{gathered, from_more}
use Rattle.net_resolve.proofs.resolution.drive_as_kept.Goals as goal

pub loop-j-preserved : goal.loop-j-preserved
loop-j-preserved c =
    let pins = c.args.pins.now in
    let kept = c.args.kept.now in
    let j = c.loop-j.j in
    let k = get_or pins j 0 in
    let at = get_within pins j 0 c.loop-j-test.true in
    from_more c.args.drives.now kept pins j k (get_or kept j drives.Z) c.loop-j.invariant at (get_within kept j drives.Z (omega (arith, c.loop-j-test.true, c.requires.each)))
    (get_within c.args.drives.now k drives.Z (c.requires.pins j k at) ∙ ap Some (drive_means _ _ (sym c.is_same_drive.ensures ∙ c.if-not-is_same_drive.false)))

pub returns : goal.returns
returns c = λ _. gathered c.args.drives.now c.args.kept.now c.args.pins.now c.loop-j.j c.loop-j-test.false c.requires.each c.loop-j.invariant

pub bounds-drives-pins : goal.bounds-drives-pins
bounds-drives-pins c = c.requires.pins c.loop-j.j _ (get_within c.args.pins.now c.loop-j.j 0 c.loop-j-test.true)
