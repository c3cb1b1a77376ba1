use Rattle.std.proofs.Common.{◌∙◌, ◌<◌, ◌+◌, ap, arith, length, take, get_or, length-set}
use Rattle.std.proofs.lemmas.Option.{slice_get-get_or}
use Rattle.sim_base.specs.declared.signal.Drive.TheVariants as kinds
use Rattle.board_model.proofs.Lists.{take_set_more}
use Rattle.net_resolve.specs.NetsView.{NetsView}
use Rattle.live_probe.proofs.NetsLemmas.{more_drives}
use Rattle.live_probe.proofs.probe.set_drives.Goals as goal

pub loop-pin-preserved : goal.loop-pin-preserved
loop-pin-preserved c =
    let l = c.loop-pin in
    let told = c.args.drives.now in
    let e = c.set_drive.ensures in
    let x = get_or told l.pin kinds.Z in
    let inside : l.pin < length told = omega (arith, c.loop-pin-test.true, c.drives-pin-end.ensures.pins, c.requires) in
    let there : l.pin < length l.nets.drives = omega (arith, c.loop-pin-test.true, l.invariant.long, ap length c.drives-pin-end.ensures.drives) in
    let now = ap (λ (v : NetsView). v.drives) e in
    record {
      rest = more_drives c.args.nets.now l.nets c.set_drive.new.self _ l.invariant.rest e;
      long = ap length now ∙ length-set l.nets.drives l.pin x ∙ l.invariant.long;
      filled = ap (take (l.pin + 1)) now ∙ take_set_more l.nets.drives told l.pin x there (slice_get-get_or told l.pin kinds.Z inside) l.invariant.filled;
    }
