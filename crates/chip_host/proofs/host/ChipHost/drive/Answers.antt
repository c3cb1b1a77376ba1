use Rattle.std.proofs.Common.{◌≡◌, Option, ap, sym, ◌∙◌}
use Rattle.std.specs.Prelude.{unwrap_or}
use Rattle.sim_base.specs.declared.signal.Drive.{Drive}
use Rattle.chip_engines.specs.Engine.{driven}
use Rattle.chip_host.specs.Inventory.{HostState, pin_at, drive_of}
use Rattle.chip_host.proofs.HostLemmas.{driven_is}
use Rattle.chip_host.proofs.host.ChipHost.drive.Goals as goal

pub returns-in-Some : goal.returns-in-Some
returns-in-Some c =
    let i = c.self.inside in
    let v = c.self.invariant in
    let d = c.args.self.now.inventory in
    let found : c.driven.result ≡ driven c.args.i d.engines =
    driven_is i.engines.items c.as_slice.result.now i.first i.end c.args.i c.from.result c.driven.result c.driven.ensures c.from.ensures c.as_slice.ensures.value v.order v.before v.behind
    ∙ ap (λ (h : HostState). driven c.args.i h.inventory.engines) c.self.view_is in
    ap (λ (o : Option Drive). unwrap_or o (drive_of (pin_at d c.args.i))) (sym c.in-Some.is ∙ found)

pub returns-in-None : goal.returns-in-None
returns-in-None c =
    let i = c.self.inside in
    let v = c.self.invariant in
    let d = c.args.self.now.inventory in
    let found : c.driven.result ≡ driven c.args.i d.engines =
    driven_is i.engines.items c.as_slice.result.now i.first i.end c.args.i c.from.result c.driven.result c.driven.ensures c.from.ensures c.as_slice.ensures.value v.order v.before v.behind
    ∙ ap (λ (h : HostState). driven c.args.i h.inventory.engines) c.self.view_is in
    c.drive_of.ensures ∙ ap drive_of (c.pin.ensures.pin ∙ ap (pin_at d) c.from-in-None.ensures)
    ∙ ap (λ (o : Option Drive). unwrap_or o (drive_of (pin_at d c.args.i))) (sym c.in-None.is ∙ found)
