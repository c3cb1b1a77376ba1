use Rattle.std.proofs.Common.{◌∙◌, ap, sym, subst}
use Rattle.vcd_text.specs.Heads.{HeadState}
use Rattle.vcd_text.specs.Variables.{variables_of}
use Rattle.vcd_text.specs.Chains.{PinsRest}
use Rattle.vcd_text.specs.Pins.{drive_as_kept}
use Rattle.vcd_text.proofs.PinLemmas.{pins_rest}
use Rattle.vcd_text.proofs.head.WaveHead.pins_rest.Goals as goal

pub returns : goal.returns
returns c = λ on levels.
    let i = c.self.inside in
    let v = c.self.invariant in
    let drives = c.args.drives.now in
    subst (λ (x : HeadState). PinsRest x.variables x.values levels drives) c.self.view_is
    (pins_rest i.pins.items (variables_of i.variables) i.values.items levels drives v.among v.kept (ap (drive_as_kept drives) (sym c.deref.ensures.value) ∙ sym c.drive_as_kept.ensures ∙ on))
