use Rattle.std.proofs.Common.{◌∙◌, false, inl, inr, arith, ap, sym}
use Rattle.std.proofs.lemmas.Bool.Decides.{eqb_tells}
use Rattle.avr_core.specs.CoreState.{Core}
use Rattle.avr_mcu.specs.Devices.{Devices, devices, devices_laws}
use Rattle.avr_mcu.specs.Touched.{Touched, bare}
use Rattle.avr_mcu.specs.McuOf.{ready, instructed}
use Rattle.avr_mcu.specs.McuState.{state_of}
use Rattle.avr_mcu.proofs.McuLemmas.{act_is}
use Rattle.avr_mcu.proofs.mcu.act_next.Goals as goal

pub returns-clause-acted : goal.returns-clause-acted
returns-clause-acted c = λ done.
    let a = c.args in
    let did = c.instruct_on in
    act_is devices devices_laws a.flash.now a.core.now did.new.core a.cycle did.result a.units.now did.new.units a.cycle false
    (did.ensures.done done ∙ ap (λ (x : Touched Devices). instructed devices a.flash.now a.core.now (bare x)) c.begin.ensures)
    ((did.ensures.leads done).held ∙ ap (λ (x : Touched Devices). x.held) c.begin.ensures) c.requires.here
    (omega arith) (sym c.requires.passes) (ap (λ x. ready x false) c.requires.runs)

pub returns-clause-here : goal.returns-clause-here
returns-clause-here c =
    let same = ap (λ (x : Touched Devices). x.cycle) c.begin.ensures ∙ c.requires.here in
    elim (eqb_tells c.instruct_on.result 0) [
      | inl e ↦ ap (λ (x : Touched Devices). x.cycle) (c.instruct_on.ensures.units_left e.0) ∙ same
      | inr e ↦ (c.instruct_on.ensures.leads e.0).cycle ∙ same
    ]

pub returns-clause-pads : goal.returns-clause-pads
returns-clause-pads c = λ p l out.
    let same = ap (λ (x : Touched Devices). devices.pad x.units.devices p) c.begin.ensures in
    elim (eqb_tells c.instruct_on.result 0) [
      | inl e ↦ ap (λ (x : Touched Devices). devices.pad x.units.devices p) (c.instruct_on.ensures.units_left e.0) ∙ same
      | inr e ↦ ((c.instruct_on.ensures.leads e.0).steady p l out).1 ∙ same
    ]

pub returns-clause-left : goal.returns-clause-left
returns-clause-left c = λ e.
    let a = c.args in
    ap (λ (k : Core). state_of a.flash.now k a.cycle c.instruct_on.new.units) (c.instruct_on.ensures.core_left e)
    ∙ ap (λ (x : Touched Devices). state_of a.flash.now a.core.now a.cycle x) (c.instruct_on.ensures.units_left e ∙ c.begin.ensures)
