use Rattle.std.proofs.Common.{◌≡◌, ◌∙◌, ◌&&◌, not, Bool, nat_lt, ap}
use Rattle.avr_mcu.specs.Devices.{Devices, devices}
use Rattle.avr_mcu.specs.McuOf.{McuAt, ready, enters, starts}
use Rattle.avr_mcu.specs.contracts.mcu.Mcu.{the_view}
use Rattle.avr_mcu.proofs.mcu.Mcu.begins.Goals as goal

pub returns : goal.returns
returns c =
    let i = c.self.inside in
    let v = the_view i in
    let e : c.enters-enters.result ≡ enters devices v.mcu = c.enters-enters.ensures i.flash i.next in
    let s : c.starts-starts.result ≡ starts devices v.mcu v.cycle =
    c.starts-starts.ensures.value ∙ ap (λ x. not (nat_lt v.cycle v.mcu.next) && ready x c.enters-enters.result) c.mode.ensures
    ∙ ap (λ (b : Bool). not (nat_lt v.cycle v.mcu.next) && ready v.mcu.core.mode b) e in
    ap (λ (b : Bool). b && not c.enters-enters.result) s ∙ ap (λ (b : Bool). starts devices v.mcu v.cycle && not b) e
    ∙ ap (λ (x : McuAt Devices). starts devices x.mcu x.cycle && not (enters devices x.mcu)) c.self.view_is
