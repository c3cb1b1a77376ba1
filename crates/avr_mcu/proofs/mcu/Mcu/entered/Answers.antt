use Rattle.std.proofs.Common.{◌≡◌, ◌∙◌, ℕ, ◌&&◌, not, Bool, nat_lt, Some, None, ap}
use Rattle.std.specs.Prelude.{if◌then◌else◌}
use Rattle.avr_mcu.specs.Devices.{Devices, devices}
use Rattle.avr_mcu.specs.McuOf.{McuAt, ready, enters, starts}
use Rattle.avr_mcu.specs.Units.{request}
use Rattle.avr_mcu.specs.contracts.mcu.Mcu.{the_view}
use Rattle.avr_mcu.proofs.mcu.Mcu.entered.Goals as goal

pub returns : goal.returns
returns c =
    let i = c.self.inside in
    let v = the_view i in
    let e : c.enters-enters.result ≡ enters devices v.mcu = c.enters-enters.ensures i.flash i.next in
    let s : c.starts-starts.result ≡ starts devices v.mcu v.cycle =
    c.starts-starts.ensures.value ∙ ap (λ x. not (nat_lt v.cycle v.mcu.next) && ready x c.enters-enters.result) c.mode.ensures
    ∙ ap (λ (b : Bool). not (nat_lt v.cycle v.mcu.next) && ready v.mcu.core.mode b) e in
    c.vector_if.ensures ∙ ap (λ (x : ℕ). if c.starts-starts.result && c.enters-enters.result then Some x else None) c.request.ensures
    ∙ ap (λ (b : Bool). if b && c.enters-enters.result then Some (request devices v.mcu.units v.mcu.held) else None) s
    ∙ ap (λ (b : Bool). if starts devices v.mcu v.cycle && b then Some (request devices v.mcu.units v.mcu.held) else None) e
    ∙ ap (λ (x : McuAt Devices). if starts devices x.mcu x.cycle && enters devices x.mcu then Some (request devices x.mcu.units x.mcu.held) else None) c.self.view_is
