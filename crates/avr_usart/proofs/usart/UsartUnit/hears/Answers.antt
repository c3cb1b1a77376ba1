use Rattle.std.proofs.Common.{◌∙◌, ◌&&◌, Bool, not, ap, sym}
use Rattle.avr_unit.specs.UnitMachine.{At}
use Rattle.avr_usart.specs.Receiver.{listens}
use Rattle.avr_usart.specs.Usart.{Usart, rxd, rxen}
use Rattle.avr_usart.proofs.UnheardLemmas.{usart_unheard}
use Rattle.avr_usart.proofs.usart.UsartUnit.hears.Goals as goal

pub returns : goal.returns
returns c = λ none.
    let s = c.args.self.now in
    let before = c.args.before.now in
    let now = c.args.now.now in
    let hears = c.listens.ensures ∙ ap (λ (b : Bool). listens c.self.inside.receiver.reception b) c.rxen.ensures ∙ ap (λ (x : At Usart). listens x.unit.receiver.reception (rxen s.unit)) c.self.view_is in
    usart_unheard s.unit s.cycle before now
    (sym (ap (λ (b : Bool). b && (c.rxd.result && not c.rxd-2.result)) hears ∙ ap (λ (b : Bool). listens s.unit.receiver.reception (rxen s.unit) && (b && not c.rxd-2.result)) c.rxd.ensures
    ∙ ap (λ (b : Bool). listens s.unit.receiver.reception (rxen s.unit) && (rxd before && not b)) c.rxd-2.ensures) ∙ none)
