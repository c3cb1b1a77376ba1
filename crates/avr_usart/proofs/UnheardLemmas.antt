-- A change of levels of which the USART takes no notice: RXD does not fall, or nobody listens.
use Rattle.std.proofs.Common.{◌≡◌, ◌∙◌, ℕ, List, [], false, ◌&&◌, not, sym, refl}
use Rattle.std.proofs.lemmas.Bool.{or_parts}
use Rattle.sim_base.specs.declared.signal.Level.{Level}
use Rattle.avr_unit.specs.Coming.{comes}
use Rattle.avr_unit.specs.Unheard.{UnheardFrom}
use Rattle.avr_unit.proofs.UnheardLemmas.{still_unheard}
use Rattle.avr_usart.specs.Receiver.{listens, next_sample}
use Rattle.avr_usart.specs.Transmitter.{bit_end}
use Rattle.avr_usart.specs.Usart.{Usart, usart, rxd, rxen}
use Rattle.avr_usart.specs.UsartLaws.{quiet, quiet_by}

pub usart_unheard : (u : Usart) (t : ℕ) (before now : List Level) → (listens u.receiver.reception (rxen u) && (rxd before && not (rxd now))) ≡ false → UnheardFrom usart u t before now
usart_unheard u t before now none =
    still_unheard usart (λ s t due. quiet s t [] due) u t before now (λ k. record {
      steps = λ due. let d = or_parts (comes (bit_end u.transmitter.frame) k) (comes (next_sample u.receiver.reception) k) due in
          quiet_by u k (rxd before) (rxd now) d.0 d.1 none ∙ sym (quiet u k now due);
      requests = refl;
      rouses = refl;
    })
