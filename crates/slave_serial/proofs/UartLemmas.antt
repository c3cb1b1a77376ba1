-- A cycle without an event, on a line that stays, leaves a UART as it is, and it asks for nothing.
use Rattle.std.proofs.Common.{◌≡◌, ℕ, ◌+◌, ◌-◌, Bool, true, false, Option, None, Some, ◌==◌, refl, ap, ◌∙◌}
use Rattle.std.specs.Prelude.{if◌then◌else◌, ◌++◌, ◌&&◌, []}
use Rattle.std.specs.Option.{option_to_list}
use Rattle.std.proofs.lemmas.Bool.{or_parts, cond-false}
use Rattle.avr_unit.specs.Coming.{comes}
use Rattle.slave_request.specs.declared.request.EngineRequest.{EngineRequest}
use Rattle.slave_request.specs.declared.request.EngineRequest.TheVariants as requests
use Rattle.slave_serial.specs.declared.reception.Reception.{Reception}
use Rattle.slave_serial.specs.declared.sending.Sending.{Sending}
use Rattle.slave_serial.specs.declared.sending.Sending.TheVariants.{Idle, Empty, Start, Bits}
use Rattle.slave_serial.specs.Reception.{received, sampled, taken_in, next_sample}
use Rattle.slave_serial.specs.Sending.{sent, put_out, bit_over, bit_end}
use Rattle.slave_serial.specs.declared.transceiver.Uart.{Uart}
use Rattle.slave_serial.specs.Uart.{uart}

quiet_ear : (o : Option Reception) (bit t : ℕ) (l : Bool) → comes (next_sample o) t ≡ false → received o bit t l l ≡ o
quiet_ear None bit t true h = refl
quiet_ear None bit t false h = refl
quiet_ear (Some r) bit t l h = cond-false (r.sample == t) (sampled r bit t l) (Some r) h

quiet_line : (s : Sending) (bit t : ℕ) → comes (bit_end s) t ≡ false → sent s bit t ≡ s
quiet_line Idle bit t h = refl
quiet_line (Empty d) bit t h = cond-false (d == t) Idle (Empty d) h
quiet_line (Start b d) bit t h = cond-false (d == t) (Bits b (record { byte = 0; place = 0; end = t + bit - 1 })) (Start b d) h
quiet_line (Bits b f) bit t h = cond-false (f.end == t) (bit_over b f bit t) (Bits b f) h

stays : (u : Uart) (l : Bool) (t : ℕ) → uart.due u t ≡ false → (uart.step u t l l).0 ≡ u
stays u l t h =
    let d = or_parts (comes (bit_end u.sending) t) (comes (next_sample u.reception) t) h in
    ap (λ (o : Option Reception). record u { reception = o; sending = sent u.sending u.bit t }) (quiet_ear u.reception u.bit t l d.1)
    ∙ ap (λ (s : Sending). record u { sending = s }) (quiet_line u.sending u.bit t d.0)

hears_none : (o : Option Reception) (t : ℕ) (l : Bool) → comes (next_sample o) t ≡ false → taken_in o t l ≡ None
hears_none None t l h = refl
hears_none (Some r) t l h = ap (λ (b : Bool). if b && (r.place == 9 && l) then Some (requests.Received r.byte) else None) h

asks_none : (s : Sending) (t : ℕ) → comes (bit_end s) t ≡ false → put_out s t ≡ None
asks_none Idle t h = refl
asks_none (Empty d) t h = cond-false (d == t) (Some requests.Sent) None h
asks_none (Start b d) t h = cond-false (d == t) (Some (requests.Fetch b.index)) None h
asks_none (Bits b f) t h = ap (λ (c : Bool). if c && (f.place == 9 && b.index + 1 == b.count) then Some requests.Sent else None) h

pub rests : (u : Uart) (l : Bool) (t : ℕ) → uart.due u t ≡ false → uart.step u t l l ≡ (u, [])
rests u l t h =
    let d = or_parts (comes (bit_end u.sending) t) (comes (next_sample u.reception) t) h in
    let after : (uart.step u t l l).0 ≡ u = stays u l t h in
    ap (λ (v : Uart). (v, option_to_list (taken_in u.reception t l) ++ option_to_list (put_out u.sending t))) after
    ∙ ap (λ (o : Option EngineRequest). (u, option_to_list o ++ option_to_list (put_out u.sending t))) (hears_none u.reception t l d.1)
    ∙ ap (λ (o : Option EngineRequest). (u, option_to_list o)) (asks_none u.sending t d.0)
