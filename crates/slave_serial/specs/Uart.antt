-- A UART, cycle by cycle: 8 data bits, no parity, one stop bit (profile).
use Rattle.std.specs.Prelude.{ℕ, List, ◌∷◌, ◌++◌, Bool, true, false, ◌||◌, None}
use Rattle.std.specs.Option.{option_to_list}
use Rattle.avr_unit.specs.Coming.{comes}
use Rattle.slave_request.specs.declared.request.EngineRequest.{EngineRequest}
use Rattle.slave_request.specs.declared.request.EngineRequest.TheVariants as requests
use Rattle.slave_request.specs.Slave.{SlaveMachine}
use Rattle.slave_serial.specs.declared.sending.Sending.{Sending}
use Rattle.slave_serial.specs.declared.sending.Sending.TheVariants.{Idle}
use Rattle.slave_serial.specs.declared.transceiver.Uart.{Uart}
use Rattle.slave_serial.specs.Reception.{received, taken_in, next_sample, IsBit}
use Rattle.slave_serial.specs.Sending.{sent, put_out, bit_end, begun, given, IsSending}

-- an idle one, whose bits have this many cycles
abbrev pub idle_uart : ℕ → Uart
idle_uart bit = record { bit = bit; reception = None; sending = Idle }

-- One cycle, from what RX read in the cycle before and reads in this one; receiving comes before sending.
abbrev pub uart_step : Uart → ℕ → Bool → Bool → Uart × List EngineRequest
uart_step u t before now = (
  record u { reception = received u.reception u.bit t before now; sending = sent u.sending u.bit t },
  option_to_list (taken_in u.reception t now) ++ option_to_list (put_out u.sending t),
)

-- It has an event in the cycle of each sample, in the first cycle of a frame, and in the last one of each bit that it sends.
abbrev pub uart : SlaveMachine Uart Bool
uart = record {
  step = uart_step;
  due = λ u t. comes (bit_end u.sending) t || comes (next_sample u.reception) t;
}

-- whether `Sent` is still to be asked for
abbrev pub waits_sent : List EngineRequest → Bool
waits_sent (requests.Sent ∷ rs) = true
waits_sent rs = false

-- A call of some bytes in cycle t, while it is idle.
abbrev pub begins : Uart → ℕ → ℕ → Uart
begins u t count = record u { sending = begun count t }

-- that the bits have a length that they may have, and the byte on its way is one of those that are to go
pub record IsUart (u : Uart) : Type 0 where
  pub bit : IsBit u.bit
  pub sends : IsSending u.sending

-- the byte that was fetched
abbrev pub with_byte : Uart → ℕ → Uart
with_byte u x = record u { sending = given u.sending x }
