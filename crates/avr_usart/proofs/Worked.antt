-- What the laws of a frame ask for comes about: small cases, worked by the definition itself.
use Rattle.std.proofs.Common.{ℕ, List, [], true, refl}
use Rattle.std.specs.Prelude.{replicate}
use Rattle.sim_base.specs.declared.signal.Level.{Level}
use Rattle.sim_base.specs.declared.signal.Level.TheVariants as levels
use Rattle.avr_unit_model.specs.Life.{Act, Nothing, state}
use Rattle.avr_unit_model.proofs.Cases.{polls, always}
use Rattle.avr_usart.specs.Usart.{Usart, usart, rxen, rxd, stepped}
use Rattle.avr_usart.specs.UsartFrame.{IsLoaded}
use Rattle.avr_usart.specs.UsartReception.{done, IsFalling}

-- 8 cycles a bit, 5 data bits, no parity, one stop bit
idle : Usart
idle = record (usart.reset) { ucsra = 2; ucsrb = 0x18; ucsrc = 0 }

-- the processor polls UCSR0A
frame : IsLoaded (polls 0xC0) idle 0
unfolding polls idle
frame = record { idle = refl; enabled = refl; nothing = refl }

nothing : ℕ → Act
nothing n = Nothing

-- RXD falls in cycle 1
high : List Level
high = replicate 20 levels.High

low : ℕ → List Level
low n = []

falls : Usart
falls = stepped idle 1 (rxd high) (rxd [])

reception : IsFalling nothing low idle falls 1 high [] 52
unfolding state nothing low idle falls high
reception = record {
  idle = refl;
  high = refl;
  low = refl;
  enabled = λ n le. always (λ n. rxen (done nothing low idle falls 1 n)) true 52 n refl le;
}
