-- A cycle without an event, on wires that stay, leaves an SPI slave as it is, and it asks for nothing.
use Rattle.std.proofs.Common.{◌≡◌, ℕ, [], ◌∷◌, Bool, true, false, not, ◌&&◌, if◌then◌else◌, None, ◌==◌, refl, ap, ◌∙◌}
use Rattle.std.proofs.lemmas.Bool.{cond-false}
use Rattle.avr_unit.specs.Coming.{comes}
use Rattle.slave_request.specs.declared.request.EngineRequest.TheVariants as requests
use Rattle.slave_serial.specs.declared.transaction.Wires.{Wires}
use Rattle.slave_serial.specs.declared.transaction.Transaction.{Transaction}
use Rattle.slave_serial.specs.declared.transaction.Transaction.TheVariants.{Idle, Opening, Between, Shifting, Stopped}
use Rattle.slave_serial.specs.declared.transaction.Spi.{Spi}
use Rattle.slave_serial.specs.Spi.{spi, moved, loaded, presents, is_away, next_turn}

-- SCK that stays has no edge
no_edge : (cpha away : Bool) → (if cpha then (away && not away) else (away && not away)) ≡ false
no_edge true true = refl
no_edge true false = refl
no_edge false true = refl
no_edge false false = refl

unmoved : (s : Spi) (x : Transaction) (t : ℕ) (mosi : Bool) → comes (next_turn x) t ≡ false → moved s x t false false mosi ≡ (s, [])
unmoved s Idle t mosi h = refl
unmoved s (Opening b d) t mosi h = cond-false (d == t) (loaded s b false mosi) (s, []) h
unmoved s (Between b) t mosi h = refl
unmoved s (Shifting b x) t mosi h = refl
unmoved s (Stopped n d) t mosi h = cond-false (d == t) (record s { miso = None; transaction = Idle }, requests.Done n ∷ []) (s, []) h

pub rests : (s : Spi) (l : Wires) (t : ℕ) → spi.due s t ≡ false → spi.step s t l l ≡ (s, [])
rests s l t h =
    ap (λ (r : Bool). moved s s.transaction t r (presents s l l) l.mosi) (no_edge s.cpha (is_away s.cpol l.sck))
    ∙ ap (λ (p : Bool). moved s s.transaction t false p l.mosi) (no_edge s.cpha (is_away s.cpol l.sck))
    ∙ unmoved s s.transaction t l.mosi h
