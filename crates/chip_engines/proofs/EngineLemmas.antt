-- Engines that have no event, on levels that stay, stay as they are and ask for nothing.
use Rattle.std.proofs.Common.{◌≡◌, ℕ, zero, suc, List, [], ◌∷◌, Bool, false, Option, None, Some, refl, ap, sym, subst, ◌∙◌}
use Rattle.std.specs.Prelude.{◌==◌, ◌&&◌, not, IfSome, slice_get, slice_set, replicate}
use Rattle.std.proofs.Math.Bool.{and-true}
use Rattle.std.proofs.lemmas.Bool.{or_parts, cond-false}
use Rattle.sim_base.specs.declared.signal.Level.{Level}
use Rattle.avr_unit.specs.Coming.{comes}
use Rattle.slave_request.specs.declared.request.EngineRequest.{EngineRequest}
use Rattle.slave_serial.specs.declared.transaction.Transaction.{Transaction}
use Rattle.slave_serial.specs.declared.transaction.Transaction.TheVariants.{Idle, Opening, Between, Shifting, Stopped}
use Rattle.slave_serial.specs.Spi.{spi_step, opens_in, is_opening, next_turn}
use Rattle.slave_serial.proofs.UartLemmas as uarts
use Rattle.slave_serial.proofs.SpiLemmas as spis
use Rattle.slave_i2c.proofs.I2cLemmas as i2cs
use Rattle.chip_engines.specs.declared.serial.Serial.{Serial}
use Rattle.chip_engines.specs.declared.serial.Serial.TheVariants as serials
use Rattle.chip_engines.specs.declared.serial.Inputs.{Inputs}
use Rattle.chip_engines.specs.declared.engine.Engine.{Engine}
use Rattle.chip_engines.specs.Serial.{wires_of, lines_of, by, serial_step, serial_due}
use Rattle.chip_engines.specs.Engine.{inputs_of, engine_turned, engine_due, any_engine_due, IsEngine, AreEngines}

-- a transaction that has begun does not begin
begun : (x : Transaction) (t : ℕ) → is_opening x ≡ false → opens_in x t ≡ x
begun Idle t h = refl
begun (Opening b d) t h = absurd cc
begun (Between b) t h = refl
begun (Shifting b x) t h = refl
begun (Stopped n d) t h = refl

pub serial_rests : (s : Serial) (l : Inputs) (t : ℕ) → serial_due s t ≡ false → serial_step s t l l ≡ (s, [])
serial_rests (serials.Uart u) l t h = ap (by serials.Uart) (uarts.rests u l.first t h)
serial_rests (serials.Spi s) l t h =
    let d = or_parts (is_opening s.transaction) (comes (next_turn s.transaction) t) h in
    ap (λ (x : Transaction). by serials.Spi (spi_step (record s { transaction = x }) t (wires_of l) (wires_of l))) (begun s.transaction t d.0)
    ∙ ap (by serials.Spi) (spis.rests s (wires_of l) t d.1)
serial_rests (serials.I2c s) l t h = ap (by serials.I2c) (i2cs.rests s (lines_of l))

-- the turn of an engine in a later cycle than the first one
pub engine_rests : (e : Engine) (t : ℕ) (ls : List Level) → (t == 0) ≡ false → serial_due e.serial t ≡ false → engine_turned e t ls ls ≡ (e, [])
engine_rests e t ls later h =
    let now : Inputs = inputs_of e.pins ls in
    let turned : Inputs → Bool → Engine × List EngineRequest =
    λ (before : Inputs) (first : Bool). (record e { serial = (serial_step e.serial t before now).0; early = e.early && not first }, (serial_step e.serial t before now).1) in
    ap (λ (before : Inputs). turned before (t == 0)) (cond-false (t == 0) (record { first = false; second = false }) now later)
    ∙ ap (λ (first : Bool). turned now first) later
    ∙ ap (λ (b : Bool). (record e { serial = (serial_step e.serial t now now).0; early = b }, (serial_step e.serial t now now).1)) (and-true e.early)
    ∙ ap (λ (p : Serial × List EngineRequest). (record e { serial = p.0 }, p.1)) (serial_rests e.serial now t h)

-- where none is due, that at a place is not
pub none_due : (t : ℕ) (os : List (Option Engine)) (k : ℕ) (e : Engine) → any_engine_due t os ≡ false → slice_get os k ≡ Some (Some e) → serial_due e.serial t ≡ false
none_due t [] k e h at = absurd cc
none_due t (o ∷ os) zero e h at =
    let here : o ≡ Some e = cc in
    subst (λ (x : Option Engine). engine_due t x ≡ false) here (or_parts (engine_due t o) (any_engine_due t os) h).0
none_due t (o ∷ os) (suc k) e h at = none_due t os k e (or_parts (engine_due t o) (any_engine_due t os) h).1 at

-- what stands at a place, put there again, changes nothing
pub set_same : {X : Type 0} (xs : List X) (k : ℕ) (x : X) → slice_get xs k ≡ Some x → slice_set xs k x ≡ xs
set_same [] k x at = refl
set_same (y ∷ ys) zero x at = let here : y ≡ x = cc in ap (λ (z : _). z ∷ ys) (sym here)
set_same (y ∷ ys) (suc k) x at = ap (λ (zs : List _). y ∷ zs) (set_same ys k x at)

-- ---- all of a list are engines that come up

pub engine_at : (os : List (Option Engine)) (k : ℕ) (o : Option Engine) → AreEngines os → slice_get os k ≡ Some o → IfSome o IsEngine
engine_at [] k o h at = absurd cc
engine_at (p ∷ ps) zero o h at = let here : p ≡ o = cc in subst (λ (x : Option Engine). IfSome x IsEngine) here h.0
engine_at (p ∷ ps) (suc k) o h at = engine_at ps k o h.1 at

pub set_engine : (os : List (Option Engine)) (k : ℕ) (o : Option Engine) → AreEngines os → IfSome o IsEngine → AreEngines (slice_set os k o)
set_engine [] k o h new = tt
set_engine (p ∷ ps) zero o h new = (new, h.1)
set_engine (p ∷ ps) (suc k) o h new = (h.0, set_engine ps k o h.1 new)

pub no_engines : (n : ℕ) → AreEngines (replicate n None)
no_engines zero = tt
no_engines (suc n) = (tt, no_engines n)
