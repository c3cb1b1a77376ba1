-- One cycle of an SPI with a transfer on the way.
use Rattle.std.specs.Prelude.{◌≡◌, ℕ, ◌==◌, ◌&&◌, ◌||◌, not, Bool, true, false, if◌then◌else◌, Option, None, Some}
use Rattle.std.proofs.Common.{refl, ap, sym, ◌∙◌}
use Rattle.std.proofs.lemmas.Bool.{and_left, cond-true, cond-false}
use Rattle.avr_unit.specs.Bits.{is_set, with_bit}
use Rattle.avr_unit.specs.Coming.{comes}
use Rattle.avr_unit.specs.UnitMachine.{at_register}
use Rattle.avr_spi.specs.declared.registers.Register.{Register}
use Rattle.avr_spi.specs.declared.registers.Register.TheVariants.{DDRB, SPCR, SPSR, SPDR}
use Rattle.avr_spi.specs.declared.shifter.Transfer.{Transfer}
use Rattle.avr_spi.specs.declared.shifter.Shifter.{Shifter}
use Rattle.avr_spi.specs.Registers.{register_at}
use Rattle.avr_spi.specs.Shifter.{begun, started, acted as moved, shifted}
use Rattle.avr_spi.specs.Spi.{Spi, spi, is_master, is_selected, looked, deselected, stepped, accessed, after_read, loaded, with_register, kept}
use Rattle.avr_unit_model.specs.Life.{Act, Nothing, Read, Write, WriteBit, Enter, acted}

-- what the processor does to the shift register while a transfer is on the way: at most it clears SPIF
pub record IsKept (old new : Shifter) : Type 0 where
  pub transfer : new.transfer ≡ old.transfer
  pub mosi : new.mosi ≡ old.mosi
  pub buffer : new.buffer ≡ old.buffer
  pub clear : old.spif ≡ false → new.spif ≡ false

same : (s : Shifter) → IsKept s s
same s = record { transfer = refl; mosi = refl; buffer = refl; clear = λ h. h }

kept_access : (v : Spi) → IsKept v.shifter (accessed v).shifter
kept_access v = record { transfer = refl; mosi = refl; buffer = refl; clear = λ h. and_left v.shifter.spif (not v.seen) h }

kept_read : (v : Spi) (o : Option Register) → IsKept v.shifter (at_register o v (after_read v)).shifter
kept_read v None = same v.shifter
kept_read v (Some DDRB) = same v.shifter
kept_read v (Some SPCR) = same v.shifter
kept_read v (Some SPSR) = same v.shifter
kept_read v (Some SPDR) = kept_access v

kept_load : (v : Spi) (o : Option Transfer) (t x : ℕ) (y : Transfer) → o ≡ Some y → IsKept v.shifter (loaded (accessed v) o t x).shifter
kept_load v None t x y e = absurd (cc)
kept_load v (Some z) t x y e = kept_access v

kept_write : (v : Spi) (t : ℕ) (o : Option Register) (x : Register → ℕ) (y : Transfer) → v.shifter.transfer ≡ Some y →
    is_master (at_register o v (λ r. with_register v t r (x r))).spcr ≡ true → IsKept v.shifter (at_register o v (λ r. with_register v t r (x r))).shifter
kept_write v t None x y e h = same v.shifter
kept_write v t (Some DDRB) x y e h = same v.shifter
kept_write v t (Some SPCR) x y e h = record { transfer = cond-true (is_master (x SPCR)) v.shifter.transfer None h; mosi = refl; buffer = refl; clear = λ h. h }
kept_write v t (Some SPSR) x y e h = same v.shifter
kept_write v t (Some SPDR) x y e h = kept_load v v.shifter.transfer t (x SPDR) y e

pub kept_act : (v : Spi) (t : ℕ) (a : Act) (y : Transfer) → v.shifter.transfer ≡ Some y → is_master (acted spi v t a).spcr ≡ true → IsKept v.shifter (acted spi v t a).shifter
kept_act v t Nothing y e h = same v.shifter
kept_act v t (Read a) y e h = kept_read v (register_at a)
kept_act v t (Write a x) y e h = kept_write v t (register_at a) (λ r. x) y e h
kept_act v t (WriteBit a k b) y e h = kept_write v t (register_at a) (λ r. with_bit (kept v r) k b) y e h
kept_act v t (Enter w) y e h = record { transfer = refl; mosi = refl; buffer = refl; clear = λ h. and_left v.shifter.spif (not (w == 17)) h }

-- SS ends nothing where it is an output or not Low
not_selected : (m output now falls : Bool) → (not output && now) ≡ false → ((m && not output) && (now && falls)) ≡ false
not_selected true true now falls h = refl
not_selected false true now falls h = refl
not_selected true false false falls h = refl
not_selected false false false falls h = refl
not_selected m false true falls h = absurd (cc)

pub one_cycle : (v : Spi) (t : ℕ) (before now in_bit : Bool) → (not (is_set v.ddrb 2) && now) ≡ false →
    stepped v t before now in_bit ≡ record (looked v t) { shifter = shifted v.shifter v.shifter.transfer t in_bit }
one_cycle v t before now in_bit h =
    cond-false (is_selected v t before now) (deselected (looked v t) t) (record (looked v t) { shifter = shifted v.shifter v.shifter.transfer t in_bit })
    (not_selected (is_master v.spcr) (is_set v.ddrb 2) now (comes v.look t || not before) h)

written_spcr : (u : Spi) (b : Bool) (s : Shifter) → (if b then record (accessed u) { shifter = s } else accessed u).spcr ≡ u.spcr
written_spcr u true s = refl
written_spcr u false s = refl

written_ddrb : (u : Spi) (b : Bool) (s : Shifter) → (if b then record (accessed u) { shifter = s } else accessed u).ddrb ≡ u.ddrb
written_ddrb u true s = refl
written_ddrb u false s = refl

-- the cycle in which SPDR is written
module _ (u : Spi) (t x : ℕ) (idle : u.shifter.transfer ≡ None) where
  abbrev pub first : Transfer
  first = begun (is_set u.spsr 0) u.spcr t x

  abbrev pub with_transfer : Spi
  with_transfer = record (accessed u) { shifter = started (accessed u).shifter first }

  written : with_register u t SPDR x ≡ (if is_master u.spcr then with_transfer else accessed u)
  written = ap (λ (o : Option Transfer). loaded (accessed u) o t x) idle

  pub was_master : is_master (with_register u t SPDR x).spcr ≡ true → is_master u.spcr ≡ true
  was_master h = ap is_master (sym (ap (λ (v : Spi). v.spcr) written ∙ written_spcr u (is_master u.spcr) (started (accessed u).shifter first))) ∙ h

  pub was_unselected : (now : Bool) → (not (is_set (with_register u t SPDR x).ddrb 2) && now) ≡ false → (not (is_set u.ddrb 2) && now) ≡ false
  was_unselected now h = ap (λ (r : ℕ). not (is_set r 2) && now) (sym (ap (λ (v : Spi). v.ddrb) written ∙ written_ddrb u (is_master u.spcr) (started (accessed u).shifter first))) ∙ h

  pub first_cycle : (before now in_bit : Bool) → is_master u.spcr ≡ true → (not (is_set u.ddrb 2) && now) ≡ false → (first.event == t) ≡ false →
      stepped (with_register u t SPDR x) t before now in_bit ≡ looked with_transfer t
  first_cycle before now in_bit m free later =
      ap (λ (v : Spi). stepped v t before now in_bit) (written ∙ cond-true (is_master u.spcr) with_transfer (accessed u) m)
      ∙ one_cycle with_transfer t before now in_bit free
      ∙ ap (λ (s : Shifter). record (looked with_transfer t) { shifter = s }) (cond-false (first.event == t) (moved with_transfer.shifter first first.phase t in_bit) with_transfer.shifter later)
