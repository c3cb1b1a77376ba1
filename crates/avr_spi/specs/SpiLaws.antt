-- A cycle without an event leaves the SPI as it is, unless SS falls.
use Rattle.std.specs.Prelude.{◌≡◌, ℕ, ◌==◌, Bool, true, false, ◌&&◌, ◌||◌, not, List, Option, Some, None}
use Rattle.std.proofs.Common.{refl, ap, sym, ◌∙◌}
use Rattle.std.proofs.lemmas.Bool.{or_parts, cond-false}
use Rattle.sim_base.proofs.BoolLemmas.{and_opposite}
use Rattle.sim_base.specs.declared.signal.Level.{Level}
use Rattle.avr_unit.specs.Coming.{comes}
use Rattle.avr_unit.specs.UnitMachine.{Laws, powerless_laws, at_register}
use Rattle.avr_spi.specs.declared.registers.Register.{Register}
use Rattle.avr_spi.specs.declared.registers.Register.TheVariants.{DDRB, SPCR, SPSR, SPDR}
use Rattle.avr_spi.specs.declared.shifter.Transfer.{Transfer}
use Rattle.avr_spi.specs.declared.shifter.Shifter.{Shifter}
use Rattle.avr_spi.specs.Registers.{register_at}
use Rattle.avr_spi.specs.Shifter.{shifted, acted, next_event}
use Rattle.avr_spi.specs.Spi.{Spi, spi, spi_pad, requests, stepped, watches, is_selected, deselected, looked, after_read, ss_low, miso}

quiet_clock : (s : Shifter) (o : Option Transfer) (t : ℕ) (b : Bool) → comes (next_event o) t ≡ false → shifted s o t b ≡ s
quiet_clock s None t b h = refl
quiet_clock s (Some x) t b h = cond-false (x.event == t) (acted s x x.phase t b) s h

-- what SS does is of no effect where it is not looked at and does not fall
unselected : (w before now looks : Bool) → looks ≡ false → (w && (now && not before)) ≡ false → (w && (now && (looks || not before))) ≡ false
unselected w before now true h none = cc
unselected w before now false h none = none

unlooked : (u : Spi) (t : ℕ) → comes u.look t ≡ false → looked u t ≡ u
unlooked u t h = ap (λ (o : Option ℕ). record u { look = o }) (cond-false (comes u.look t) None u.look h)

pub quiet_by : (u : Spi) (t : ℕ) (before now b : Bool) → comes (next_event u.shifter.transfer) t ≡ false → comes u.look t ≡ false →
    (watches u && (now && not before)) ≡ false → stepped u t before now b ≡ u
quiet_by u t before now b h k none =
    cond-false (is_selected u t before now) (deselected (looked u t) t) (record (looked u t) { shifter = shifted u.shifter u.shifter.transfer t b }) (unselected (watches u) before now (comes u.look t) k none)
    ∙ ap (λ (s : Shifter). record (looked u t) { shifter = s }) (quiet_clock u.shifter u.shifter.transfer t b h)
    ∙ unlooked u t k

pub quiet : (u : Spi) (t : ℕ) (l : List Level) → spi.due u t ≡ false → spi.step u t l l ≡ u
quiet u t l h =
    let d = or_parts (comes (next_event u.shifter.transfer) t) (comes u.look t) h in
    quiet_by u t (ss_low l) (ss_low l) (miso l) d.0 d.1 (and_opposite (watches u) (ss_low l))

read_pad : (u : Spi) (o : Option Register) (p : ℕ) → spi_pad (at_register o u (after_read u)) p ≡ spi_pad u p
read_pad u None p = refl
read_pad u (Some DDRB) p = refl
read_pad u (Some SPCR) p = refl
read_pad u (Some SPSR) p = refl
read_pad u (Some SPDR) p = refl

pub spi_laws : Laws spi
spi_laws = record {
  keeps_pad = λ s t l p h. ap (λ (u : Spi). spi_pad u p) (quiet s t l h);
  keeps_requests = λ s t l h. ap requests (quiet s t l h);
  keeps_silent = λ s t h. refl;
  deaf = λ s t l k h. quiet s t l h ∙ sym (quiet s t k h);
  reads_pad = λ s t a p. read_pad s (register_at a) p;
  taken_pad = λ s v p. refl;
  power_laws = powerless_laws spi refl;
}
