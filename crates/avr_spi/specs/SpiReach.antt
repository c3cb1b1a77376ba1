-- Which pins the unit asks for something, and of which a write may change that.
use Rattle.std.specs.Prelude.{◌≡◌, ℕ, ◌==◌, Bool, true, false, if◌then◌else◌, Option, None, Some}
use Rattle.std.proofs.Common.{refl, arith, ap, sym, ◌∙◌}
use Rattle.part_law.specs.declared.span.Span.{Span}
use Rattle.part_law.specs.Spans.{no_pins}
use Rattle.avr_unit.specs.Bits.{is_set, with_bit}
use Rattle.avr_unit.specs.Pad.{untouched, valued}
use Rattle.avr_unit.specs.declared.pad.Pad.{Pad}
use Rattle.avr_unit.specs.Placed.{Placed, SameBut, placed_same}
use Rattle.avr_unit.specs.Reach.{Reach, Reaches}
use Rattle.avr_unit.specs.UnitMachine.{at_register}
use Rattle.avr_unit.proofs.HullLemmas.{outside}
use Rattle.avr_spi.specs.Registers.{register_at}
use Rattle.avr_spi.specs.Shifter.{begun, differ, sck, started}
use Rattle.avr_spi.specs.declared.registers.Register.{Register}
use Rattle.avr_spi.specs.declared.registers.Register.TheVariants.{DDRB, SPCR, SPSR, SPDR}
use Rattle.avr_spi.specs.declared.shifter.Transfer.{Transfer}
use Rattle.avr_spi.specs.Spi.{Spi, spi, is_master, accessed, loaded, with_register, kept}

abbrev pub its_pins : Span
its_pins = record { from = 11; to = 14 }

always : (b : Bool) → (if b then untouched else untouched) ≡ untouched
always true = refl
always false = refl

pub spi_placed : Placed spi its_pins
spi_placed u p less out = rw (mosi, miso, clock) (always _)
  where
    mosi : (p == 11) ≡ false
    mosi = outside 11 14 11 p out (omega arith) (omega arith)

    miso : (p == 12) ≡ false
    miso = outside 11 14 12 p out (omega arith) (omega arith)

    clock : (p == 13) ≡ false
    clock = outside 11 14 13 p out (omega arith) (omega arith)

-- What a write of a register moves, by SPCR after it and MOSI before and after it: SPE, MSTR and CPOL of SPCR may move each pin. A byte
-- in SPDR moves MOSI, if its transfer begins with another bit, and leaves SCK where CPHA is 0.
abbrev pub moved_since : Register → ℕ → Bool → Bool → Span
moved_since DDRB spcr before after = no_pins
moved_since SPCR spcr before after = its_pins
moved_since SPSR spcr before after = no_pins
moved_since SPDR spcr before after = if is_set spcr 2 then its_pins else if differ before after then record { from = 11; to = 12 } else no_pins

-- It is the same in each cycle.
abbrev pub moved_by : Spi → Register → ℕ → Span
moved_by u r x = let n = with_register u 0 r x in moved_since r n.spcr u.shifter.mosi n.shifter.mosi

abbrev pub spi_reach : Reach Spi
spi_reach = record {
  writes = λ u a x. at_register (register_at a) no_pins (λ r. moved_by u r x);
  bits = λ u a k x. at_register (register_at a) no_pins (λ r. moved_by u r (with_bit (kept u r) k x));
}

-- what is asked of a pin, by master mode, MOSI and SCK
abbrev asked : Bool → Bool → Bool → ℕ → Pad
asked master mosi clock p =
    if master then
    if p == 11 then valued mosi
    else if p == 12 then record untouched { ddoe = true }
    else if p == 13 then valued clock
    else untouched
    else untouched

other_pin : (master x y clock : Bool) (p : ℕ) → (p == 11) ≡ false → asked master x clock p ≡ asked master y clock p
other_pin master x y clock p other =
    let rest : Pad = if p == 12 then record untouched { ddoe = true } else if p == 13 then valued clock else untouched in
    let by : Bool → Bool → Pad = λ v b. if master then if b then valued v else rest else untouched in
    ap (by x) other ∙ sym (ap (by y) other)

same_bit : (a b : Bool) → differ a b ≡ false → b ≡ a
same_bit true true h = refl
same_bit true false h = cc
same_bit false true h = cc
same_bit false false h = refl

like_itself : (b : Bool) → differ b false ≡ b
like_itself true = refl
like_itself false = refl

module _ (u : Spi) where
  -- a state that differs in MOSI alone
  mosi_alone : (n : Spi) → n.spcr ≡ u.spcr → sck n.shifter.transfer n.spcr ≡ sck u.shifter.transfer u.spcr → SameBut spi (if differ u.shifter.mosi n.shifter.mosi then record { from = 11; to = 12 } else no_pins) n u
  mosi_alone n control clock = by (differ u.shifter.mosi n.shifter.mosi) refl
    where
      master : (mosi : Bool) (p : ℕ) → asked (is_master n.spcr) mosi (sck n.shifter.transfer n.spcr) p ≡ asked (is_master u.spcr) mosi (sck u.shifter.transfer u.spcr) p
      master mosi p = ap (λ (k : ℕ). asked (is_master k) mosi (sck n.shifter.transfer n.spcr) p) control ∙ ap (λ (c : Bool). asked (is_master u.spcr) mosi c p) clock

      by : (b : Bool) → differ u.shifter.mosi n.shifter.mosi ≡ b → SameBut spi (if b then record { from = 11; to = 12 } else no_pins) n u
      by true e p less out =
          let other : (p == 11) ≡ false = outside 11 12 11 p out (omega arith) (omega arith) in
          master n.shifter.mosi p ∙ other_pin (is_master u.spcr) n.shifter.mosi u.shifter.mosi (sck u.shifter.transfer u.spcr) p other
      by false e p less out =
          master n.shifter.mosi p ∙ ap (λ (b : Bool). asked (is_master u.spcr) b (sck u.shifter.transfer u.spcr) p) (same_bit u.shifter.mosi n.shifter.mosi e)

  spdr_moves : (n : Spi) → n.spcr ≡ u.spcr → (is_set u.spcr 2 ≡ false → sck n.shifter.transfer n.spcr ≡ sck u.shifter.transfer u.spcr) →
      SameBut spi (moved_since SPDR u.spcr u.shifter.mosi n.shifter.mosi) n u
  spdr_moves n control clock = by (is_set u.spcr 2) refl
    where
      by : (b : Bool) → is_set u.spcr 2 ≡ b → SameBut spi (if b then its_pins else if differ u.shifter.mosi n.shifter.mosi then record { from = 11; to = 12 } else no_pins) n u
      by true e = placed_same spi its_pins spi_placed n u
      by false e = mosi_alone n control (clock e)

  module _ (t x : ℕ) where
    abbrev first : ℕ → Transfer
    first k = begun (is_set u.spsr 0) u.spcr k x

    abbrev began : Bool → ℕ → Spi
    began master k = let a = accessed u in if master then record a { shifter = started a.shifter (first k) } else a

    loads : (o : Option Transfer) → u.shifter.transfer ≡ o →
        (moved_since SPDR (loaded (accessed u) o t x).spcr u.shifter.mosi (loaded (accessed u) o t x).shifter.mosi ≡ moved_since SPDR (loaded (accessed u) o 0 x).spcr u.shifter.mosi (loaded (accessed u) o 0 x).shifter.mosi)
        × SameBut spi (moved_since SPDR (loaded (accessed u) o 0 x).spcr u.shifter.mosi (loaded (accessed u) o 0 x).shifter.mosi) (loaded (accessed u) o t x) u
    loads (Some y) is = (refl, spdr_moves (loaded (accessed u) (Some y) t x) refl (λ low. refl))
    loads None is = by (is_master u.spcr)
      where
        by : (b : Bool) → (moved_since SPDR (began b t).spcr u.shifter.mosi (began b t).shifter.mosi ≡ moved_since SPDR (began b 0).spcr u.shifter.mosi (began b 0).shifter.mosi)
            × SameBut spi (moved_since SPDR (began b 0).spcr u.shifter.mosi (began b 0).shifter.mosi) (began b t) u
        by true = (
          refl,
          spdr_moves (began true t) refl (λ low.
              ap (λ (b : Bool). differ (is_set u.spcr 3) (differ b false)) low ∙ like_itself (is_set u.spcr 3) ∙ sym (ap (λ (o : Option Transfer). sck o u.spcr) is)),
        )
        by false = (refl, spdr_moves (began false t) refl (λ low. refl))

    pub moved_is : (r : Register) → moved_since r (with_register u t r x).spcr u.shifter.mosi (with_register u t r x).shifter.mosi ≡ moved_by u r x
    moved_is DDRB = refl
    moved_is SPCR = refl
    moved_is SPSR = refl
    moved_is SPDR = (loads u.shifter.transfer refl).0

    moves_these : (r : Register) → SameBut spi (moved_by u r x) (with_register u t r x) u
    moves_these DDRB = λ p less out. refl
    moves_these SPCR = placed_same spi its_pins spi_placed (with_register u t SPCR x) u
    moves_these SPSR = λ p less out. refl
    moves_these SPDR = (loads u.shifter.transfer refl).1

at_moves : (u : Spi) (t : ℕ) (o : Option Register) (x : Register → ℕ) → SameBut spi (at_register o no_pins (λ r. moved_by u r (x r))) (at_register o u (λ r. with_register u t r (x r))) u
at_moves u t None x = λ p less out. refl
at_moves u t (Some r) x = moves_these u t (x r) r

pub spi_reaches : Reaches spi spi_reach
spi_reaches = record {
  writes = λ s t a x. at_moves s t (register_at a) (λ r. x);
  bits = λ s t a k x. at_moves s t (register_at a) (λ r. with_bit (kept s r) k x);
}
