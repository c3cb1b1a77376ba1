-- Which pins the SPI asks for something.
use Rattle.std.proofs.Common.{◌≡◌, ◌∙◌, ℕ, Bool, true, false, not, ap, arith, refl, sym}
use Rattle.std.specs.Prelude.{if◌then◌else◌, ◌==◌}
use Rattle.avr_unit.specs.UnitMachine.{At}
use Rattle.avr_unit.specs.Placed.{SameBut, placed_same}
use Rattle.avr_unit.proofs.HullLemmas.{outside}
use Rattle.avr_spi.specs.Shifter.{differ, shifted}
use Rattle.avr_spi.specs.SpiReach.{spi_placed}
use Rattle.avr_spi.specs.Spi.{Spi, spi, is_selected, deselected, looked, stepped}

-- so what changes it changes nothing of others
pub spi_same : (new old : Spi) → SameBut spi (record { from = 11; to = 14 }) new old
spi_same = placed_same spi (record { from = 11; to = 14 }) spi_placed

keeps_clock : (new old : Spi) → new.spcr ≡ old.spcr → new.shifter.mosi ≡ old.shifter.mosi → SameBut spi (record { from = 13; to = 14 }) new old
keeps_clock new old control mosi p less out = rw (control, mosi, clock) refl
  where
    clock : (p == 13) ≡ false
    clock = outside 13 14 13 p out (omega arith) (omega arith)

same : (a b : Bool) → not (differ a b) ≡ true → b ≡ a
same true true h = refl
same true false h = cc
same false true h = cc
same false false h = refl

-- A cycle moves SCK alone, where SS ends no master mode and MOSI keeps its bit.
shift_moves : (u : Spi) (t : ℕ) (before now bit keeps : Bool) → is_selected u t before now ≡ false → keeps ≡ not (differ u.shifter.mosi (shifted u.shifter u.shifter.transfer t bit).mosi) →
    SameBut spi (if keeps then record { from = 13; to = 14 } else record { from = 11; to = 14 }) (stepped u t before now bit) u
shift_moves u t before now bit false none is = spi_same (stepped u t before now bit) u
shift_moves u t before now bit true none is = by (is_selected u t before now) none
  where
    after : Bool → Spi
    after selected = if selected then deselected (looked u t) t else record (looked u t) { shifter = shifted u.shifter u.shifter.transfer t bit }

    by : (selected : Bool) → selected ≡ false → SameBut spi (record { from = 13; to = 14 }) (after selected) u
    by true h = cc
    by false h = keeps_clock (after false) u refl (same _ _ (sym is))

-- the same of what the struct shows of its fields, v, where s is what the caller knows
pub step_moves : (v s : At Spi) → v ≡ s → (before now bit keeps : Bool) → is_selected s.unit s.cycle before now ≡ false → keeps ≡ not (differ v.unit.shifter.mosi (shifted v.unit.shifter v.unit.shifter.transfer v.cycle bit).mosi) →
    SameBut spi (if keeps then record { from = 13; to = 14 } else record { from = 11; to = 14 }) (stepped s.unit s.cycle before now bit) s.unit
step_moves v s eq before now bit keeps none is = shift_moves s.unit s.cycle before now bit keeps none
    (is ∙ ap (λ (x : At Spi). not (differ x.unit.shifter.mosi (shifted x.unit.shifter x.unit.shifter.transfer x.cycle bit).mosi)) eq)
