-- A compare channel's register and pin (data sheet, "Output Compare Unit", "Compare Match Output Unit").
use Rattle.std.specs.Prelude.{ℕ, ◌+◌, ◌==◌, ◌&&◌, ◌||◌, Bool, true, false, not, if◌then◌else◌}
use Rattle.part_law.specs.declared.span.Span.{Span}
use Rattle.part_law.specs.Spans.{no_pins}
use Rattle.avr_unit.specs.Pad.{untouched, valued}
use Rattle.avr_unit.specs.Placed.{hull}
use Rattle.avr_unit.specs.declared.pad.Pad.{Pad}
use Rattle.avr_timer.specs.declared.mode.Kind.{Kind}
use Rattle.avr_timer.specs.declared.mode.Com.{Com}
use Rattle.avr_timer.specs.declared.mode.Com.TheVariants.{Off, Toggle, Clear, Set}
use Rattle.avr_timer.specs.declared.channel.Channel.{Channel}
use Rattle.avr_timer.specs.declared.mode.Mode.{Mode}
use Rattle.avr_timer.specs.declared.counter.Counter.{Counter}
use Rattle.avr_timer.specs.Modes.{is_buffered}

-- a write of OCRnx
abbrev pub ocr_written : Kind → Channel → ℕ → Channel
ocr_written kind ch x = record ch { written = x; active = if is_buffered kind then ch.active else x }

-- A channel leaves the pin to its port with COM 0, and with COM 1 in the PWM modes (profile).
abbrev pub has_pin : Kind → Com → Bool
has_pin kind Off = false
has_pin kind Toggle = not (is_buffered kind)
has_pin kind Clear = true
has_pin kind Set = true

abbrev pub compare_pad : Kind → Com → Bool → Pad
compare_pad kind how latch = if has_pin kind how then valued latch else untouched

-- what the timer with OCnA and OCnB on these Uno pins asks of a pin
abbrev pub compare_pads : ℕ → ℕ → Mode → Counter → ℕ → Pad
compare_pads oca ocb m c pin =
    if pin == oca then compare_pad m.kind m.com_a c.a.latch
    else if pin == ocb then compare_pad m.kind m.com_b c.b.latch
    else untouched

-- The pin of a channel, where the channel has it and its latch was another before.
abbrev pub turned_pin : Kind → Com → Bool → Bool → ℕ → Span
turned_pin kind how before latch pin =
    if has_pin kind how && ((before && not latch) || (not before && latch)) then record { from = pin; to = pin + 1 } else no_pins

-- those of both channels, with those between, where the latches were these before
abbrev pub turned_pins : ℕ → ℕ → Mode → Bool → Bool → Counter → Span
turned_pins oca ocb m a b c = hull (turned_pin m.kind m.com_a a c.a.latch oca) (turned_pin m.kind m.com_b b c.b.latch ocb)
