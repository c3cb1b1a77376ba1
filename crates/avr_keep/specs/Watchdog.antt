-- The watchdog and MCUSR, cycle by cycle (data sheet, "Watchdog Timer", "Reset Sources"; exact cycles are the profile's).
use Rattle.std.specs.Prelude.{ℕ, ◌+◌, ◌*◌, ◌/◌, ◌%◌, ◌^◌, ◌&&◌, ◌||◌, not, nat_le, min, Bool, true, false, if◌then◌else◌, Option, None, Some, is_some, bit_and, bit_or}
use Rattle.avr_unit.specs.Bits.{is_set, one}
use Rattle.avr_unit.specs.Coming.{comes}
use Rattle.avr_keep.specs.declared.watchdog.Watchdog.{Watchdog}

-- While WDRF is set WDE counts as set ("WDE: Watchdog System Reset Enable").
abbrev pub has_wdrf : Watchdog → Bool
has_wdrf w = is_set w.mcusr 3

abbrev pub is_wde : Watchdog → Bool
is_wde w = w.wde || has_wdrf w

-- Either enables it ("Watchdog Timer Configuration").
abbrev pub runs : Watchdog → Bool
runs w = is_wde w || w.wdie

-- WDP3:0: 16 ms at 0, twice that at each further number up to 9, 8.192 s (profile: a time-out of 2,048 clocks of
-- 128 kHz is 256,000 cycles; the reserved numbers count as 9).
abbrev pub period : Watchdog → ℕ
period w = 256000 * 2 ^ min w.wdp 9

-- It times out one period after the last WDR, the last time-out or its start: where a shorter period is chosen, and that
-- has passed, at once ("a change in the WDP bits can result in a time-out").
abbrev pub times_out : Watchdog → ℕ → Bool
times_out w t = runs w && nat_le (w.since + period w) t

-- With WDIE a time-out sets WDIF, and else it resets.
abbrev pub resets : Watchdog → ℕ → Bool
resets w t = times_out w t && not w.wdie

-- a window of four cycles ends in the step of its last one
abbrev pub open_after : Option ℕ → ℕ → Option ℕ
open_after window t = if comes window t then None else window

abbrev pub timed_out : Watchdog → ℕ → Watchdog
timed_out w t =
    if times_out w t then record w {
      since = t;
      wdif = w.wdif || w.wdie;
      reset_at = if w.wdie then w.reset_at else Some (t + 1);
    }
    else w

-- One cycle.
abbrev pub watchdog_step : Watchdog → ℕ → Watchdog
watchdog_step w t = let a = timed_out w t in record a { window = open_after a.window t }

-- the window ends, or the time is out
abbrev pub watchdog_due : Watchdog → ℕ → Bool
watchdog_due w t = comes w.window t || times_out w t

-- whether it stands behind a step that ended in a reset
abbrev pub has_reset : Watchdog → ℕ → Bool
has_reset w t = comes w.reset_at t

-- it counts anew where it begins to run
abbrev pub begun : Watchdog → Watchdog → ℕ → Watchdog
begun old w t = record w { since = if runs old then old.since else t }

-- WDP3 is bit 5, WDP2:0 are bits 2:0.
abbrev pub wdp_of : ℕ → ℕ
wdp_of x = x / 32 % 2 * 8 + x % 8

-- Every write sets WDIE and clears WDIF by 1. One with WDCE and WDE sets WDE and opens a window of the next four cycles; the
-- first one in it with WDCE 0 sets WDE and WDP and closes it; another may set WDE and not clear it ("Timed Sequences").
abbrev pub interrupts_set : Watchdog → ℕ → Watchdog
interrupts_set w x = record w { wdif = w.wdif && not (is_set x 7); wdie = is_set x 6 }

abbrev pub changed : Watchdog → ℕ → ℕ → Watchdog
changed w t x =
    if is_set x 4 && is_set x 3 then record w { wde = true; window = Some (t + 4) }
    else if is_some w.window && not (is_set x 4) then record w { wde = is_set x 3; wdp = wdp_of x; window = None }
    else record w { wde = w.wde || is_set x 3 }

abbrev pub with_wdtcsr : Watchdog → ℕ → ℕ → Watchdog
with_wdtcsr w t x = begun w (changed (interrupts_set w x) t x) t

-- WDIE, WDP3:0 and WDE
abbrev pub wdtcsr_kept : Watchdog → ℕ
wdtcsr_kept w = 64 * one w.wdie + w.wdp / 8 * 32 + 8 * one (is_wde w) + w.wdp % 8

abbrev pub wdtcsr : Watchdog → ℕ
wdtcsr w = 128 * one w.wdif + 16 * one (is_some w.window) + wdtcsr_kept w

-- Writing 0 clears a flag of MCUSR, and writing 1 does nothing.
abbrev pub with_mcusr : Watchdog → ℕ → Watchdog
with_mcusr w x = record w { mcusr = bit_and w.mcusr x }

-- WDR ("Watchdog Reset", AVR Instruction Set Manual)
abbrev pub wdr : Watchdog → ℕ → Watchdog
wdr w t = record w { since = t }

-- Entering its vector clears WDIF, and WDIE where WDE is set ("WDIE: Watchdog Interrupt Enable").
abbrev pub watchdog_taken : Watchdog → Watchdog
watchdog_taken w = record w { wdif = false; wdie = w.wdie && not (is_wde w) }

-- after reset by power: PORF
abbrev pub watchdog_reset : Watchdog
watchdog_reset = record { mcusr = 1; wdif = false; wdie = false; wde = false; wdp = 0; window = None; since = 0; reset_at = None }

-- A reset of its own sets WDRF and leaves the other flags of MCUSR; the time-out was its last.
abbrev pub watchdog_restarted : Watchdog → Watchdog
watchdog_restarted w = record watchdog_reset { mcusr = bit_or w.mcusr 8; since = w.since }
