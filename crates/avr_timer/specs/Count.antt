-- One tick of a timer's counter, in the steps of the data sheet's timing ("Modes of Operation", "Compare Match
-- Output Unit"; the exact tick of each step is the profile's).
use Rattle.std.specs.Prelude.{ℕ, zero, suc, ◌+◌, ◌-◌, ◌==◌, ◌&&◌, ◌||◌, not, nat_lt, Bool, true, false, if◌then◌else◌}
use Rattle.avr_timer.specs.declared.mode.Kind.{Kind}
use Rattle.avr_timer.specs.declared.mode.Kind.TheVariants.{Normal, Ctc, Fast, Phase, PhaseFrequency}
use Rattle.avr_timer.specs.declared.mode.Top.{Top}
use Rattle.avr_timer.specs.declared.mode.Top.TheVariants.{Ocr, Icr, Fixed}
use Rattle.avr_timer.specs.declared.mode.Com.{Com}
use Rattle.avr_timer.specs.declared.mode.Com.TheVariants.{Off, Toggle, Clear, Set}
use Rattle.avr_timer.specs.declared.mode.Mode.{Mode}
use Rattle.avr_timer.specs.declared.channel.Channel.{Channel}
use Rattle.avr_timer.specs.declared.counter.Counter.{Counter}
use Rattle.avr_timer.specs.Modes.{is_icr}

-- TOP, from the active OCRA and from ICR
abbrev pub top_by : Top → ℕ → ℕ → ℕ
top_by Ocr ocr icr = ocr
top_by Icr ocr icr = icr
top_by (Fixed n) ocr icr = n

abbrev pub top_of : Mode → Counter → ℕ
top_of m s = top_by m.top s.a.active s.icr

-- Step 1. Phase kinds: down where c is at least TOP, else up where c is 0, else as before.
abbrev pub turned : ℕ → ℕ → Bool → Bool
turned top c down = if not (nat_lt c top) then true else if c == 0 then false else down

abbrev pub direction : Kind → ℕ → ℕ → Bool → Bool
direction Normal top c down = down
direction Ctc top c down = down
direction Fast top c down = down
direction Phase top c down = turned top c down
direction PhaseFrequency top c down = turned top c down

-- Step 2. What a pin does in a tick with count c, where c equals its OCR and where c is TOP.
abbrev pub plain_act : Com → Bool → Bool → Bool
plain_act Off hit latch = latch
plain_act Toggle hit latch = if hit then not latch else latch
plain_act Clear hit latch = if hit then false else latch
plain_act Set hit latch = if hit then true else latch

abbrev pub fast_act : Com → Bool → Bool → Bool → Bool
fast_act Off hit at_top latch = latch
fast_act Toggle hit at_top latch = latch
fast_act Clear hit at_top latch = if at_top then true else if hit then false else latch
fast_act Set hit at_top latch = if at_top then false else if hit then true else latch

abbrev pub phase_act : Com → Bool → Bool → Bool → Bool
phase_act Off hit down latch = latch
phase_act Toggle hit down latch = latch
phase_act Clear hit down latch = if hit then down else latch
phase_act Set hit down latch = if hit then not down else latch

abbrev pub pin_act : Kind → Com → Bool → Bool → Bool → Bool → Bool
pin_act Normal how hit at_top down latch = plain_act how hit latch
pin_act Ctc how hit at_top down latch = plain_act how hit latch
pin_act Fast how hit at_top down latch = fast_act how hit at_top latch
pin_act Phase how hit at_top down latch = phase_act how hit down latch
pin_act PhaseFrequency how hit at_top down latch = phase_act how hit down latch

-- Step 3. Where TOV is set.
abbrev pub overflows : Kind → ℕ → ℕ → ℕ → Bool
overflows Normal greatest top c = c == greatest
overflows Ctc greatest top c = c == greatest
overflows Fast greatest top c = c == top
overflows Phase greatest top c = c == 0
overflows PhaseFrequency greatest top c = c == 0

-- Step 4. The next count.
abbrev pub upward : ℕ → ℕ → ℕ → ℕ
upward greatest top c = if c == top || c == greatest then 0 else c + 1

abbrev pub slope : ℕ → ℕ → Bool → ℕ
slope top c down = if top == 0 then 0 else if down then c - 1 else c + 1

abbrev pub next : Kind → ℕ → ℕ → ℕ → Bool → ℕ
next Normal greatest top c down = upward greatest top c
next Ctc greatest top c down = upward greatest top c
next Fast greatest top c down = upward greatest top c
next Phase greatest top c down = slope top c down
next PhaseFrequency greatest top c down = slope top c down

-- Step 5. Where buffered OCR values become active.
abbrev pub loads : Kind → ℕ → ℕ → Bool
loads Normal top c = false
loads Ctc top c = false
loads Fast top c = c == top
loads Phase top c = not (nat_lt c top)
loads PhaseFrequency top c = c == 0

-- a channel in a tick: steps 2 and 5
abbrev pub compared : Kind → Com → ℕ → ℕ → Bool → Channel → Channel
compared kind how top c down ch = record ch {
  flag = ch.flag || c == ch.active;
  latch = pin_act kind how (c == ch.active) (c == top) down ch.latch;
  active = if loads kind top c then ch.written else ch.active;
}

abbrev pub tick : Mode → Counter → Counter
tick m s =
    let c = s.count in
    let top = top_of m s in
    let down = direction m.kind top c s.down in
    record s {
      down = down;
      a = compared m.kind m.com_a top c down s.a;
      b = compared m.kind m.com_b top c down s.b;
      icf = s.icf || (is_icr m.top && c == s.icr);
      tov = s.tov || overflows m.kind m.greatest top c;
      count = next m.kind m.greatest top c down;
    }

-- a tick on which step 2 finds a match, step 3 sets TOV or step 5 loads
abbrev pub has_event : Mode → Counter → Bool
has_event m s =
    let c = s.count in
    let top = top_of m s in
    c == s.a.active || c == s.b.active || (is_icr m.top && c == s.icr) || overflows m.kind m.greatest top c || loads m.kind top c

-- n ticks
unfoldable pub ticks : Mode → Counter → ℕ → Counter
ticks m s zero = s
ticks m s (suc n) = tick m (ticks m s n)

-- the counter after reset
abbrev pub still : Channel
still = record { written = 0; active = 0; flag = false; latch = false }

abbrev pub cleared : Counter
cleared = record { count = 0; down = false; a = still; b = still; icr = 0; icf = false; tov = false }
