-- The modes (data sheet, "Waveform Generation Mode", "Compare Output Mode").
use Rattle.std.specs.Prelude.{ℕ, ◌==◌, ◌/◌, ◌%◌, Bool, true, false, if◌then◌else◌}
use Rattle.avr_timer.specs.declared.mode.Kind.{Kind}
use Rattle.avr_timer.specs.declared.mode.Kind.TheVariants.{Normal, Ctc, Fast, Phase, PhaseFrequency}
use Rattle.avr_timer.specs.declared.mode.Top.{Top}
use Rattle.avr_timer.specs.declared.mode.Top.TheVariants.{Ocr, Icr, Fixed}
use Rattle.avr_timer.specs.declared.mode.Com.{Com}
use Rattle.avr_timer.specs.declared.mode.Com.TheVariants.{Off, Toggle, Clear, Set}
use Rattle.avr_timer.specs.declared.mode.Row.{Row}
use Rattle.avr_timer.specs.declared.mode.Mode.{Mode}

-- a row of a timer's table of modes
abbrev pub row : Kind → Top → Row
row kind top = record { kind = kind; top = top }

-- COMnx1:0
abbrev pub com_of : ℕ → Com
com_of n = if n == 1 then Toggle else if n == 2 then Clear else if n == 3 then Set else Off

-- The mode from the greatest count, the row that bits WGM choose and TCCRnA (COMnA 7:6, COMnB 5:4).
abbrev pub mode_by : ℕ → Row → ℕ → Mode
mode_by greatest r tccra = record { greatest = greatest; kind = r.kind; top = r.top; com_a = com_of (tccra / 64); com_b = com_of (tccra / 16 % 4) }

-- In normal and CTC modes a written OCR is active at once, in the others it waits ("Output Compare Unit").
abbrev pub is_buffered : Kind → Bool
is_buffered Normal = false
is_buffered Ctc = false
is_buffered Fast = true
is_buffered Phase = true
is_buffered PhaseFrequency = true

-- whether the counter goes back from TOP
abbrev pub is_phase : Kind → Bool
is_phase Normal = false
is_phase Ctc = false
is_phase Fast = false
is_phase Phase = true
is_phase PhaseFrequency = true

abbrev pub is_icr : Top → Bool
is_icr Icr = true
is_icr Ocr = false
is_icr (Fixed n) = false
