-- Ticks without an event, in closed form: the counter is a wheel of greatest + 1 places that turns forward or
-- back, and its events stand at few of them.
use Rattle.std.specs.Prelude.{◌≡◌, ℕ, ◌+◌, ◌-◌, ◌<◌, ◌≤◌, ◌==◌, ◌&&◌, nat_lt, Bool, true, false, if◌then◌else◌}
use Rattle.avr_timer.specs.declared.mode.Kind.{Kind}
use Rattle.avr_timer.specs.declared.mode.Kind.TheVariants.{Normal, Ctc, Fast, Phase, PhaseFrequency}
use Rattle.avr_timer.specs.declared.mode.Top.{Top}
use Rattle.avr_timer.specs.declared.mode.Top.TheVariants.{Ocr, Icr, Fixed}
use Rattle.avr_timer.specs.declared.mode.Row.{Row}
use Rattle.avr_timer.specs.declared.mode.Mode.{Mode}
use Rattle.avr_timer.specs.declared.counter.Counter.{Counter}
use Rattle.avr_timer.specs.Modes.{is_phase}
use Rattle.avr_timer.specs.Count.{top_of, direction, has_event}

abbrev pub lesser : ℕ → ℕ → ℕ
lesser a b = if nat_lt b a then b else a

-- how far it is from count c to count x
abbrev pub ahead : ℕ → ℕ → ℕ → ℕ
ahead greatest c x = if nat_lt x c then x + greatest + 1 - c else x - c

abbrev pub behind : ℕ → ℕ → ℕ → ℕ
behind greatest c x = if nat_lt c x then c + greatest + 1 - x else c - x

abbrev pub is_fixed : Top → Bool
is_fixed Ocr = false
is_fixed Icr = false
is_fixed (Fixed n) = true

-- the count at which every turn forward ends: the greatest in normal and CTC, else TOP
abbrev pub last : Kind → ℕ → ℕ → ℕ
last Normal greatest top = greatest
last Ctc greatest top = greatest
last Fast greatest top = top
last Phase greatest top = top
last PhaseFrequency greatest top = top

-- ICR where it is TOP, else another count
abbrev pub icr_or : Top → ℕ → ℕ → ℕ
icr_or Icr icr other = icr
icr_or Ocr icr other = other
icr_or (Fixed n) icr other = other

abbrev pub least : ℕ → ℕ → ℕ → ℕ → ℕ
least a b c d = lesser (lesser a b) (lesser c d)

abbrev pub wait_up : Mode → Counter → ℕ
wait_up m s =
    let end = last m.kind m.greatest (top_of m s) in
    least (ahead m.greatest s.count s.a.active) (ahead m.greatest s.count s.b.active) (ahead m.greatest s.count (icr_or m.top s.icr end)) (ahead m.greatest s.count end)

abbrev pub wait_down : Mode → Counter → ℕ
wait_down m s =
    least (behind m.greatest s.count s.a.active) (behind m.greatest s.count s.b.active) (behind m.greatest s.count (icr_or m.top s.icr 0)) s.count

-- whether the next tick goes back
abbrev pub is_back : Mode → Counter → Bool
is_back m s = is_phase m.kind && direction m.kind (top_of m s) s.count s.down

-- the ticks before the next one with an event
abbrev pub wait : Mode → Counter → ℕ
wait m s =
    if has_event m s then 0
    else if is_back m s then (if top_of m s == 0 then 1 else wait_down m s)
    else wait_up m s

-- the count k ticks forward
abbrev pub forward : ℕ → ℕ → ℕ → ℕ
forward greatest c k = if nat_lt greatest (c + k) then c + k - greatest - 1 else c + k

-- the count after k of these ticks
abbrev pub place : Mode → Counter → ℕ → ℕ
place m s k =
    if is_back m s then (if top_of m s == 0 then 0 else s.count - k)
    else forward m.greatest s.count k

-- what they leave
abbrev pub counted : Mode → Counter → ℕ → Counter
counted m s k =
    if k == 0 then s
    else record s { count = place m s k; down = direction m.kind (top_of m s) s.count s.down }

-- A row of the modes' tables: TOP of normal is the greatest count, and TOP of CTC and of phase and frequency kinds
-- is a register.
abbrev pub IsRow : Kind → Top → ℕ → Type 0
IsRow Normal top greatest = top ≡ Fixed greatest
IsRow Ctc top greatest = is_fixed top ≡ false
IsRow Fast top greatest = Unit {0}
IsRow Phase top greatest = Unit {0}
IsRow PhaseFrequency top greatest = is_fixed top ≡ false

-- every number of the counter is at most the greatest
pub record Fits (m : Mode) (s : Counter) : Type 0 where
  pub row : IsRow m.kind m.top m.greatest
  pub top : top_of m s ≤ m.greatest
  pub count : s.count ≤ m.greatest
  pub a : s.a.active ≤ m.greatest
  pub b : s.b.active ≤ m.greatest
  pub icr : s.icr ≤ m.greatest

-- a mode of the tables
abbrev pub FixedFits : Top → ℕ → Type 0
FixedFits Ocr greatest = Unit {0}
FixedFits Icr greatest = Unit {0}
FixedFits (Fixed n) greatest = n ≤ greatest

pub record IsMode (m : Mode) : Type 0 where
  pub short : m.greatest < 65536
  pub row : IsRow m.kind m.top m.greatest
  pub fixed : FixedFits m.top m.greatest

-- the same of a row
pub record IsRowOf (greatest : ℕ) (r : Row) : Type 0 where
  pub row : IsRow r.kind r.top greatest
  pub fixed : FixedFits r.top greatest

-- every number of a counter is at most the greatest
pub record Holds (greatest : ℕ) (s : Counter) : Type 0 where
  pub count : s.count ≤ greatest
  pub a : s.a.active ≤ greatest
  pub b : s.b.active ≤ greatest
  pub icr : s.icr ≤ greatest
  pub next_a : s.a.written ≤ greatest
  pub next_b : s.b.written ≤ greatest
