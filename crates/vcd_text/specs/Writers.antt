-- What a writer stands for.
use Rattle.std.specs.Prelude.{◌≡◌, ℕ, ◌+◌, ◌-◌, ◌^◌, min, List, [], ◌∷◌, ◌++◌, length, nat_le, Bool, true, false, not, ◌&&◌, ◌||◌, if◌then◌else◌, Option, None, Some}
use Rattle.sim_base.specs.declared.bench.Port.{Port}
use Rattle.sim_base.specs.declared.bench.Port.TheVariants as ports
use Rattle.sim_base.specs.Outside.{Outside}
use Rattle.sim_base.specs.Rows.{Row}
use Rattle.text_model.specs.Wave.{Variable, values, begun_text, wave_count}
use Rattle.sim_base.specs.declared.signal.Level.{Level}
use Rattle.vcd_text.specs.Chains.{HasSeen}
use Rattle.vcd_text.specs.Heads.{HeadState, gathered}
use Rattle.vcd_text.specs.Ports.{texts, Leaves, BreaksOff}
use Rattle.vcd_text.specs.declared.writer.WaveWriter.{WaveWriter}
use Rattle.vcd_text.specs.declared.writer.WaveMark.{WaveMark}

-- What no call of a writer changes: the references that it holds, to the environment and to its head, the environment as it
-- was lent, the requests that are still to be read, and what it is to write.
pub record Tied : Type 0 where
  pub reference : ℕ
  pub keeps : ℕ
  pub start : Outside
  pub requests : Option (List (List ℕ))
  pub variables : List Variable
  pub wave : Bool
  pub serial : Bool

-- the values of the last row, after one with the values `before`
abbrev pub last_values : List Variable → List ℕ → List Row → List ℕ
last_values variables before [] = before
last_values variables before (row ∷ rows) = last_values variables (values variables row) rows

-- the text of rows has come to the end of these
abbrev pub IsAfter : HeadState → List Row → Type 0
IsAfter s [] = s.started ≡ false
IsAfter s (row ∷ rows) = (s.started ≡ true) × (s.values ≡ last_values s.variables (values s.variables row) rows)

-- a count that stays at the greatest number
abbrev pub capped : ℕ → ℕ
capped n = min n (2 ^ 64 - 1)

-- the texts for the ports, by what is to be written
abbrev pub texts_of : Tied → List ℕ → List ℕ → Port → Option (List ℕ)
texts_of tied = texts tied.wave tied.serial

abbrev pub place_of : {B : Type 0} → (B → Outside) → WaveWriter B → Tied
place_of outside w = record {
  reference = w.bench.ghost_name;
  keeps = w.head.ghost_name;
  start = outside w.start.now.value;
  requests = (outside w.bench.now).requests;
  variables = w.head.now.variables;
  wave = w.wave;
  serial = w.serial;
}

-- the environment as a writer has it
abbrev pub outside_of : {B : Type 0} → (B → Outside) → WaveWriter B → Outside
outside_of outside w = outside w.bench.now

-- what a writer is but for the references that it holds
pub record WriterState : Type 0 where
  pub head : HeadState
  pub wave : Bool
  pub serial : Bool
  pub whole : Bool
  pub last : ℕ
  pub changes : ℕ
  pub sent : ℕ
  pub text_length : ℕ

abbrev pub state_of : {B : Type 0} → WaveWriter B → WriterState
state_of w = record { head = w.head.now; wave = w.wave; serial = w.serial; whole = w.whole; last = w.last; changes = w.changes; sent = w.sent; text_length = w.text_length }

-- a whole writer by its head and its mark
abbrev pub marked : HeadState → WaveMark → WriterState
marked head mark = record { head = head; wave = mark.wave; serial = mark.serial; whole = true; last = mark.last; changes = mark.changes; sent = mark.sent; text_length = mark.text_length }

abbrev pub last_by : WriterState → Option ℕ
last_by s = if s.head.started then Some s.last else None

abbrev pub last_of : {B : Type 0} → WaveWriter B → Option ℕ
last_of w = last_by (state_of w)

-- rows are written, or counted where neither they nor bytes are
abbrev pub looks_at_rows : Bool → Bool → Bool
looks_at_rows wave serial = wave || not serial

-- the values that it has of nets are those of these levels, if it looks at any
abbrev pub seen_by : WriterState → List Level → Type 0
seen_by s levels = looks_at_rows s.wave s.serial ≡ true → HasSeen s.head.variables s.head.values levels

abbrev pub has_seen : {B : Type 0} → WaveWriter B → List Level → Type 0
has_seen w levels = seen_by (state_of w) levels

-- no call has failed, the wave has not ended, a wanted Wave is open, and there is room for a row
abbrev pub whole_by : WriterState → Outside → Bool
whole_by s now = s.whole && ((not s.wave || now.opened ports.Wave) && nat_le (length s.head.text) gathered)

abbrev pub is_whole : {B : Type 0} → (B → Outside) → WaveWriter B → Bool
is_whole outside w = whole_by (state_of w) (outside w.bench.now)

abbrev pub faults_of : {B : Type 0} → (B → Outside) → WaveWriter B → ℕ
faults_of outside w = (outside w.bench.now).faults ports.Wave + (outside w.bench.now).faults ports.Serial

-- Since the environment was lent, a wanted Wave has got a text that is, with what is kept, the text of the
-- rows, but for the wave's last line; a wanted Serial has got the bytes, and nothing else has changed;
-- where neither is wanted, both are counted.
pub record StandsBy (s : WriterState) (start now : Outside) (rows : List Row) (bytes : List ℕ) : Type 0 where
  pub gone : List ℕ
  pub kept : gone ++ s.head.text ≡ begun_text s.head.variables rows
  pub leaves : Leaves (texts s.wave s.serial gone bytes) start now
  pub none : looks_at_rows s.wave s.serial ≡ false → s.head.text ≡ []
  pub follows : looks_at_rows s.wave s.serial ≡ true → IsAfter s.head rows
  pub changed : s.wave ≡ false → s.serial ≡ false → s.changes ≡ capped (wave_count s.head.variables rows)
  pub sent : s.serial ≡ false → s.sent ≡ capped (length bytes)
  pub long : looks_at_rows s.wave s.serial ≡ true → s.text_length ≡ capped (length (begun_text s.head.variables rows))

abbrev pub Stands : {B : Type 0} → (B → Outside) → WaveWriter B → List Row → List ℕ → Type 0
Stands outside w rows bytes = StandsBy (state_of w) (outside w.start.now.value) (outside w.bench.now) rows bytes

-- Since the environment was lent, first parts of these were written, and a write failed.
abbrev pub HasStopped : {B : Type 0} → (B → Outside) → WaveWriter B → List Row → List ℕ → Type 0
HasStopped outside w rows bytes =
    BreaksOff (texts w.wave w.serial (begun_text w.head.now.variables rows) bytes) (outside w.start.now.value) (outside w.bench.now)
