-- A conversation with a live board: its wave is written, and what is said stands on Serial in place of the board's bytes.
use Rattle.std.specs.Prelude.{◌≡◌, ℕ, ◌+◌, ◌<◌, ◌≤◌, List, length, drop, Bool, true, false, Option}
use Rattle.std.specs.Option.{ForSome}
use Rattle.sim_base.specs.declared.bench.Port.{Port}
use Rattle.sim_base.specs.declared.bench.Port.TheVariants as ports
use Rattle.sim_base.specs.declared.limits.TheConstants.{MOST_CYCLES}
use Rattle.sim_base.specs.Outside.{Outside}
use Rattle.text_model.specs.Wave.{Variable, begun_text, wave_text}
use Rattle.part_law.specs.declared.part.Part.{Ghosts}
use Rattle.board_model.specs.Board.{levels_of, drives_of}
use Rattle.board_live.specs.LiveView.{LiveView, states_by, rows_by, bytes_by, shown_by, wakes_by}
use Rattle.vcd_text.specs.Ports.{texts, BreaksOff}
use Rattle.vcd_text.specs.Writers.{WriterState, marked, whole_by, last_by, seen_by, StandsBy}
use Rattle.live_leg.specs.Said.{HasSaid}
use Rattle.live_leg.specs.SentView.{SentView, most_sent}
use Rattle.live_leg.specs.declared.talk.Talk.{Talk}

-- the writer of a talk, as it was laid aside
abbrev pub writer_of : {P : Type 0} → Talk P → WriterState
writer_of talk = marked talk.head talk.mark

-- What no call changes: the variables of the wave, and whether one is written.
pub record TalkTied : Type 0 where
  pub variables : List Variable
  pub wave : Bool

abbrev pub tied_of : {P : Type 0} → Talk P → TalkTied
tied_of talk = record { variables = talk.head.variables; wave = (writer_of talk).wave }

-- the bytes that a live board sends in the cycles from c on that are below t
abbrev pub sent_by : {P : Type 0} → Ghosts P → LiveView P → ℕ → ℕ → List ℕ
sent_by part s c t = drop (length (bytes_by part s c)) (bytes_by part s t)

-- A live board and its writer, and the bytes that are kept from a cycle on.
pub record IsGoing {P : Type 0} (part : Ghosts P) (s : LiveView P) (w : WriterState) (sent : SentView) (from : ℕ) (a b : Outside) : Type 0 where
  pub alive : s.over ≡ false
  pub few : length s.start ≤ 64
  pub end : s.cycle ≤ MOST_CYCLES
  pub serial : w.serial ≡ true
  pub whole : whole_by w b ≡ true
  pub text : List ℕ
  pub stands : StandsBy w a b (rows_by part s s.cycle) text
  pub last : ForSome (last_by w) (λ u. (u < s.cycle) × ForSome (shown_by part s s.cycle) (λ shown. seen_by w shown.levels))
  pub within : from ≤ s.cycle
  pub first : sent.first ≡ length (bytes_by part s from)
  pub bytes : sent.bytes ≡ sent_by part s from s.cycle
  pub total : sent.total ≡ length (bytes_by part s s.cycle)

-- in the cycles from c on that are below t no level and no drive differs from those in cycle c
abbrev pub StaysFrom : {P : Type 0} → Ghosts P → LiveView P → ℕ → ℕ → Type 0
StaysFrom part s c t = (u : ℕ) → c ≤ u → u < t
    → (levels_of part.machine s.wiring (states_by part s u) ≡ levels_of part.machine s.wiring (states_by part s c))
    × (drives_of part.machine (states_by part s u) ≡ drives_of part.machine (states_by part s c))

module _ {P : Type 0} (part : Ghosts P) where
  -- What is wanted on each port where the live board has come to cycle t and this was said; the wave has no last line yet,
  abbrev pub begun_texts : Talk P → ℕ → List ℕ → Port → Option (List ℕ)
  begun_texts talk t said = texts (writer_of talk).wave true (begun_text talk.head.variables (rows_by part talk.live t)) said

  -- or it has.
  abbrev pub whole_texts : Talk P → ℕ → List ℕ → Port → Option (List ℕ)
  whole_texts talk t said = texts (writer_of talk).wave true (wave_text talk.head.variables (rows_by part talk.live t) t) said

  -- From a to b the wave was written of what the live board has shown, but for what the head keeps, and on Serial what was said; it may
  -- go on. The bytes of the cycles from `from` on are kept.
  abbrev pub MayTalk : Talk P → Outside → Outside → Type 0
  MayTalk talk a b = IsGoing part talk.live (writer_of talk) talk.sent talk.from a b

  -- It may go on, and `said` was said on Serial.
  pub record IsTalking (talk : Talk P) (said : List ℕ) (a b : Outside) : Type 0 where
    pub may : MayTalk talk a b
    pub has_said : HasSaid a b said

  -- The live board went on to a later cycle, or stayed; nothing was said and no request was read.
  pub record HasGone (old new : Talk P) (a b c : Outside) (steps more : ℕ) : Type 0 where
    pub later : old.live.cycle ≤ new.live.cycle
    pub live : new.live ≡ record old.live { cycle = new.live.cycle }
    pub from : new.from ≡ old.from
    pub tied : tied_of new ≡ tied_of old
    pub talks : MayTalk new a c
    pub said : c.written ports.Serial ≡ b.written ports.Serial
    pub steps_are : more + wakes_by part old.live old.live.cycle ≡ steps + wakes_by part old.live new.live.cycle

  -- A write failed, so the live board is over, at this cycle. Each port has a first part of what was to be there.
  pub record HasBroken (old new : Talk P) (a b c : Outside) : Type 0 where
    pub over : new.live.over ≡ true
    pub later : old.live.cycle ≤ new.live.cycle
    pub broke : (said : List ℕ) → HasSaid a b said → BreaksOff (begun_texts old new.live.cycle said) a c

  -- Cycle t is the end of a leg that is at c and has kept the bytes from cycle `from` on: the least one, from its own on, by which there are
  -- 65,536, or n.
  pub record IsLegEnd (s : LiveView P) (from c n t : ℕ) : Type 0 where
    pub later : c ≤ t
    pub within : t ≤ n
    pub full : t < n → most_sent ≤ length (sent_by part s from t)
    pub before : (u : ℕ) → c ≤ u → u < t → length (sent_by part s from u) < most_sent
