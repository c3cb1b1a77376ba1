-- A live board of which a wave and bytes are written.
use Rattle.std.specs.Prelude.{◌≡◌, ℕ, ◌<◌, List, Option, true}
use Rattle.std.specs.Option.{ForSome}
use Rattle.sim_base.specs.declared.bench.Port.{Port}
use Rattle.sim_base.specs.Outside.{Outside}
use Rattle.text_model.specs.Wave.{begun_text, wave_text}
use Rattle.part_law.specs.declared.part.Part.{Ghosts}
use Rattle.board_live.specs.LiveView.{LiveView, rows_by, bytes_by, shown_by}
use Rattle.vcd_text.specs.Ports.{texts}
use Rattle.vcd_text.specs.Writers.{WriterState, marked, whole_by, last_by, seen_by, StandsBy}
use Rattle.wave_live.specs.declared.play.Play.{Play}

-- From a to b a writer has written what a live board has shown, but for what it keeps, and may go on.
pub record HasWritten {P : Type 0} (part : Ghosts P) (s : LiveView P) (w : WriterState) (a b : Outside) : Type 0 where
  pub whole : whole_by w b ≡ true
  pub stands : StandsBy w a b (rows_by part s s.cycle) (bytes_by part s s.cycle)
  pub last : ForSome (last_by w) (λ u. (u < s.cycle) × ForSome (shown_by part s s.cycle) (λ shown. seen_by w shown.levels))

-- the writer of a live board, as it was laid aside
abbrev pub writer_of : {P : Type 0} → Play P → WriterState
writer_of p = marked p.head p.mark

abbrev pub IsPlaying : {P : Type 0} → Ghosts P → Play P → Outside → Outside → Type 0
IsPlaying part p a b = HasWritten part p.live (writer_of p) a b

-- the texts of what a live board has shown, each for its port, if it is wanted; the wave has no last line yet
abbrev pub begun_by : {P : Type 0} → Ghosts P → Play P → Port → Option (List ℕ)
begun_by part p = texts (writer_of p).wave (writer_of p).serial (begun_text p.head.variables (rows_by part p.live p.live.cycle)) (bytes_by part p.live p.live.cycle)

-- the texts of a live board up to cycle n, each for its port, if it is wanted
abbrev pub texts_by : {P : Type 0} → Ghosts P → Play P → ℕ → Port → Option (List ℕ)
texts_by part p n = texts (writer_of p).wave (writer_of p).serial (wave_text p.head.variables (rows_by part p.live n) n) (bytes_by part p.live n)
