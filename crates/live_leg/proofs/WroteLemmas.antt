-- A writer that is made again writes, and is laid aside.
use Rattle.std.proofs.Common.{◌≡◌, ◌∙◌, ℕ, List, [], ◌++◌, Bool, true, Option, None, Some, ap, sym, subst}
use Rattle.std.proofs.lemmas.List.{append-nil}
use Rattle.sim_base.specs.declared.bench.Port.TheVariants as ports
use Rattle.sim_base.specs.declared.bench.WriteEnd.{WriteEnd}
use Rattle.sim_base.specs.Outside.{Outside, Grows}
use Rattle.sim_base.specs.Rows.{Row, Handed, Appends}
use Rattle.text_model.specs.Wave.{Variable, begun_text, wave_text}
use Rattle.part_law.specs.declared.part.Part.{Ghosts}
use Rattle.board_live.specs.LiveView.{LiveView, rows_by}
use Rattle.vcd_text.specs.declared.writer.WaveWriter.{WaveWriter}
use Rattle.vcd_text.specs.Ports.{texts, Leaves, BreaksOff, Writes}
use Rattle.vcd_text.specs.Writers.{Tied, WriterState, texts_of, place_of, outside_of, state_of, is_whole, faults_of, last_of, last_by, StandsBy, Stands, HasStopped}
use Rattle.live_leg.specs.Said.{HasSaid}
use Rattle.live_leg.specs.SentView.{SentView}
use Rattle.live_leg.specs.Talks.{IsGoing}
use Rattle.live_leg.proofs.SaidLemmas.{stands_said, said_on}
use Rattle.live_leg.proofs.GoingLemmas.{going_said, stands_with, going_wrote}

nothing_on : (o n : Option (List ℕ)) → Grows o n [] → n ≡ o
nothing_on None n e = e
nothing_on (Some x) n e = e ∙ ap (λ (l : List ℕ). Some l) (append-nil x)

pub nothing_said : (b c : Outside) → HasSaid b c [] → c.written ports.Serial ≡ b.written ports.Serial
nothing_said b c e = nothing_on (b.written ports.Serial) (c.written ports.Serial) e

-- the writer of a state over this environment
pub stands_again : {B : Type 0} (outside : B → Outside) (again : WaveWriter B) (w : WriterState) (a b : Outside) (rows : List Row) (said : List ℕ) →
    state_of again ≡ w → outside again.start.now.value ≡ a → outside again.bench.now ≡ b → StandsBy w a b rows said → Stands outside again rows said
stands_again outside again w a b rows said state start now stands =
    subst (λ (x : WriterState). StandsBy x (outside again.start.now.value) (outside again.bench.now) rows said) (sym state)
    (subst (λ (o : Outside). StandsBy w o (outside again.bench.now) rows said) (sym start)
    (subst (λ (o : Outside). StandsBy w a o rows said) (sym now) stands))

module _ {P : Type 0} (part : Ghosts P) (s : LiveView P) (w : WriterState) (sent : SentView) (from : ℕ) (a b : Outside) (going : IsGoing part s w sent from a b)
    {B : Type 0} (outside : B → Outside) (again new : WaveWriter B) (u : List ℕ)
    (state : state_of again ≡ w) (start : outside again.start.now.value ≡ a) (now : outside again.bench.now ≡ b) (place : place_of outside new ≡ place_of outside again) where
  before : (said : List ℕ) → HasSaid a b said → Stands outside again (rows_by part s s.cycle) said
  before said has = stands_again outside again w a b (rows_by part s s.cycle) said state start now (stands_with part s w sent from a b going said has)

  begun : outside new.start.now.value ≡ a
  begun = ap (λ (t : Tied). t.start) place ∙ start

  wave : new.wave ≡ w.wave
  wave = ap (λ (t : Tied). t.wave) place ∙ ap (λ (x : WriterState). x.wave) state

  serial : new.serial ≡ w.serial
  serial = ap (λ (t : Tied). t.serial) place ∙ ap (λ (x : WriterState). x.serial) state

  variables : new.head.now.variables ≡ w.head.variables
  variables = ap (λ (t : Tied). t.variables) place ∙ ap (λ (x : WriterState). x.head.variables) state

  module _ (handed : Handed (is_whole outside) (faults_of outside) (Stands outside) again new [] u) where
    -- it has written its rows, and said this too
    after : (said : List ℕ) → HasSaid a b said → StandsBy (state_of new) a (outside new.bench.now) (rows_by part s s.cycle) (said ++ u)
    after said has =
        subst (λ (o : Outside). StandsBy (state_of new) o (outside new.bench.now) (rows_by part s s.cycle) (said ++ u)) begun
        (subst (λ (l : List Row). StandsBy (state_of new) (outside new.start.now.value) (outside new.bench.now) l (said ++ u)) (append-nil (rows_by part s s.cycle))
        (handed.appended (rows_by part s s.cycle) said (before said has)))

    pub wrote_on : new.head.now.values ≡ again.head.now.values → last_of new ≡ last_of again → IsGoing part s (state_of new) sent from a (outside new.bench.now)
    wrote_on values last =
        going_wrote part s w sent from a b going (state_of new) (outside new.bench.now) (going.text ++ u) wave serial variables (values ∙ ap (λ (x : WriterState). x.head.values) state)
        (last ∙ ap last_by state) handed.is_whole (after going.text (going_said part s w sent from a b going))

    pub said_now : HasSaid b (outside new.bench.now) u
    said_now =
        said_on a b (outside new.bench.now) going.text u (going_said part s w sent from a b going)
        (stands_said (state_of new) a (outside new.bench.now) (rows_by part s s.cycle) (going.text ++ u) (serial ∙ going.serial) (after going.text (going_said part s w sent from a b going)))

    -- where nothing is kept, all was written
    pub all_written : (said : List ℕ) → HasSaid a b said → new.head.now.text ≡ [] → Leaves (texts w.wave true (begun_text w.head.variables (rows_by part s s.cycle)) (said ++ u)) a (outside new.bench.now)
    all_written said has none =
        let stood = after said has in
        let made = rows_by part s s.cycle in
        let text : stood.gone ≡ begun_text w.head.variables made =
        sym (append-nil stood.gone) ∙ ap (λ (l : List ℕ). stood.gone ++ l) (sym none) ∙ stood.kept ∙ ap (λ (vs : List Variable). begun_text vs made) variables in
        subst (λ (k : Bool). Leaves (texts w.wave k (begun_text w.head.variables made) (said ++ u)) a (outside new.bench.now)) (serial ∙ going.serial)
        (subst (λ (k : Bool). Leaves (texts k new.serial (begun_text w.head.variables made) (said ++ u)) a (outside new.bench.now)) wave
        (subst (λ (l : List ℕ). Leaves (texts new.wave new.serial l (said ++ u)) a (outside new.bench.now)) text stood.leaves))

  -- it broke off within what was to be there
  pub broke_on : Appends (Stands outside again) (HasStopped outside new) [] u → (said : List ℕ) → HasSaid a b said →
      BreaksOff (texts w.wave true (begun_text w.head.variables (rows_by part s s.cycle)) (said ++ u)) a (outside new.bench.now)
  broke_on stopped said has =
      let made = rows_by part s s.cycle in
      let c = outside new.bench.now in
      subst (λ (k : Bool). BreaksOff (texts w.wave k (begun_text w.head.variables made) (said ++ u)) a c) (serial ∙ going.serial)
      (subst (λ (k : Bool). BreaksOff (texts k new.serial (begun_text w.head.variables made) (said ++ u)) a c) wave
      (subst (λ (vs : List Variable). BreaksOff (texts new.wave new.serial (begun_text vs made) (said ++ u)) a c) variables
      (subst (λ (o : Outside). BreaksOff (texts new.wave new.serial (begun_text new.head.now.variables made) (said ++ u)) o c) begun
      (subst (λ (l : List Row). BreaksOff (texts new.wave new.serial (begun_text new.head.now.variables l) (said ++ u)) (outside new.start.now.value) c) (append-nil made)
      (stopped made said (before said has))))))

  -- the end of the wave was written
  pub closed : (end : WriteEnd) (n t : ℕ) (said : List ℕ) → n ≡ t → HasSaid a b said →
      ((rows : List Row) → (bytes : List ℕ) → Stands outside again rows bytes
      → Writes end (texts_of (place_of outside again) (wave_text (place_of outside again).variables rows n) bytes) (place_of outside again).start (outside_of outside new)) →
      Writes end (texts w.wave true (wave_text w.head.variables (rows_by part s s.cycle) t) said) a (outside new.bench.now)
  closed end n t said same has ends =
      let made = rows_by part s s.cycle in
      let c = outside new.bench.now in
      subst (λ (k : ℕ). Writes end (texts w.wave true (wave_text w.head.variables made k) said) a c) same
      (subst (λ (k : Bool). Writes end (texts w.wave k (wave_text w.head.variables made n) said) a c) going.serial
      (subst (λ (x : WriterState). Writes end (texts x.wave x.serial (wave_text x.head.variables made n) said) a c) state
      (subst (λ (o : Outside). Writes end (texts again.wave again.serial (wave_text again.head.now.variables made n) said) o c) start
      (ends made said (before said has)))))
