-- A writer that is laid aside, and one that failed.
use Rattle.std.proofs.Common.{◌≡◌, ◌∙◌, ◌++◌, ℕ, List, [], true, None, ap, sym, subst}
use Rattle.std.proofs.lemmas.List.{append-nil}
use Rattle.sim_base.specs.Outside.{Outside}
use Rattle.sim_base.specs.Rows.{Row, AreFronts}
use Rattle.text_model.specs.Wave.{begun_text, wave_text}
use Rattle.part_law.specs.declared.part.Part.{Ghosts}
use Rattle.board_model.specs.Board.{bytes}
use Rattle.board_model.specs.Rows.{rows}
use Rattle.board_live.specs.LiveView.{LiveView}
use Rattle.vcd_text.specs.declared.writer.WaveWriter.{WaveWriter}
use Rattle.vcd_text.specs.Ports.{texts, Leaves, BreaksOff}
use Rattle.vcd_text.specs.Writers.{Tied, texts_of, place_of, outside_of, Stands, HasStopped, WriterState, whole_by, last_by, StandsBy}
use Rattle.vcd_text.proofs.CallerLemmas.{begun_front, breaks_within}
use Rattle.wave_live.specs.Plays.{HasWritten}

module _ {P : Type 0} (part : Ghosts P) (s : LiveView P) where
  -- a live board at cycle 0 has shown nothing
  pub written_first : (w : WriterState) (a b : Outside) → s.cycle ≡ 0 → whole_by w b ≡ true → last_by w ≡ None → StandsBy w a b [] [] → HasWritten part s w a b
  unfolding rows bytes
  written_first w a b cycle whole last stands = record {
    whole = whole;
    stands = rw cycle stands;
    last = λ u eu. absurd (let none = sym last ∙ eu in cc);
  }

  -- the same writer over the same environment
  pub written_as : (w x : WriterState) (a b c d : Outside) → w ≡ x → a ≡ c → b ≡ d → HasWritten part s x c d → HasWritten part s w a b
  written_as w x a b c d same start now h =
      subst (λ (y : WriterState). HasWritten part s y a b) (sym same) (subst (λ (o : Outside). HasWritten part s x o b) (sym start) (subst (λ (o : Outside). HasWritten part s x c o) (sym now) h))

-- what broke off within first rows and bytes broke off within the texts of all
pub broke_off : {B : Type 0} (outside : B → Outside) (w : WaveWriter B) (tied : Tied) (made : List Row) (sent : List ℕ) (n : ℕ) (r : List Row) (b : List ℕ) →
    place_of outside w ≡ tied → AreFronts r b made sent → HasStopped outside w r b → BreaksOff (texts_of tied (wave_text tied.variables made n) sent) tied.start (outside_of outside w)
broke_off outside w tied made sent n r b same fronts stopped =
    let Broke : Tied → Type 0 = λ t. BreaksOff (texts_of t (wave_text t.variables made n) sent) t.start (outside_of outside w) in
    subst Broke same
    (breaks_within w.wave w.serial (begun_text w.head.now.variables r) (wave_text w.head.now.variables made n) b sent (outside w.start.now.value) (outside_of outside w)
    (begun_front w.head.now.variables r fronts.more_rows made n fronts.whole_rows)
    (record { rest = fronts.more_bytes; whole = fronts.whole_bytes })
    stopped)

module _ {B : Type 0} (outside : B → Outside) (w : WaveWriter B) (tied : Tied) (made : List Row) (sent : List ℕ) (same : place_of outside w ≡ tied) where
  -- where nothing is kept, all was written
  pub all_written : w.head.now.text ≡ [] → Stands outside w (made ++ []) (sent ++ []) → Leaves (texts_of tied (begun_text tied.variables made) sent) tied.start (outside_of outside w)
  all_written none stood =
      let Left : Tied → Type 0 = λ t. Leaves (texts_of t (begun_text t.variables made) sent) t.start (outside_of outside w) in
      let text : stood.gone ≡ begun_text w.head.now.variables made =
      sym (append-nil stood.gone) ∙ ap (λ (l : List ℕ). stood.gone ++ l) (sym none) ∙ stood.kept ∙ ap (begun_text w.head.now.variables) (append-nil made) in
      subst Left same
      (subst (λ (l : List ℕ). Leaves (texts w.wave w.serial l sent) (outside w.start.now.value) (outside_of outside w)) text
      (subst (λ (l : List ℕ). Leaves (texts w.wave w.serial stood.gone l) (outside w.start.now.value) (outside_of outside w)) (append-nil sent) stood.leaves))

  -- what broke off broke off within what was to be there
  pub broke_here : HasStopped outside w (made ++ []) (sent ++ []) → BreaksOff (texts_of tied (begun_text tied.variables made) sent) tied.start (outside_of outside w)
  broke_here stopped =
      let Broke : Tied → Type 0 = λ t. BreaksOff (texts_of t (begun_text t.variables made) sent) t.start (outside_of outside w) in
      subst Broke same
      (subst (λ (r : List Row). BreaksOff (texts w.wave w.serial (begun_text w.head.now.variables r) sent) (outside w.start.now.value) (outside_of outside w)) (append-nil made)
      (subst (λ (l : List ℕ). BreaksOff (texts w.wave w.serial (begun_text w.head.now.variables (made ++ [])) l) (outside w.start.now.value) (outside_of outside w)) (append-nil sent) stopped))
