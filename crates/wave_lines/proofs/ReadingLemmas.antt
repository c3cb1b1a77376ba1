-- What each line of a wave leads to.
use Rattle.std.proofs.Common.{◌≡◌, ◌+◌, ℕ, suc, List, [], ◌∷◌, Bool, Option, Result, ap, ◌∙◌, sym, arith}
use Rattle.sim_base.specs.declared.fault.Refusal.{Refusal}
use Rattle.wave_lines.specs.declared.line.Line.{Line}
use Rattle.wave_lines.specs.declared.line.Stage.{Stage}
use Rattle.wave_lines.specs.Reading.{Change, verdict, after, lines_from, unended, ended_lines}

module _ {X : Type 0} (variables : ℕ → Option Bool) (n : ℕ) (ending : List ℕ → ℕ → Stage → ℕ → List Change → Result X Refusal) where
  -- what is read of a text from a line on
  abbrev pub from_here : ℕ → Stage → ℕ → List Change → List ℕ → Result X Refusal
  from_here k stage cycle said rest = lines_from variables n (ending (unended rest)) k stage cycle said (ended_lines rest)

  -- a line of this verdict
  pub line_read : (k : ℕ) (stage : Stage) (cycle : ℕ) (said : List Change) (rest line more : List ℕ) (says : Line) (whole : Result X Refusal) →
      from_here k stage cycle said rest ≡ whole → ended_lines rest ≡ line ∷ ended_lines more → unended rest ≡ unended more →
      says ≡ verdict variables n stage cycle line →
      after says k stage cycle said (λ (stage : Stage) (cycle : ℕ) (said : List Change). from_here (k + 1) stage cycle said more) ≡ whole
  unfolding lines_from
  line_read k stage cycle said rest line more says whole so_far ended last is =
      let next : k + 1 ≡ suc k = omega arith in
      ap (λ (j : ℕ). after says k stage cycle said (λ (stage : Stage) (cycle : ℕ) (said : List Change). from_here j stage cycle said more)) next
      ∙ ap (λ (says : Line). after says k stage cycle said (λ (stage : Stage) (cycle : ℕ) (said : List Change). from_here (suc k) stage cycle said more)) is
      ∙ ap (λ (u : List ℕ). lines_from variables n (ending u) k stage cycle said (line ∷ ended_lines more)) (sym last)
      ∙ ap (lines_from variables n (ending (unended rest)) k stage cycle said) (sym ended)
      ∙ so_far

  -- no further line
  pub none_left : (k : ℕ) (stage : Stage) (cycle : ℕ) (said : List Change) (rest : List ℕ) (whole : Result X Refusal) →
      from_here k stage cycle said rest ≡ whole → ended_lines rest ≡ [] → unended rest ≡ rest → ending rest k stage cycle said ≡ whole
  unfolding lines_from
  none_left k stage cycle said rest whole so_far ended last =
      ap (λ (u : List ℕ). ending u k stage cycle said) (sym last)
      ∙ ap (lines_from variables n (ending (unended rest)) k stage cycle said) (sym ended)
      ∙ so_far
