-- What each line of a wave leads to, and its end.
use Rattle.std.proofs.Common.{◌≡◌, ◌+◌, ℕ, suc, List, [], ◌∷◌, length, map, Bool, true, false, Option, None, Some, Result, Ok, Err, refl, ap}
use Rattle.std.proofs.Common.{◌∙◌, sym}
use Rattle.std.specs.List.{list_all, range_with_len}
use Rattle.std.proofs.lemmas.Bool.{eqb-true}
use Rattle.sim_base.specs.declared.fault.Refusal.{Refusal}
use Rattle.text_model.specs.Wave.{Variable}
use Rattle.wave_lines.specs.declared.line.Line.{Line}
use Rattle.wave_lines.specs.declared.line.Stage.{Stage}
use Rattle.wave_lines.specs.declared.line.Stage.TheVariants as stages
use Rattle.wave_lines.specs.Reading.{Change, after, end_fault, unless, is_given, unended, ended_lines}
use Rattle.wave_lines.proofs.GivenLemmas.{all_given}
use Rattle.wave_lines.proofs.ReadingLemmas as reading
use Rattle.vcd_text.specs.Reading.{kinds, verdict, at_end, is_over}
use Rattle.vcd_text.specs.Tracks.{DriveRows, drive_said, rows_to, tracks_of}
use Rattle.vcd_text.specs.TrackStates.{TrackState, TrackStates, AreSaid}
use Rattle.vcd_text.proofs.TrackLemmas.{all_rows}

-- a wave that is over has come to the run's end
over_at : (n cycle : ℕ) (stage : Stage) → is_over n stage cycle ≡ true → cycle ≡ n
over_at n cycle stages.Start e = absurd cc
over_at n cycle stages.Dump e = absurd cc
over_at n cycle stages.Initial e = absurd cc
over_at n cycle stages.Ended e = absurd cc
over_at n cycle stages.Opened e = eqb-true cycle n e
over_at n cycle stages.Changed e = absurd cc

no_fault : (over given : Bool) (k : ℕ) (rest : List ℕ) → end_fault over given k rest ≡ None → over ≡ true
no_fault true given k rest e = refl
no_fault false given k [] e = absurd cc
no_fault false given k (b ∷ bs) e = absurd cc

module _ (vs : List Variable) (n : ℕ) where
  -- what is read of a text from a line on
  abbrev pub from_here : ℕ → Stage → ℕ → List Change → List ℕ → Result (List Change) Refusal
  from_here k stage cycle said rest = reading.from_here (kinds vs) n (at_end vs n) k stage cycle said rest

  -- a line of this verdict
  pub line_read : (k : ℕ) (stage : Stage) (cycle : ℕ) (said : List Change) (rest line more : List ℕ) (says : Line) (whole : Result (List Change) Refusal) →
      from_here k stage cycle said rest ≡ whole → ended_lines rest ≡ line ∷ ended_lines more → unended rest ≡ unended more →
      says ≡ verdict vs n stage cycle line →
      after says k stage cycle said (λ (stage : Stage) (cycle : ℕ) (said : List Change). from_here (k + 1) stage cycle said more) ≡ whole
  line_read k stage cycle said rest line more says whole so_far ended last is =
      reading.line_read (kinds vs) n (at_end vs n) k stage cycle said rest line more says whole so_far ended last is

  -- what the text is read as, by what is wrong at its end
  module _ (pins k : ℕ) (stage : Stage) (cycle : ℕ) (said : List Change) (rest : List ℕ) (s : TrackStates) (whole : Result (List Change) Refusal)
      (over given : Bool) (fault : Option Refusal)
      (are : AreSaid vs pins cycle said s) (so_far : from_here k stage cycle said rest ≡ whole) (ended : ended_lines rest ≡ []) (last : unended rest ≡ rest)
      (over_is : over ≡ is_over n stage cycle) (given_is : given ≡ list_all (λ (g : Bool). g) s.given) (fault_is : fault ≡ end_fault over given k rest) where
    fault_said : fault ≡ end_fault (is_over n stage cycle) (list_all (is_given said) (range_with_len 0 (length vs))) k rest
    fault_said =
        fault_is
        ∙ ap (λ (b : Bool). end_fault b given k rest) over_is
        ∙ ap (λ (b : Bool). end_fault (is_over n stage cycle) b k rest) (given_is ∙ all_given (length vs) said s.given are.given)

    whole_is : unless fault said ≡ whole
    whole_is = ap (λ (o : Option Refusal). unless o said) fault_said ∙ reading.none_left (kinds vs) n (at_end vs n) k stage cycle said rest whole so_far ended last

    pub read_well : fault ≡ None → tracks_of vs pins n whole ≡ Ok (map (λ (t : TrackState). t.rows) s.pins)
    read_well none =
        let end : cycle ≡ n = over_at n cycle stage (sym over_is ∙ no_fault over given k rest (sym fault_is ∙ none)) in
        ap (tracks_of vs pins n) (sym whole_is ∙ ap (λ (o : Option Refusal). unless o said) none)
        ∙ ap (λ (l : List DriveRows). Ok l) (ap (λ (m : ℕ). map (λ (pin : ℕ). rows_to (drive_said vs said pin) (suc m)) (range_with_len 0 pins)) (sym end)
        ∙ sym (all_rows vs pins cycle said s are))

    pub read_badly : (r : Refusal) → fault ≡ Some r → tracks_of vs pins n whole ≡ Err r
    read_badly r some = ap (tracks_of vs pins n) (sym whole_is ∙ ap (λ (o : Option Refusal). unless o said) some)
