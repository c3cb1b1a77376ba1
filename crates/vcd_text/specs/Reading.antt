-- The wave that a text is, as it is read: the text that a writer leaves, but that the values of one time may stand in any order, and
-- that a value may be given again (IEEE 1364-2005, clause 18; the form and the order of its rules are the profile's).
use Rattle.std.specs.Prelude.{ℕ, ◌==◌, Bool, true, false, List, length, Option, slice_get, Result}
use Rattle.std.specs.List.{list_all, range_with_len}
use Rattle.std.specs.Option.{option_map}
use Rattle.sim_base.specs.declared.fault.Refusal.{Refusal}
use Rattle.text_model.specs.Wave.{Source, Net, Strong, Weak, Variable, head}
use Rattle.wave_lines.specs.declared.line.Line.{Line}
use Rattle.wave_lines.specs.declared.line.Stage.{Stage}
use Rattle.wave_lines.specs.declared.line.Stage.TheVariants as stages
use Rattle.wave_lines.specs.Reading as lines
use Rattle.wave_lines.specs.Reading.{Change, behind, end_fault, is_given, read_behind, unless}

abbrev pub shows_net : Source → Bool
shows_net (Net n) = true
shows_net (Strong p) = false
shows_net (Weak p) = false

-- of each number whether its variable may have the value `x`, as only a net does; none where there is no variable
abbrev pub kinds : List Variable → ℕ → Option Bool
kinds variables i = option_map (λ v. shows_net v.shows) (slice_get variables i)

-- What a line says where these may come next, behind the time of a cycle; the run ends at cycle n.
abbrev pub verdict : List Variable → ℕ → Stage → ℕ → List ℕ → Line
verdict variables n stage cycle text = lines.verdict (kinds variables) n stage cycle text

-- the last line is the time of the run's end
abbrev pub is_over : ℕ → Stage → ℕ → Bool
is_over n stages.Opened cycle = cycle == n
is_over n stage cycle = false

abbrev pub at_end : List Variable → ℕ → List ℕ → ℕ → Stage → ℕ → List Change → Result (List Change) Refusal
at_end variables n rest k stage cycle said =
    unless (end_fault (is_over n stage cycle) (list_all (is_given said) (range_with_len 0 (length variables))) k rest) said

abbrev pub changes_behind : List Variable → ℕ → Result (ℕ × List ℕ) Refusal → Result (List Change) Refusal
changes_behind variables n = read_behind (kinds variables) n (at_end variables n)

-- The changes that a wave of so many cycles says, in their order, or the first refusal with its line; lines count from 1.
abbrev pub changes_of : List Variable → ℕ → List ℕ → Result (List Change) Refusal
changes_of variables n text = changes_behind variables n (behind 1 (head variables) text)
