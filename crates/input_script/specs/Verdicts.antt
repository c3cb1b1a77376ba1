-- What a line that was read is for.
use Rattle.std.specs.Prelude.{ℕ, List, [], Option, None, Some, ◌≡◌, ◌≤◌, ◌<◌}
use Rattle.sim_base.specs.declared.limits.TheConstants.{LONGEST_RUN}
use Rattle.input_script.specs.declared.action.Line.{Line}
use Rattle.input_script.specs.declared.action.Line.TheVariants as line
use Rattle.input_script.specs.Script.{Verdict, Passed, Acts, Faulty, words}

abbrev pub seen : Line → Verdict
seen line.Passed = Passed
seen (line.Acts action) = Acts action
seen (line.Faulty number) = Faulty number

-- the time of an action is one of a run, and its value is small
abbrev pub IsFitting : Line → Type 0
IsFitting line.Passed = Unit {0}
IsFitting (line.Acts action) = (action.cycle ≤ LONGEST_RUN) × (action.value < 1048576)
IsFitting (line.Faulty number) = Unit {0}

-- the words of what follows a word, where anything does
abbrev pub words_after : Option (List ℕ) → List (List ℕ)
words_after None = []
words_after (Some rest) = words rest
