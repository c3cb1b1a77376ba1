-- An outcome without where its names lie in memory.
use Rattle.std.specs.Prelude.{ℕ, List, string_bytes}
use Rattle.sim_outcome_model.specs.Stop.{Missing, Refused}
use Rattle.sim_outcome_model.specs.Outcome as ends
use Rattle.sim_io.specs.declared.outcome.WorkEnd.{WorkEnd}
use Rattle.sim_io.specs.declared.outcome.WorkEnd.TheVariants as outcomes
use Rattle.sim_io.specs.declared.outcome.Stop.{Stop}
use Rattle.sim_io.specs.declared.outcome.Stop.TheVariants as stops

abbrev pub outcome_of : WorkEnd → ends.Outcome
outcome_of outcomes.Accepted = ends.Accepted
outcome_of outcomes.NoRequest = ends.NoRequest
outcome_of (outcomes.Missing name) = ends.Stopped (Missing (string_bytes name))
outcome_of (outcomes.Refused name r) = ends.Stopped (Refused (string_bytes name) r)
outcome_of (outcomes.ReadFailed name) = ends.ReadFailed (string_bytes name)
outcome_of outcomes.RequestFailed = ends.RequestFailed
outcome_of outcomes.WriteFailed = ends.WriteFailed
outcome_of outcomes.OutOfMemory = ends.OutOfMemory

-- the end of the work by a file of this name
abbrev pub stop_of : List ℕ → Stop → ends.Outcome
stop_of name stops.Missing = ends.Stopped (Missing name)
stop_of name (stops.Refused r) = ends.Stopped (Refused name r)
stop_of name stops.ReadFailed = ends.ReadFailed name
stop_of name stops.OutOfMemory = ends.OutOfMemory
