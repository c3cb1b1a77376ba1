use Rattle.std.proofs.Common.{length, ◌≡◌}
use Rattle.std.specs.Option.{is_some}
use Rattle.web_call.specs.Entries.{entries, entries_from}
use Rattle.web_call.proofs.entries.is_list.Given as goal

abbrev pub invariant-loop-rest : goal.invariant-loop-rest
invariant-loop-rest l = is_some (entries_from l.left l.rest) ≡ is_some (entries l.list)

abbrev pub decreases-loop-rest : goal.decreases-loop-rest
decreases-loop-rest l = l.left
