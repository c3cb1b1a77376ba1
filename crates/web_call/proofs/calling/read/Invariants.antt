use Rattle.std.proofs.Common.{length, ◌≡◌, map, string_bytes}
use Rattle.std.specs.Option.{option_map}
use Rattle.web_call.specs.Entries.{entries, entries_from, with_entries}
use Rattle.web_call.proofs.calling.read.Given as goal

abbrev pub invariant-loop-rest : goal.invariant-loop-rest
invariant-loop-rest l =
    option_map (with_entries (record { words = map string_bytes l.words.items; bench = l.bench })) (entries_from l.left l.rest)
    ≡ option_map (with_entries (record { words = map string_bytes l.fn.words.items; bench = l.fn.bench })) (entries l.list)

abbrev pub decreases-loop-rest : goal.decreases-loop-rest
decreases-loop-rest l = l.left
