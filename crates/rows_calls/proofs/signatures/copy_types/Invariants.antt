use Rattle.std.proofs.Common.{◌≡◌, take}
use Rattle.rows_calls.proofs.signatures.copy_types.Given as goal

abbrev pub invariant-loop-kind : goal.invariant-loop-kind
invariant-loop-kind l = l.copy ≡ take l.kind-index l.types
