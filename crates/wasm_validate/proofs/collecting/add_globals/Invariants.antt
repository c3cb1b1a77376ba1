use Rattle.std.proofs.Common.{◌≡◌, ◌++◌, drop}
use Rattle.wasm_validate.specs.Rules.{kinds_of}
use Rattle.wasm_validate.proofs.collecting.add_globals.Given as goal

abbrev pub invariant-loop-one : goal.invariant-loop-one
invariant-loop-one l = l.found.items ++ kinds_of (drop l.one-index l.more) ≡ l.fn.found.items ++ kinds_of l.more
