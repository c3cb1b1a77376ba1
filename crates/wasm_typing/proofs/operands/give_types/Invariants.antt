use Rattle.std.proofs.Common.{◌≡◌, ◌++◌, take}
use Rattle.std.specs.Prelude.{reverse}
use Rattle.wasm_typing.specs.Checking.{known}
use Rattle.wasm_typing.proofs.operands.give_types.Given as goal

abbrev pub invariant-loop-one : goal.invariant-loop-one
invariant-loop-one l = reverse l.known.items ≡ known (reverse (take l.one-index l.types)) ++ reverse l.fn.known.items
