use Rattle.std.proofs.Common.{◌≡◌, ◌+◌, take}
use Rattle.wasm_typing.proofs.OperandLemmas.{sum_of}
use Rattle.wasm_typing.proofs.checker.Checker.is_within.Given as goal

abbrev pub invariant-loop-open : goal.invariant-loop-open
invariant-loop-open l = l.room + sum_of (take l.open-index l.fn.self.around.items) ≡ 1024
