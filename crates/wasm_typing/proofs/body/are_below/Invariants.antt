use Rattle.std.proofs.Common.{◌≡◌, drop}
use Rattle.wasm_typing.specs.Typing.{all_below}
use Rattle.wasm_typing.proofs.body.are_below.Given as goal

abbrev pub invariant-loop-x : goal.invariant-loop-x
invariant-loop-x l = all_below l.n (drop l.x-index l.xs) ≡ all_below l.n l.xs
