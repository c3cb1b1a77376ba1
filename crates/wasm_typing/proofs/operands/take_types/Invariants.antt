use Rattle.std.proofs.Common.{◌≡◌, ◌≤◌, length, take}
use Rattle.std.specs.Prelude.{reverse}
use Rattle.wasm_typing.specs.Checking.{pops}
use Rattle.wasm_typing.proofs.operands.take_types.Given as goal

abbrev pub invariant-loop-left : goal.invariant-loop-left
invariant-loop-left l = record {
  same : pops (reverse (take l.left l.wanted)) (reverse l.known.items) l.missing ≡ pops (reverse l.wanted) (reverse l.fn.known.items) l.missing;
  within : l.left ≤ length l.wanted;
}

abbrev pub decreases-loop-left : goal.decreases-loop-left
decreases-loop-left l = l.left
