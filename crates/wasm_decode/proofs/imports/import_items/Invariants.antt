use Rattle.std.proofs.Common.{◌-◌, ◌≤◌}
use Rattle.wasm_decode.proofs.LoopLemmas.{ImportRun}
use Rattle.wasm_decode.proofs.imports.import_items.Given as goal

abbrev pub invariant-loop-i : goal.invariant-loop-i
invariant-loop-i l = record {
  run : ImportRun l.fn.reader l.reader l.fn.count l.imports (l.fn.count - l.i) l.functions;
  within : l.functions ≤ l.i;
}
