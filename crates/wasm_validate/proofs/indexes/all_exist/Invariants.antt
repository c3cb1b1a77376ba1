use Rattle.std.proofs.Common.{◌≡◌, ◌≤◌, drop}
use Rattle.wasm_validate.specs.Rules.{all_exist}
use Rattle.wasm_validate.proofs.indexes.all_exist.Given as goal

abbrev pub invariant-loop-instr : goal.invariant-loop-instr
invariant-loop-instr l = record {
  same : all_exist l.space.module.now (drop l.instr-index l.code) l.labels ≡ all_exist l.space.module.now l.code 0;
  within : l.labels ≤ l.instr-index;
}
