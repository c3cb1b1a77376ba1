use Rattle.std.proofs.Common.{◌≡◌, drop}
use Rattle.wasm_validate.specs.Rules.{all_differ}
use Rattle.wasm_validate.proofs.constants.differ.Given as goal

abbrev pub invariant-loop-export : goal.invariant-loop-export
invariant-loop-export l = all_differ (drop l.export-index l.exports) l.name ≡ all_differ l.exports l.name
