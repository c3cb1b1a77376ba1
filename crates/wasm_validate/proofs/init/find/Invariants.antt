use Rattle.std.proofs.Common.{◌≡◌, drop}
use Rattle.wasm_validate.specs.Rules.{find_init}
use Rattle.wasm_validate.proofs.init.find.Given as goal

abbrev pub invariant-loop-export : goal.invariant-loop-export
invariant-loop-export l = find_init l.space.module.now (drop l.export-index l.exports) ≡ find_init l.space.module.now l.exports
