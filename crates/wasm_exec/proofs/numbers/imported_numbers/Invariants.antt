use Rattle.std.proofs.Common.{◌≡◌, ◌++◌, drop}
use Rattle.wasm_validate.specs.Rules.{imported_functions}
use Rattle.wasm_exec.proofs.numbers.imported_numbers.Given as goal

abbrev pub invariant-loop-import : goal.invariant-loop-import
invariant-loop-import l = l.found ++ imported_functions (drop l.import-index l.imports) ≡ imported_functions l.imports
