use Rattle.std.proofs.Common.{◌≡◌, ◌++◌, drop}
use Rattle.wasm_validate.specs.Rules.{imported_functions}
use Rattle.wasm_validate.proofs.collecting.imported_functions.Given as goal

abbrev pub invariant-loop-import : goal.invariant-loop-import
invariant-loop-import l = l.found.items ++ imported_functions (drop l.import-index l.imports) ≡ imported_functions l.imports
