use Rattle.std.proofs.Common.{◌≡◌, ◌++◌, drop}
use Rattle.wasm_validate.specs.Rules.{imported_globals}
use Rattle.wasm_validate.proofs.collecting.imported_globals.Given as goal

abbrev pub invariant-loop-import : goal.invariant-loop-import
invariant-loop-import l = l.found.items ++ imported_globals (drop l.import-index l.imports) ≡ imported_globals l.imports
