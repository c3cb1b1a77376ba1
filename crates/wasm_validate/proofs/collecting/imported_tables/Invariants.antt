use Rattle.std.proofs.Common.{◌≡◌, ◌++◌, drop}
use Rattle.wasm_validate.specs.Rules.{imported_tables}
use Rattle.wasm_validate.proofs.collecting.imported_tables.Given as goal

abbrev pub invariant-loop-import : goal.invariant-loop-import
invariant-loop-import l = l.found.items ++ imported_tables (drop l.import-index l.imports) ≡ imported_tables l.imports
