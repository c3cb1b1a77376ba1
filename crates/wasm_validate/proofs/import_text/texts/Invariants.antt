use Rattle.std.proofs.Common.{◌≡◌, ◌++◌, drop}
use Rattle.wasm_validate.specs.Validity.{import_texts}
use Rattle.wasm_validate.proofs.import_text.texts.Given as goal

abbrev pub invariant-loop-import : goal.invariant-loop-import
invariant-loop-import l = l.texts ++ import_texts (drop l.import-index l.imports) ≡ import_texts l.imports
