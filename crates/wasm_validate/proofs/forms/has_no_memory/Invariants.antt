use Rattle.std.proofs.Common.{◌≡◌, drop}
use Rattle.wasm_validate.specs.Rules.{imported_memories}
use Rattle.wasm_validate.proofs.forms.has_no_memory.Given as goal

abbrev pub invariant-loop-import : goal.invariant-loop-import
invariant-loop-import l = imported_memories (drop l.import-index l.imports) ≡ imported_memories l.imports
