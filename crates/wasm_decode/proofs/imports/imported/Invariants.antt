use Rattle.std.proofs.Common.{◌≡◌, take}
use Rattle.wasm_decode.specs.ItemText.{imported}
use Rattle.wasm_decode.proofs.imports.imported.Given as goal

abbrev pub invariant-loop-import : goal.invariant-loop-import
invariant-loop-import l = l.count ≡ imported (take l.import-index l.imports)
