use Rattle.wasm_decode.proofs.ItemLemmas.{imports_goes}
use Rattle.wasm_decode.proofs.imports.imports.Goals as goal

pub returns : goal.returns
returns c = imports_goes _ _ _ _ _ c.in_ok-count.ensures c.import_items.ensures
