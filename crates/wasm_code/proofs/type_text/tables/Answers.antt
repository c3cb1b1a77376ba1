use Rattle.wasm_code.proofs.TypeLemmas.{tables_goes}
use Rattle.wasm_code.proofs.type_text.tables.Goals as goal

pub returns : goal.returns
returns c = tables_goes _ _ _ _ _ c.in_ok-count.ensures c.table_items.ensures
