use Rattle.wasm_code.proofs.TypeLemmas.{table_type_goes}
use Rattle.wasm_code.proofs.type_text.table_limits.Goals as goal

pub returns : goal.returns
returns c = table_type_goes _ _ _ _ _ c.in_ok-tag.ensures c.read_limits.ensures
