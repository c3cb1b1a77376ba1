use Rattle.std.proofs.Common.{refl}
use Rattle.wasm_decode.proofs.ItemLemmas.{import_global_desc_done}
use Rattle.wasm_decode.proofs.LoopLemmas.{desc_by}
use Rattle.wasm_decode.proofs.imports.import_desc.Goals as goal

pub returns-in-Ok-read_global_type : goal.returns-in-Ok-read_global_type
returns-in-Ok-read_global_type c = desc_by _ _ _ _ _ c.in-Global.is (import_global_desc_done _ _ _ _ refl c.in-Ok-read_global_type.ensures)
