use Rattle.std.proofs.Common.{refl}
use Rattle.wasm_decode.proofs.ItemLemmas.{global_stops_2, global_done}
use Rattle.wasm_decode.proofs.items.GlobalDefDecode.decode.Goals as goal

pub returns-in-Ok-read_expr : goal.returns-in-Ok-read_expr
returns-in-Ok-read_expr c = global_done _ _ _ _ _ _ refl c.in-Ok.ensures c.in-Ok-read_expr.ensures

pub returns-in-Err-read_expr : goal.returns-in-Err-read_expr
returns-in-Err-read_expr c = global_stops_2 _ _ _ _ c.in-Ok.ensures c.in-Err-read_expr.ensures
