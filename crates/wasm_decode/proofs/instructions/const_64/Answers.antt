use Rattle.std.proofs.Common.{refl}
use Rattle.wasm_decode.proofs.InstrLemmas.{const_64_done}
use Rattle.wasm_decode.proofs.instructions.const_64.Goals as goal

pub returns : goal.returns
returns c = const_64_done _ _ _ _ refl c.in_ok-n.ensures.decodes
