use Rattle.std.proofs.Common.{refl}
use Rattle.wasm_decode.proofs.InstrLemmas.{const_32_done}
use Rattle.wasm_decode.proofs.instructions.const_32.Goals as goal

pub returns : goal.returns
returns c = const_32_done _ _ _ _ refl c.in_ok-n.ensures.decodes
