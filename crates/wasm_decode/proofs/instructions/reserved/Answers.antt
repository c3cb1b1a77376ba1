use Rattle.wasm_decode.proofs.InstrLemmas.{reserved_done}
use Rattle.wasm_decode.proofs.instructions.reserved.Goals as goal

pub returns : goal.returns
returns c = reserved_done c.args.op _ _ _ _ c.memory_instr.ensures c.in_ok-tag.ensures
