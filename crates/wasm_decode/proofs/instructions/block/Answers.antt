use Rattle.wasm_decode.proofs.InstrLemmas.{block_done}
use Rattle.wasm_decode.proofs.instructions.block.Goals as goal

pub returns : goal.returns
returns c = block_done c.args.op _ _ _ _ c.block_instr.ensures c.in_ok-kind.ensures
