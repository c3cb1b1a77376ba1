use Rattle.wasm_decode.proofs.InstrLemmas.{indexed_done}
use Rattle.wasm_decode.proofs.instructions.indexed.Goals as goal

pub returns : goal.returns
returns c = indexed_done c.args.op _ _ _ _ c.index_instr.ensures c.in_ok-n.ensures
