use Rattle.wasm_decode.proofs.InstrLemmas.{prefixed_goes}
use Rattle.wasm_decode.proofs.prefixed.prefixed.Goals as goal

pub returns : goal.returns
returns c = prefixed_goes _ _ _ _ _ c.in_ok-n.ensures c.prefixed_of.ensures
