use Rattle.wasm_decode.proofs.ItemLemmas.{bodies_goes}
use Rattle.wasm_decode.proofs.bodies.bodies.Goals as goal

pub returns : goal.returns
returns c = bodies_goes c.args.types.now c.args.functions.now _ _ _ _ _ c.in_ok-count_exactly.ensures c.body_items.ensures
