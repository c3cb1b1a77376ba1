use Rattle.wasm_binary.specs.Leb.{u32}
use Rattle.wasm_binary.specs.Lists.{items}
use Rattle.wasm_binary.proofs.Steps.{then}
use Rattle.wasm_binary.proofs.lists.list.Goals as goal

pub returns : goal.returns
returns g c = then u32 (items g.T.Decode.form) c.args.reader.now c.index.new.reader c.items.new.reader c.in_ok-count.count c.items.result c.in_ok-count.ensures c.items.ensures
