use Rattle.wasm_binary.specs.Leb.{at_most}
use Rattle.wasm_binary.specs.Lists.{items}
use Rattle.wasm_binary.proofs.Steps.{then}
use Rattle.wasm_binary.proofs.lists.list_to.Goals as goal

pub returns : goal.returns
returns g c = then (at_most c.args.greatest) (items g.T.Decode.form) c.args.reader.now c.count_to.new.reader c.items.new.reader c.in_ok-count.count c.items.result c.in_ok-count.ensures c.items.ensures
