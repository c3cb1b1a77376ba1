use Rattle.wasm_binary.specs.Leb.{u32}
use Rattle.wasm_binary.specs.Lists.{bytes_of_length}
use Rattle.wasm_binary.proofs.Steps.{then}
use Rattle.wasm_binary.proofs.lists.byte_list.Goals as goal

pub returns : goal.returns
returns c = then u32 bytes_of_length c.args.reader.now c.index.new.reader c.bytes_of_length.new.reader c.in_ok-count.count c.bytes_of_length.result c.in_ok-count.ensures c.bytes_of_length.ensures
