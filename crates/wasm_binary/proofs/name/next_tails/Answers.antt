use Rattle.std.proofs.Common.{arith}
use Rattle.wasm_binary.proofs.NameLemmas.{tail_stays}
use Rattle.wasm_binary.proofs.name.next_tails.Goals as goal

pub returns : goal.returns
returns c = tail_stays c.args.tails.count c.args.tails.least c.args.tails.greatest c.args.left c.args.byte (omega arith) (omega arith) (omega arith)
