use Rattle.wasm_binary.proofs.Numbers.{ones_whole, ones_half}
use Rattle.wasm_binary.proofs.leb.all_ones.Goals as goal

pub returns-clause-whole : goal.returns-clause-whole
returns-clause-whole c = ones_whole c.args.bits c.requires.few

pub returns-clause-half : goal.returns-clause-half
returns-clause-half c = ones_half c.args.bits c.requires.some c.requires.few
