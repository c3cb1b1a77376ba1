use Rattle.std.proofs.Common.{rules}
use Rattle.web_call.proofs.BlockLemmas.{placed}
use Rattle.web_call.proofs.blocks.put.Goals as goal

pub returns-clause-holds : goal.returns-clause-holds
returns-clause-holds c =
    placed c.args.at c.args.out.now c.split_at_mut-room.result.0.now c.copy_from_slice.new.self c.copy_from_slice-2.new.self c.split_at_mut-place.result.1.now c.args.bytes.now
    (search rules) (search rules) (search rules) (search rules)
