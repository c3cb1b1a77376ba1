use Rattle.wasm_exec.proofs.ListLemmas.{put_more}
use Rattle.wasm_exec.proofs.table.put_entries.Goals as goal

pub loop-i-preserved : goal.loop-i-preserved
loop-i-preserved c = put_more c.args.table.now c.loop-i.table c.args.at c.loop-i.i c.args.functions.now c.loop-i-test.true c.requires c.loop-i.invariant
