use Rattle.wasm_validate.proofs.ModuleLemmas.{run_goes}
use Rattle.wasm_validate.proofs.bodies.add_run.Goals as goal

pub loop-i-preserved : goal.loop-i-preserved
loop-i-preserved c = run_goes _ _ _ c.loop-i.i c.args.value c.loop-i.invariant c.in_ok-push.ensures.items
