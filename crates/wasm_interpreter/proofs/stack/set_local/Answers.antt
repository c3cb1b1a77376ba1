use Rattle.wasm_interpreter.proofs.Stacks.{local_new}
use Rattle.wasm_interpreter.proofs.stack.set_local.Goals as goal

pub returns : goal.returns
returns c = local_new c.args.slots.now c.args.sp c.args.i c.args.value c.requires.below
