use Rattle.wasm_interpreter.proofs.Stacks.{local_is}
use Rattle.wasm_interpreter.proofs.stack.local.Goals as goal

pub returns : goal.returns
returns c = local_is c.args.slots.now c.args.sp c.args.i c.requires.below
