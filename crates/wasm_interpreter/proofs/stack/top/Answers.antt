use Rattle.wasm_interpreter.proofs.Stacks.{stack_top}
use Rattle.wasm_interpreter.proofs.stack.top.Goals as goal

pub returns : goal.returns
returns c = stack_top c.args.slots.now c.args.sp c.requires.some c.requires.within
