use Rattle.std.proofs.Common.{arith}
use Rattle.wasm_interpreter.proofs.Stacks.{cut_none, cut_one}
use Rattle.wasm_interpreter.proofs.stack.cut.Goals as goal

pub returns-then-target-eq0-clause-slots : goal.returns-then-target-eq0-clause-slots
returns-then-target-eq0-clause-slots c = cut_none c.args.slots.now c.args.sp c.args.target c.if-target-eq0.true c.requires.within c.requires.fits

pub returns-clause-slots : goal.returns-clause-slots
returns-clause-slots c = cut_one c.args.slots.now c.args.sp c.args.target (omega arith) c.requires.within c.requires.fits
