use Rattle.std.proofs.Common.{arith, sym}
use Rattle.wasm_typing.proofs.BodyLemmas.{too_coarse}
use Rattle.wasm_typing.proofs.steps.is_aligned.Goals as goal

pub returns-in_default : goal.returns-in_default
returns-in_default c = sym (too_coarse c.args.align c.args.width (omega arith) c.requires)
