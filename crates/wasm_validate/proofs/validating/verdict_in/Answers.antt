use Rattle.std.proofs.Common.{sym, ◌∙◌}
use Rattle.wasm_validate.proofs.ModuleLemmas.{body_breaks, without_init}
use Rattle.wasm_validate.proofs.validating.verdict_in.Goals as goal

pub returns-in-Some-2 : goal.returns-in-Some-2
returns-in-Some-2 c = body_breaks c.args.space.now.module.now c.in-Some-2.refusal (sym c.outside.ensures ∙ c.in-None.is) (rw c.in-Some-2.is at c.in_ok-refusal.ensures)

pub returns-in-None-chip_init : goal.returns-in-None-chip_init
returns-in-None-chip_init c = without_init c.args.space.now.module.now (sym c.outside.ensures ∙ c.in-None.is) (rw c.in-None-2.is at c.in_ok-refusal.ensures) (sym c.chip_init.ensures ∙ c.in-None-chip_init.is)
