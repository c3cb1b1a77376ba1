use Rattle.wasm_exec.proofs.SlotLemmas.{two_results}
use Rattle.wasm_exec.proofs.calling.is_word.Goals as goal

pub returns-in_default-2 : goal.returns-in_default-2
returns-in_default-2 c = two_results c.args.results.now c.args.gives c.in_default.len_at_least
