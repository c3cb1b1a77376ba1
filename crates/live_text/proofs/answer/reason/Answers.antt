use Rattle.live_text.proofs.NameLemmas.{name_short}
use Rattle.live_text.proofs.answer.reason.Goals as goal

pub returns-else-number-eq-OUT_OF_MEMORY-clause-short : goal.returns-else-number-eq-OUT_OF_MEMORY-clause-short
returns-else-number-eq-OUT_OF_MEMORY-clause-short c = rw c.refusal_name.ensures (name_short c.args.number)
