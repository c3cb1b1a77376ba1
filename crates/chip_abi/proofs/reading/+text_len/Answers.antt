use Rattle.chip_abi.proofs.ReadLemmas.{text_stops}
use Rattle.chip_abi.proofs.reading.+text_len.Goals as goal

pub returns-in-Err-clause-text : goal.returns-in-Err-clause-text
returns-in-Err-clause-text t c = text_stops c.args.room c.args.bytes.now c.in-Err.trap 0 c.if-room-eq0.false c.in-len1-up.len_at_least c.if-first-eq0.false c.in-Err.ensures.text
