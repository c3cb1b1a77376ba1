use Rattle.sim_io.proofs.complaint.tell.Goals as goal

pub returns-in-ReadFailed-clause-wrote : goal.returns-in-ReadFailed-clause-wrote
returns-in-ReadFailed-clause-wrote g c =
    rw (c.in-ReadFailed.is, ← c.as_str-in-ReadFailed.ensures.value, ← c.as_bytes-in-ReadFailed.ensures.value) c.write_parts-in-ReadFailed.ensures.wrote

pub returns-in-WriteFailed-clause-wrote : goal.returns-in-WriteFailed-clause-wrote
returns-in-WriteFailed-clause-wrote g c = rw (c.in-WriteFailed.is) c.write_parts-in-WriteFailed.ensures.wrote
