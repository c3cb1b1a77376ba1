use Rattle.std.proofs.lemmas.Bool.{false≢true}
use Rattle.diagram_json.proofs.DocumentLemmas.{document_ok, document_none}
use Rattle.diagram_json.proofs.documents.read_json.Goals as goal

pub returns-in-Ok : goal.returns-in-Ok
returns-in-Ok c = document_ok _ _ _ c.in-Ok.ensures.ok.0 c.in-Ok.ensures.ok.1

pub returns-else-is_memory : goal.returns-else-is_memory
returns-else-is_memory c = rw c.not_json.ensures (document_none _ _ (c.in-Err.ensures.err (λ m. false≢true (c.if-is_memory.ensures.1 m))))
