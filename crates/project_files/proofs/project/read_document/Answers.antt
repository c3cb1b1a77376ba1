use Rattle.std.proofs.lemmas.Bool.{false≢true}
use Rattle.toml.proofs.Views.{view-Table}
use Rattle.project_files.proofs.DocumentLemmas.{toml_ok, toml_none}
use Rattle.project_files.proofs.project.read_document.Goals as goal

pub returns-in-Ok : goal.returns-in-Ok
returns-in-Ok c = rw (view-Table c.in-Ok.table) (toml_ok _ _ c.in-Ok.ensures.ok.0 c.in-Ok.ensures.ok.1)

pub returns-else-is_memory : goal.returns-else-is_memory
returns-else-is_memory c = rw c.not_toml.ensures (toml_none _ (c.in-Err.ensures.refused (λ m. false≢true (c.if-is_memory.ensures.1 m))))
