use Rattle.std.proofs.Common.{inl, inr, refl}
use Rattle.std.proofs.lemmas.Bool.{cases_Bool}
use Rattle.document_model.specs.Diagram.{is_id}
use Rattle.input_script.proofs.IdLemmas.{id_text}
use Rattle.input_script.proofs.action.part_id.Goals as goal

pub returns-in-Err : goal.returns-in-Err
returns-in-Err c = elim (cases_Bool (is_id c.args.word.now)) [
  | inl h ↦ absurd (c.in-Err.ensures.cases.0 (id_text c.args.word.now h))
  | inr h ↦ rw h refl
]
