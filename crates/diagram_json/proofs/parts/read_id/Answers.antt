use Rattle.std.proofs.Common.{sym, refl, ◌∙◌}
use Rattle.diagram_json.proofs.DocumentLemmas.{is_name-id}
use Rattle.diagram_json.proofs.parts.read_id.Goals as goal

pub returns-then-is_id_text : goal.returns-then-is_id_text
returns-then-is_id_text c =
    let same = sym c.if-is_id_text.ensures in
    c.read.ensures ∙ rw (same, is_name-id c.args.id.now same) refl
