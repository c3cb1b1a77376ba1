use Rattle.std.proofs.Common.{◌≡◌, ◌++◌}
use Rattle.serde_json.specs.View.{members_view}
use Rattle.document_model.specs.Diagram.{attrs_of}
use Rattle.diagram_json.proofs.parts.read_attrs.Given as goal

abbrev pub invariant-loop-key : goal.invariant-loop-key
invariant-loop-key l = l.attrs ++ attrs_of (members_view l.key-iterator) ≡ attrs_of (members_view l.fn.members.entries)
