use Rattle.std.proofs.Common.{◌≡◌, ◌+◌, map, drop}
use Rattle.std.specs.Option.{option_to_list}
use Rattle.serde_json.specs.View.{view}
use Rattle.document_model.specs.Reading.{each_from}
use Rattle.document_model.specs.Diagram.{wire_of, wires_in}
use Rattle.diagram_json.proofs.DocumentLemmas.{behind}
use Rattle.diagram_json.proofs.connections.read_connections.Given as goal

abbrev pub invariant-loop-i : goal.invariant-loop-i
invariant-loop-i l = behind option_to_list l.wires (each_from wire_of (l.i + 1) (drop l.i (map view l.values))) ≡ wires_in (map view l.values)
