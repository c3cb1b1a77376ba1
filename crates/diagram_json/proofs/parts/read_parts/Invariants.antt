use Rattle.std.proofs.Common.{◌≡◌, ◌+◌, map, drop}
use Rattle.serde_json.specs.View.{view}
use Rattle.document_model.specs.Reading.{each_from}
use Rattle.document_model.specs.Diagram.{part_of}
use Rattle.diagram_json.proofs.DocumentLemmas.{behind, alone}
use Rattle.diagram_json.proofs.parts.read_parts.Given as goal

abbrev pub invariant-loop-i : goal.invariant-loop-i
invariant-loop-i l = behind alone l.parts (each_from part_of (l.i + 1) (drop l.i (map view l.values))) ≡ each_from part_of 1 (map view l.values)
