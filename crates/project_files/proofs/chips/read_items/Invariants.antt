use Rattle.std.proofs.Common.{◌≡◌, [], length, map, drop}
use Rattle.toml.specs.View.{view}
use Rattle.document_model.specs.Project.{chips_after}
use Rattle.project_files.proofs.chips.read_items.Given as goal

abbrev pub invariant-loop-i : goal.invariant-loop-i
invariant-loop-i l = record {
  so_far : chips_after l.chips (drop l.i (map view l.values)) ≡ chips_after [] (map view l.values);
  count : length l.chips ≡ l.i;
}
