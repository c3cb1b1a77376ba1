use Rattle.std.proofs.Common.{◌≡◌, map, drop}
use Rattle.serde_json.specs.View.{view}
use Rattle.chip_json.specs.ChipJson.{strings_of}
use Rattle.chip_json.specs.Texts.{after, texts_in}
use Rattle.chip_json.proofs.documents.texts_of.Given as goal

abbrev pub invariant-loop-i : goal.invariant-loop-i
invariant-loop-i l = after (texts_in l.texts.items) (strings_of (map view (drop l.i l.items))) ≡ strings_of (map view l.items)
