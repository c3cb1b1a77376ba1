use Rattle.std.proofs.Common.{◌≡◌, [], drop}
use Rattle.chip_json.specs.ChipJson.{are_pin_names}
use Rattle.chip_json.specs.Texts.{texts_in}
use Rattle.chip_json.proofs.names.have_good_names.Given as goal

abbrev pub invariant-loop-i : goal.invariant-loop-i
invariant-loop-i l = are_pin_names (texts_in l.seen.keys) (texts_in (drop l.i l.texts)) ≡ are_pin_names [] (texts_in l.texts)
