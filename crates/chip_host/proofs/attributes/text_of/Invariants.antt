use Rattle.std.proofs.Common.{◌≡◌, drop, List, ℕ}
use Rattle.std.specs.Borrow.{Bor}
use Rattle.std.specs.Option.{option_map}
use Rattle.part_catalog.specs.Attributes.{attribute, attribute_after}
use Rattle.chip_host.proofs.attributes.text_of.Given as goal

abbrev pub invariant-loop-key : goal.invariant-loop-key
invariant-loop-key l =
    attribute_after (option_map (λ (t : Bor (List ℕ)). t.now) l.found) l.name (drop l.key-index l.attrs) ≡ attribute l.name l.attrs
