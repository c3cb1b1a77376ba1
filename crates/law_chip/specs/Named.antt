-- Pins of chips that have no name.
use Rattle.std.specs.Prelude.{◌≡◌, ◌==◌, not, ℕ, List, Bool, true, false, Option, None, Some, slice_get}
use Rattle.std.specs.List.{list_all}
use Rattle.chip_engines.specs.declared.engine.Engine.{Engine}
use Rattle.chip_host.specs.Inventory.{Inventory, joined, pin_at}
use Rattle.chip_host.specs.Chip.{Chip}

abbrev pub has_name : Option (List ℕ) → Bool
has_name None = false
has_name (Some name) = true

-- whether a position has a name
abbrev pub is_named : List (Option (List ℕ)) → ℕ → Bool
is_named names i = has_name (joined (slice_get names i))

abbrev pub is_at : ℕ → Option ℕ → Bool
is_at i None = false
is_at i (Some out) = out == i

-- whether the engine at a place, if there is one, drives another pin
abbrev pub is_off : ℕ → Option Engine → Bool
is_off i None = true
is_off i (Some e) = not (is_at i e.pins.out)

-- a pin that was not given, and that no engine drives
pub record IsFree (i : ℕ) (d : Inventory) : Type 0 where
  pub pin : pin_at d i ≡ None
  pub engines : list_all (is_off i) d.engines ≡ true

-- a chip with these names, with such a pin
pub record HasFree (names : List (Option (List ℕ))) (i : ℕ) (s : Chip) : Type 0 where
  pub same : s.given.names ≡ names
  pub free : IsFree i s.inventory
