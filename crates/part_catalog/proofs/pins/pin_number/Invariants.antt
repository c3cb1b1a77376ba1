use Rattle.std.proofs.Common.{◌≡◌, drop, map, List, ℕ}
use Rattle.std.specs.Borrow.{Bor}
use Rattle.std.specs.Str.{bytes_eq}
use Rattle.std.specs.List.{position_from}
use Rattle.part_catalog.specs.Pins.{number_of}
use Rattle.part_catalog.proofs.pins.pin_number.Given as goal

abbrev pub invariant-loop-i : goal.invariant-loop-i
invariant-loop-i l =
    position_from (bytes_eq l.name) l.i (map (λ (t : Bor (List ℕ)). t.now) (drop l.i l.texts)) ≡ number_of l.fn.kind l.name
