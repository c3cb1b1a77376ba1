use Rattle.std.proofs.Common.{◌≡◌, drop}
use Rattle.std.specs.List.{position_from}
use Rattle.chip_engines.specs.Engine.{is_free}
use Rattle.chip_engines.proofs.list.free.Given as goal

abbrev pub invariant-loop-i : goal.invariant-loop-i
invariant-loop-i l = position_from is_free l.i (drop l.i l.places) ≡ position_from is_free 0 l.places
