use Rattle.net_resolve.proofs.Common.{◌≡◌, length, map, level_at}
use Rattle.net_resolve.proofs.PlaceLemmas.{Renewed}
use Rattle.net_resolve.proofs.shown.put_pins.Given as goal

abbrev pub invariant-loop-j : goal.invariant-loop-j
invariant-loop-j l = record {
  put : Renewed (map (level_at l.levels) l.net_of) l.pins l.j l.fn.pin_levels l.pin_levels;
  long : length l.pin_levels ≡ length l.net_of;
}
