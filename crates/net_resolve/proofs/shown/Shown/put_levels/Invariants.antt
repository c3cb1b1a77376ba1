use Rattle.net_resolve.proofs.Common.{◌≡◌, Moves}
use Rattle.net_resolve.proofs.PlaceLemmas.{Put}
use Rattle.net_resolve.proofs.shown.Shown.put_levels.Given as goal

abbrev pub invariant-loop-j : goal.invariant-loop-j
invariant-loop-j l = record {
  put : Put l.levels l.nets l.j l.fn.self.levels.items l.self.levels.items;
  moves : Moves l.fn.self.levels.items l.self.levels.items l.fn.self.changed l.self.changed;
  pins : l.self.pin_levels.items ≡ l.fn.self.pin_levels.items;
}
