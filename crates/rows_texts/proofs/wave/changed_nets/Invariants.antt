use Rattle.std.proofs.Common.{◌≡◌, ℕ, ◌<◌, false, eqb}
use Rattle.std.specs.List.{list_any}
use Rattle.std.specs.Prelude.{slice_get}
use Rattle.rows_texts.proofs.wave.changed_nets.Given as goal

abbrev pub invariant-loop-net : goal.invariant-loop-net
invariant-loop-net l = (n : ℕ) → n < l.net → list_any (eqb n) l.nets.items ≡ false → slice_get l.after n ≡ slice_get l.before n
