use Rattle.net_resolve.proofs.Common.{◌≡◌, ℕ, ◌<◌, true, has}
use Rattle.net_resolve.proofs.marks.Marks.all.Given as goal

abbrev pub invariant-loop-n : goal.invariant-loop-n
invariant-loop-n l = record {
  room : l.marks.room ≡ l.fn.room;
  done : (m : ℕ) → m < l.n → has l.marks.marked m ≡ true;
}
