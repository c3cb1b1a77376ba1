use Rattle.net_resolve.proofs.Common.{◌≡◌, length, vec_len, AreSubcircuits, whole_of}
use Rattle.net_resolve.proofs.cut.cut_all.Given as goal

abbrev pub invariant-loop-q : goal.invariant-loop-q
invariant-loop-q l = record {
  numbers : vec_len l.numbers ≡ l.wiring.nets;
  long : length l.subcircuits.items ≡ l.q;
  subcircuits : AreSubcircuits (whole_of l.wiring) l.sorted.labels l.subcircuits.items;
}
