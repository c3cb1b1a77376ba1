use Rattle.net_resolve.proofs.Common.{◌≡◌, length, vec_len, whole_of, AreShown, AreRight}
use Rattle.net_resolve.proofs.RightLemmas.{Begun, AreFresh}
use Rattle.net_resolve.proofs.nets.Nets.resolve_marked.Given as goal

abbrev pub invariant-loop-q : goal.invariant-loop-q
invariant-loop-q l =
    let now = l.self-inside in
    let first = l.initial.self-inside in
    record {
      same : now ≡ record first { subcircuits = now.subcircuits; marks = now.marks; shown = now.shown };
      subcircuits : now.subcircuits.items ≡ first.subcircuits.items;
      levels_long : vec_len now.shown.levels ≡ first.wiring.nets;
      marks_room : now.marks.room ≡ first.wiring.nets;
      right : AreRight (whole_of first.wiring) first.labels.items now.marks.marked first.closed.items first.drives.items now.shown.levels.items;
      begun : Begun first.labels.items now.marks.marked first.shown.levels.items now.shown.levels.items now.shown.changed.marked;
      fresh : AreFresh first.subcircuits.items now.marks.marked now.shown.changed.marked;
      shown : AreShown first.wiring.net_of now.shown;
    }

abbrev pub decreases-loop-q : goal.decreases-loop-q
decreases-loop-q l = length l.self-inside.marks.marked
