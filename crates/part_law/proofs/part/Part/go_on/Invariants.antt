use Rattle.std.proofs.Common.{◌≡◌, ◌+◌, ◌-◌, ◌≤◌}
use Rattle.part_law.specs.Going.{Gone}
use Rattle.part_law.proofs.part.Part.go_on.Given as goal

-- the wakes before this one showed nothing
abbrev pub invariant-loop-u : goal.invariant-loop-u
invariant-loop-u g l =
    let p = g.Self.Part in
    let s = p.state l.fn.self in
    let t = p.now l.fn.self in
    record {
      begun : t ≤ p.now l.self;
      within : p.now l.self ≤ l.limit;
      count : p.wakes l.self ≤ p.now l.self;
      gone : Gone p.machine s t (p.now l.self - t) (p.wakes l.self - p.wakes l.fn.self) (p.state l.self);
      woken : p.wakes l.fn.self ≤ p.wakes l.self;
      steps : l.steps ≡ l.fn.steps + (p.wakes l.self - p.wakes l.fn.self);
    }

abbrev pub decreases-loop-u : goal.decreases-loop-u
decreases-loop-u g l = l.limit - g.Self.Part.now l.self
