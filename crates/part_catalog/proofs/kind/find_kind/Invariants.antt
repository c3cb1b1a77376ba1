use Rattle.std.proofs.Common.{◌≡◌, drop, map, List, ℕ}
use Rattle.std.specs.Borrow.{Bor}
use Rattle.part_catalog.specs.declared.kind.Kind.{Kind}
use Rattle.part_catalog.specs.Kinds.{kind_in}
use Rattle.part_catalog.proofs.kind.find_kind.Given as goal

abbrev pub invariant-loop-name : goal.invariant-loop-name
invariant-loop-name l =
    let seen : (Bor (List ℕ) × Kind) → List ℕ × Kind = λ x. (x.0.now, x.1) in
    kind_in (map seen (drop l.name-index l.names)) l.text ≡ kind_in (map seen l.names) l.text
