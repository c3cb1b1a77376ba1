use Rattle.std.proofs.Common.{◌≡◌, drop, map}
use Rattle.std.specs.List.{position_from}
use Rattle.std.specs.Str.{bytes_eq}
use Rattle.board_build.specs.declared.plan.PlanPart.{PlanPart}
use Rattle.board_build.specs.Parts.{place_of}
use Rattle.live_talk.proofs.names.place_of.Given as goal

abbrev pub invariant-loop-i : goal.invariant-loop-i
invariant-loop-i l =
    position_from (bytes_eq l.id) l.i (map (λ (p : PlanPart). p.id) (drop l.i l.parts)) ≡ place_of (map (λ (p : PlanPart). p.id) l.parts) l.id
