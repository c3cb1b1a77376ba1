use Rattle.std.proofs.Common.{◌≡◌, ◌≤◌, ◌-◌}
use Rattle.chip_host.specs.Shown.{DrivesBut}
use Rattle.chip_host.proofs.TurnLemmas.{behind}
use Rattle.chip_host.proofs.turns.Turns.engine_turns.Given as goal

abbrev pub invariant-loop-place : goal.invariant-loop-place
invariant-loop-place l = (l.self ≡ behind l.fn.self l.place) × (l.place ≤ 24) × DrivesBut l.moved l.self.chip l.fn.self.chip

abbrev pub decreases-loop-place : goal.decreases-loop-place
decreases-loop-place l = 24 - l.place
