use Rattle.std.proofs.Common.{◌≡◌, drop}
use Rattle.std.specs.Prelude.{◌||◌}
use Rattle.std.specs.List.{list_any}
use Rattle.sim_base.specs.Signal.{value_of}
use Rattle.board_model.specs.Resolve.{is_value}
use Rattle.net_reference.proofs.plain.has_any.Given as goal

abbrev pub invariant-loop-drive : goal.invariant-loop-drive
invariant-loop-drive l = (l.found || list_any (λ d. is_value l.value (value_of d)) (drop l.drive-index l.drives)) ≡ list_any (λ d. is_value l.value (value_of d)) l.drives
