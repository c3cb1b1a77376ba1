use Rattle.std.proofs.Common.{ℕ, ◌<◌, subst}
use Rattle.rows_chips.proofs.rows.push_drives.Goals as goal

pub drive-requires : goal.drive-requires
drive-requires c = subst (λ (n : ℕ). c.loop-pin.pin < n) c.pins-pin-end.ensures c.loop-pin-test.true
