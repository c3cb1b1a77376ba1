-- The next cycle at which a chip is due. No public clause cites it.
use Rattle.std.specs.Prelude.{ℕ, ◌==◌, Option, None, Some, if◌then◌else◌}
use Rattle.chip_host.specs.Chip.{Chip, is_live}
use Rattle.chip_engines.specs.FirstDue.{earlier, first_engine}
use Rattle.chip_host.specs.FirstDue.{first_due}

abbrev pub next_due : Chip → ℕ → Option ℕ
next_due s t = if t == 0 then Some 0 else if is_live s then earlier (first_due t s.inventory.timers) (first_engine t s.inventory.engines) else None
