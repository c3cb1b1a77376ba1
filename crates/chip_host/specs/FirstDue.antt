-- The first cycle from one on at which a timer is due. No public clause cites it.
use Rattle.std.specs.Prelude.{ℕ, List, [], ◌∷◌, Option, None}
use Rattle.chip_engines.specs.FirstDue.{due_from, earlier}
use Rattle.chip_host.specs.declared.timer.Timer.{Timer}

abbrev pub first_due : ℕ → List Timer → Option ℕ
first_due t [] = None
first_due t (x ∷ xs) = earlier (due_from t x.due) (first_due t xs)
