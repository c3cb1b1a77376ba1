-- What holds of some parts of a board for good.
use Rattle.std.proofs.Common.{◌≡◌, inr, ℕ, zero, suc, ◌+◌, List, Option, None, refl, ap}
use Rattle.sim_base.specs.declared.signal.Level.{Level}
use Rattle.law_board.specs.Alone.{part_run}
use Rattle.chip_host.specs.Chip.{Chip, chip}
use Rattle.any_part.specs.AnyPart.{AnyState, any}

-- a chip among parts of any kind runs as it does alone, whatever a script says
pub chip_runs : (levels : ℕ → List Level) (inputs : ℕ → Option ℕ) (s : Chip) (c n : ℕ) → part_run any levels inputs (inr (inr s)) c n ≡ inr (inr (part_run chip levels (λ j. None) s c n))
unfolding part_run
chip_runs levels inputs s c zero = refl
chip_runs levels inputs s c (suc n) = ap (λ (x : AnyState). (any.step x (c + n) (levels n) (inputs n)).0) (chip_runs levels inputs s c n)
