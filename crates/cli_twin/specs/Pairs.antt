-- Two projects that were read as twins, and are ready to run.
use Rattle.std.specs.Prelude.{◌≡◌, None}
use Rattle.chip_module.specs.Sources.{pins_of}
use Rattle.cli_project.specs.Works.{IsSound, work_of}
use Rattle.cli_twin.specs.declared.pair.Pair.{Pair}
use Rattle.cli_twin.specs.Shared as shared

abbrev pub pair_of : Pair → shared.Pair
pair_of p = record { one = work_of p.one; other = work_of p.other }

pub record IsReady (p : Pair) : Type 0 where
  pub sound_one : IsSound (work_of p.one)
  pub sound_other : IsSound (work_of p.other)
  pub shared : shared.other_path (work_of p.one) (work_of p.other) ≡ None
  pub pins : pins_of p.one.chips ≡ pins_of p.other.chips
