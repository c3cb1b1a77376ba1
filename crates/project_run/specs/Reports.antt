-- What the report of a run leaves on its port.
use Rattle.std.specs.Prelude.{◌≡◌, ℕ, List, Bool, false, true}
use Rattle.sim_base.specs.declared.bench.Port.TheVariants as ports
use Rattle.sim_base.specs.declared.bench.WriteEnd.{WriteEnd}
use Rattle.sim_base.specs.declared.bench.WriteEnd.TheVariants as writes
use Rattle.sim_base.specs.Outside.{Outside, SameOthers}
use Rattle.sim_outcome_model.specs.Work.{Wrote}

-- a report was written where it is wanted
abbrev pub Reports : Bool → List ℕ → WriteEnd → Outside → Outside → Type 0
Reports false text writes.Ok a b = b ≡ a
Reports false text writes.Failed a b = ⊥
Reports true text end a b = Wrote end ports.Report text a b × (b.name ports.Report ≡ a.name ports.Report) × SameOthers ports.Report a b
