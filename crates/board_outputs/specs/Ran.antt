-- What the run of a board leaves on the ports.
use Rattle.std.specs.Prelude.{◌≡◌, ℕ, List, [], Option, None, Some}
use Rattle.sim_base.specs.declared.bench.Port.{Port}
use Rattle.sim_base.specs.declared.bench.WriteEnd.{WriteEnd}
use Rattle.sim_base.specs.declared.bench.WriteEnd.TheVariants as writes
use Rattle.sim_base.specs.Outside.{Outside, SameOthers, Opens}
use Rattle.sim_outcome_model.specs.Stop.{Texts}
use Rattle.sim_outcome_model.specs.Outcome.{Outcome, Accepted, WriteFailed, OutOfMemory, IsFaultless, Hold, Begin, OutputRose}
use Rattle.sim_outcome_model.specs.Work.{SaidNothing}
use Rattle.board_outputs.specs.Run.{Outputs, texts_for}

-- a port is opened where a file is named for it, under that name
abbrev pub OpensNamed : Port → Option (List ℕ) → WriteEnd → Outside → Outside → Type 0
OpensNamed port None writes.Ok a b = b ≡ a
OpensNamed port None writes.Failed a b = ⊥
OpensNamed port (Some name) end a b = Opens end port name a b × SameOthers port a b

-- the writing of the texts of a run, each on its port, or of first parts of them
abbrev pub Writes : WriteEnd → Texts → Outside → Outside → Type 0
Writes writes.Ok texts a b = SaidNothing a b × IsFaultless a b × Hold texts a b
Writes writes.Failed texts a b = SaidNothing a b × OutputRose a b × Begin texts a b

-- the same up to the report, of which nothing is written yet; where writing failed, whatever the report was to be
abbrev pub WritesUpToReport : WriteEnd → Outputs → List ℕ → List ℕ → ℕ → Outside → Outside → Type 0
WritesUpToReport writes.Ok out wave bytes wakes a b = Writes writes.Ok (texts_for out wave bytes [] wakes) a b
WritesUpToReport writes.Failed out wave bytes wakes a b = (report : List ℕ) → Writes writes.Failed (texts_for out wave bytes report wakes) a b

-- the writing of all texts by an outcome; where memory runs out nothing has happened
abbrev pub Ran : Outcome → Texts → Outside → Outside → Type 0
Ran Accepted texts a b = Writes writes.Ok texts a b
Ran WriteFailed texts a b = Writes writes.Failed texts a b
Ran OutOfMemory texts a b = b ≡ a
Ran _ texts a b = ⊥
