-- Why a call of the environment answers as it does: by the counts of faults.
use Rattle.std.specs.Prelude.{◌≡◌, ℕ, ◌+◌, ◌-◌, ◌^◌, ◌≤◌, min}
use Rattle.sim_base.specs.declared.bench.ReadEnd.{ReadEnd}
use Rattle.sim_base.specs.declared.bench.ReadEnd.TheVariants as reads
use Rattle.sim_base.specs.declared.bench.LineEnd.{LineEnd}
use Rattle.sim_base.specs.declared.bench.LineEnd.TheVariants as lines
use Rattle.sim_base.specs.declared.bench.WriteEnd.{WriteEnd}
use Rattle.sim_base.specs.declared.bench.WriteEnd.TheVariants as writes

-- A count of faults rose; one that stands at 2^64 - 1 cannot rise further and counts as risen.
abbrev pub Rose : ℕ → ℕ → Type 0
Rose before now = min (before + 1) (2 ^ 64 - 1) ≤ now

-- a read fails only where the count of failed reads rose, and no count falls
abbrev pub ReadCause : ReadEnd → ℕ → ℕ → Type 0
ReadCause reads.Failed before now = (before ≤ now) × Rose before now
ReadCause reads.Ok before now = now ≡ before
ReadCause reads.Missing before now = now ≡ before
ReadCause reads.TooLong before now = now ≡ before
ReadCause reads.OutOfMemory before now = now ≡ before

-- the same of reading a line of requests
abbrev pub LineCause : LineEnd → ℕ → ℕ → Type 0
LineCause lines.Failed before now = (before ≤ now) × Rose before now
LineCause lines.Line before now = now ≡ before
LineCause lines.TooLong before now = now ≡ before
LineCause lines.Over before now = now ≡ before

-- the same of writing and opening
abbrev pub WriteCause : WriteEnd → ℕ → ℕ → Type 0
WriteCause writes.Ok before now = now ≡ before
WriteCause writes.Failed before now = (before ≤ now) × Rose before now
