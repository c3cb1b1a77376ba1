-- What a writer leaves on the ports.
use Rattle.std.specs.Prelude.{◌≡◌, ℕ, ◌≤◌, List, Bool, if◌then◌else◌, Option, None, Some, IsSome}
use Rattle.sim_base.specs.declared.bench.Port.{Port}
use Rattle.sim_base.specs.declared.bench.Port.TheVariants as ports
use Rattle.sim_base.specs.declared.bench.WriteEnd.{WriteEnd}
use Rattle.sim_base.specs.declared.bench.WriteEnd.TheVariants as writes
use Rattle.sim_base.specs.Causes.{Rose}
use Rattle.sim_base.specs.Outside.{Outside, Grows, IsFront}

-- the texts for the ports; none for a port that is not wanted
abbrev pub texts : Bool → Bool → List ℕ → List ℕ → Port → Option (List ℕ)
texts wave serial text bytes ports.Wave = if wave then Some text else None
texts wave serial text bytes ports.Serial = if serial then Some bytes else None
texts wave serial text bytes ports.Report = None
texts wave serial text bytes ports.Complaint = None

-- a text was appended, or the port was left alone
abbrev pub IsOn : Option (List ℕ) → Option (List ℕ) → Option (List ℕ) → Type 0
IsOn None old new = new ≡ old
IsOn (Some text) old new = Grows old new text

-- a first part of a text was appended, or the port was left alone
abbrev pub BeginsOn : Option (List ℕ) → Option (List ℕ) → Option (List ℕ) → Type 0
BeginsOn None old new = new ≡ old
BeginsOn (Some text) old new = (front : List ℕ) × IsFront front text × Grows old new front

-- From a to b the texts were written, and nothing else has changed.
pub record Leaves (on : Port → Option (List ℕ)) (a b : Outside) : Type 0 where
  pub files : b.files ≡ a.files
  pub name : (p : Port) → b.name p ≡ a.name p
  pub opened : (p : Port) → b.opened p ≡ a.opened p
  pub reads : b.read_faults ≡ a.read_faults
  pub written : (p : Port) → IsOn (on p) (a.written p) (b.written p)
  pub faults : (p : Port) → b.faults p ≡ a.faults p

-- From a to b first parts of the texts were written, since writing failed on a port that has one.
pub record BreaksOff (on : Port → Option (List ℕ)) (a b : Outside) : Type 0 where
  pub files : b.files ≡ a.files
  pub name : (p : Port) → b.name p ≡ a.name p
  pub opened : (p : Port) → b.opened p ≡ a.opened p
  pub reads : b.read_faults ≡ a.read_faults
  pub written : (p : Port) → BeginsOn (on p) (a.written p) (b.written p)
  pub faults : (p : Port) → a.faults p ≤ b.faults p
  pub alone : (p : Port) → on p ≡ None → b.faults p ≡ a.faults p
  pub rose : (p : Port) × IsSome (on p) × Rose (a.faults p) (b.faults p)

-- what writing the texts leaves, by its answer
abbrev pub Writes : WriteEnd → (Port → Option (List ℕ)) → Outside → Outside → Type 0
Writes writes.Ok on a b = Leaves on a b
Writes writes.Failed on a b = BreaksOff on a b
