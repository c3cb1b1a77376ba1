-- The environment of the program, as a value: files, ports and counts of faults.
use Rattle.std.specs.Prelude.{◌≡◌, ◌≢◌, ℕ, ◌≤◌, ◌<◌, List, [], ◌∷◌, ◌++◌, length, Bool, true, false, Option, None, Some, IfSome, ◌⊎◌}
use Rattle.std.specs.Option.{option_map}
use Rattle.std.specs.FinMap.{FinMap, get}
use Rattle.std.specs.Cmp.Lexicographic.{slice_cmp}
use Rattle.std.specs.Ordering.{nat_cmp}
use Rattle.sim_base.specs.declared.bench.Port.{Port}
use Rattle.sim_base.specs.declared.bench.Port.TheVariants as ports
use Rattle.sim_base.specs.declared.bench.ReadEnd.{ReadEnd}
use Rattle.sim_base.specs.declared.bench.ReadEnd.TheVariants as reads
use Rattle.sim_base.specs.declared.bench.LineEnd.{LineEnd}
use Rattle.sim_base.specs.declared.bench.LineEnd.TheVariants as lines
use Rattle.sim_base.specs.declared.bench.WriteEnd.{WriteEnd}
use Rattle.sim_base.specs.declared.bench.WriteEnd.TheVariants as writes
use Rattle.sim_base.specs.Causes.{Rose}

-- a finite map from the names of files to their bytes
abbrev pub Files : Type 0
Files = FinMap (slice_cmp nat_cmp) (List ℕ)

-- Files, the lines of requests that are still to be read, what was written, and the names under which ports were opened are
-- told or not (None); a bench that tells nothing still says which ports are open and how many faults it has seen.
pub record Outside : Type 0 where
  pub files : Option Files
  pub requests : Option (List (List ℕ))
  pub written : Port → Option (List ℕ)
  pub name : Port → Option (List ℕ)
  pub opened : Port → Bool
  pub read_faults : ℕ
  pub faults : Port → ℕ

-- Serial and Complaint are open from the start, Wave and Report are opened by a call
abbrev pub is_openable : Port → Bool
is_openable ports.Serial = false
is_openable ports.Wave = true
is_openable ports.Report = true
is_openable ports.Complaint = false

-- nothing but the count of failed reads may have changed
pub record SamePorts (a b : Outside) : Type 0 where
  pub files : b.files ≡ a.files
  pub requests : b.requests ≡ a.requests
  pub written : (p : Port) → b.written p ≡ a.written p
  pub name : (p : Port) → b.name p ≡ a.name p
  pub opened : (p : Port) → b.opened p ≡ a.opened p
  pub faults : (p : Port) → b.faults p ≡ a.faults p

-- nothing but one port may have changed
pub record SameOthers (port : Port) (a b : Outside) : Type 0 where
  pub files : b.files ≡ a.files
  pub requests : b.requests ≡ a.requests
  pub written : (p : Port) → p ≢ port → b.written p ≡ a.written p
  pub name : (p : Port) → p ≢ port → b.name p ≡ a.name p
  pub opened : (p : Port) → p ≢ port → b.opened p ≡ a.opened p
  pub faults : (p : Port) → p ≢ port → b.faults p ≡ a.faults p
  pub reads : b.read_faults ≡ a.read_faults

-- told bytes have grown by these; what is not told stays untold
abbrev pub Grows : Option (List ℕ) → Option (List ℕ) → List ℕ → Type 0
Grows old new bytes = new ≡ option_map (λ xs. xs ++ bytes) old

-- told bytes are these now
abbrev pub Becomes : Option (List ℕ) → Option (List ℕ) → List ℕ → Type 0
Becomes old new bytes = new ≡ option_map (λ _. bytes) old

-- a first part of a text
pub record IsFront (front text : List ℕ) : Type 0 where
  pub rest : List ℕ
  pub whole : front ++ rest ≡ text

-- a text was appended, or a first part of it where the write failed
abbrev pub WriteLeaves : WriteEnd → Option (List ℕ) → Option (List ℕ) → List ℕ → Type 0
WriteLeaves writes.Ok old new bytes = Grows old new bytes
WriteLeaves writes.Failed old new bytes = (front : List ℕ) × IsFront front bytes × Grows old new front

-- nothing was written on a port, and it was not opened under another name
abbrev pub IsKept : Port → Outside → Outside → Type 0
IsKept p a b = (b.written p ≡ a.written p) × (b.name p ≡ a.name p)

-- a port was opened under this name, as a bench says that tells its files
abbrev pub IsNamed : Port → List ℕ → Outside → Outside → Type 0
IsNamed p name a b = IfSome a.files (λ files. b.name p ≡ Some name)

-- A port that was opened under a name is empty. One that could not be opened is as before, or empty, and is not opened by
-- that.
abbrev pub Opens : WriteEnd → Port → List ℕ → Outside → Outside → Type 0
Opens writes.Ok p name a b = (b.opened p ≡ true) × Becomes (a.written p) (b.written p) [] × IsNamed p name a b × (b.faults p ≡ a.faults p)
Opens writes.Failed p name a b =
    ((b.opened p ≡ a.opened p) ⊎ (b.opened p ≡ false))
    × (IsKept p a b ⊎ (Becomes (a.written p) (b.written p) [] × IsNamed p name a b))
    × (a.faults p ≤ b.faults p)
    × Rose (a.faults p) (b.faults p)

-- what reading a file of a told map gives
abbrev pub ReadsFile : ReadEnd → Option (List ℕ) → ℕ → List ℕ → Type 0
ReadsFile reads.Ok file limit into = file ≡ Some into
ReadsFile reads.Missing file limit into = file ≡ None
ReadsFile reads.TooLong file limit into = (bytes : List ℕ) × (file ≡ Some bytes) × (limit < length bytes)
ReadsFile reads.Failed file limit into = Unit {0}
ReadsFile reads.OutOfMemory file limit into = Unit {0}

abbrev pub ReadsTold : ReadEnd → Option Files → List ℕ → ℕ → List ℕ → Type 0
ReadsTold end None name limit into = Unit {0}
ReadsTold end (Some files) name limit into = ReadsFile end (get files name) limit into

-- what reading a line of told ones gives, and those that are left; a line has at most 1,024 bytes
abbrev pub TakesLine : LineEnd → List (List ℕ) → List ℕ → List (List ℕ) → Type 0
TakesLine lines.Line old into new = (old ≡ into ∷ new) × (length into ≤ 1024)
TakesLine lines.TooLong old into new = (line : List ℕ) × (old ≡ line ∷ new) × (1024 < length line)
TakesLine lines.Over old into new = (old ≡ []) × (new ≡ [])
TakesLine lines.Failed old into new = new ≡ old

abbrev pub LineTold : LineEnd → Option (List (List ℕ)) → List ℕ → Option (List (List ℕ)) → Type 0
LineTold end None into new = new ≡ None
LineTold end (Some old) into new = (rest : List (List ℕ)) × (new ≡ Some rest) × TakesLine end old into rest

-- what was read is within the limit, and nothing is left of a read that was not Ok
abbrev pub ReadFits : ReadEnd → ℕ → List ℕ → Type 0
ReadFits reads.Ok limit into = length into ≤ limit
ReadFits reads.Missing limit into = into ≡ []
ReadFits reads.TooLong limit into = into ≡ []
ReadFits reads.Failed limit into = into ≡ []
ReadFits reads.OutOfMemory limit into = into ≡ []
