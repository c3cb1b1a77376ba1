-- What the steps of a call do: writing on a port, reading a file.
use Rattle.std.specs.Prelude.{◌≡◌, ◌⊎◌, ◌++◌, List, ℕ, Result, Ok, Err, Some, IfSome}
use Rattle.std.specs.FinMap.{remove}
use Rattle.sim_base.specs.declared.fault.Refusal.{Refusal}
use Rattle.sim_base.specs.declared.bench.Port.{Port}
use Rattle.sim_base.specs.declared.bench.Port.TheVariants as ports
use Rattle.sim_base.specs.declared.bench.WriteEnd.{WriteEnd}
use Rattle.sim_base.specs.declared.bench.WriteEnd.TheVariants as writes
use Rattle.sim_base.specs.Causes.{Rose}
use Rattle.sim_base.specs.Outside.{Outside, Files, Grows, IsFront}
use Rattle.sim_outcome_model.specs.Stop.{Stop, Missing, Output, file_within, JudgedAs}
use Rattle.sim_outcome_model.specs.Outcome.{Outcome, Accepted, Stopped, ReadFailed, WriteFailed, OutOfMemory, IsUntouched, IsOn, BeginsOn}

-- a text was written on a port, or a first part of it where a write failed
abbrev pub Wrote : WriteEnd → Port → List ℕ → Outside → Outside → Type 0
Wrote writes.Ok p text a b = Grows (a.written p) (b.written p) text × (b.faults p ≡ a.faults p)
Wrote writes.Failed p text a b = ((front : List ℕ) × IsFront front text × Grows (a.written p) (b.written p) front) × Rose (a.faults p) (b.faults p)

-- what was written on a port so far goes on by a text, or by a first part of it where a write failed
abbrev pub WroteOn : WriteEnd → WriteEnd → Port → List ℕ → Outside → Outside → Type 0
WroteOn end after p text b c = (a : Outside) (before : List ℕ) → Wrote end p before a b → Wrote after p (before ++ text) a c

-- What reading files gives, or the first event that ends the work: a relation, since a module is judged by one.
abbrev pub Reading : Type 0 → Type 1
Reading X = Files → Result X Stop → Type 0

-- a reading that is a function of the files
abbrev pub Is : {X : Type 0} → (Files → Result X Stop) → Reading X
Is reading files result = reading files ≡ result

-- one file of at most so many bytes
abbrev pub IsFileWithin : {X : Type 0} → ℕ → List ℕ → (List ℕ → Result X Refusal) → Reading X
IsFileWithin limit name reading files result = file_within limit files name reading ≡ result

-- one file of at most 1,048,576 bytes
abbrev pub IsFile : {X : Type 0} → List ℕ → (List ℕ → Result X Refusal) → Reading X
IsFile = IsFileWithin 1048576

-- what comes behind a reading
abbrev pub Behind : {X Y : Type 0} → Result X Stop → (X → Reading Y) → Reading Y
Behind (Ok x) next files result = next x files result
Behind (Err stop) next files result = Err stop ≡ result

-- one reading and, where nothing ends the work, the next: each file is read and checked before the next one
abbrev pub Then : {X Y : Type 0} → Reading X → (X → Reading Y) → Reading Y
Then {X = X} first next files result = (x : Result X Stop) × first files x × Behind x next files result

-- one file of at most 1,048,576 bytes that is judged by a relation
abbrev pub JudgedFile : {X : Type 0} → List ℕ → (List ℕ → Result X Refusal → Type 0) → Reading X
JudgedFile name judges = Then (IsFile name (λ bytes. Ok bytes)) (λ bytes files. JudgedAs name (judges bytes))

-- the cause of an outcome that ends the reading of a file
abbrev pub ReadStops : {X : Type 0} → Outcome → Reading X → Outside → Outside → Type 0
ReadStops (Stopped s) reading a b = IfSome a.files (λ files. reading files (Err s))
ReadStops (ReadFailed name) reading a b = IfSome a.files (λ files. reading (remove files name) (Err (Missing name))) × Rose a.read_faults b.read_faults
ReadStops OutOfMemory reading a b = Unit {0}
ReadStops _ reading a b = ⊥

-- what reading a file gives
abbrev pub Got : {V E X : Type 0} → (V → X) → (E → Outcome) → Result V E → Reading X → Outside → Outside → Type 0
Got view outcome (Ok x) reading a b = IfSome a.files (λ files. reading files (Ok (view x))) × (b.read_faults ≡ a.read_faults)
Got view outcome (Err e) reading a b = ReadStops (outcome e) reading a b

abbrev pub SaidNothing : Outside → Outside → Type 0
SaidNothing a b = (b.written ports.Complaint ≡ a.written ports.Complaint) × (b.faults ports.Complaint ≡ a.faults ports.Complaint)

-- what the writing of a text on a port, opened for it, leaves there
abbrev pub RanOn : Port → Outcome → Output → Outside → Outside → Type 0
RanOn p Accepted out a b = IsOn (Some out) p a b × (b.faults p ≡ a.faults p)
RanOn p WriteFailed out a b = Rose (a.faults p) (b.faults p) × BeginsOn (Some out) p a b
RanOn p OutOfMemory out a b = IsUntouched p a b × (b.faults p ≡ a.faults p)
RanOn p _ out a b = ⊥

-- A reading of files gives the same where a file that it does not read is not there; where one that it reads is not there,
-- that is the first event.
abbrev pub IsSteady : {X : Type 0} → Reading X → Type 0
IsSteady {X = X} reading = (files : Files) (name : List ℕ) (x : X) → reading files (Ok x) → reading (remove files name) (Ok x) ⊎ reading (remove files name) (Err (Missing name))

-- A reading gives one thing or one stop, and not both.
pub record IsOneReading {X : Type 0} (reading : Reading X) : Type 0 where
  pub one_sided : (files : Files) (x : X) (s : Stop) → reading files (Ok x) → reading files (Err s) → ⊥
  pub one_given : (files : Files) (x y : X) → reading files (Ok x) → reading files (Ok y) → x ≡ y
  pub one_stop : (files : Files) (t s : Stop) → reading files (Err t) → reading files (Err s) → t ≡ s
