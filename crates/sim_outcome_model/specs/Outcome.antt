-- How the work ends: the status, the line on Complaint, and what the ports hold (profile).
use Rattle.std.specs.Prelude.{◌≡◌, ◌≢◌, ℕ, List, [], ◌∷◌, ◌++◌, Option, Some, None, ◌⊎◌, codes, decimal}
use Rattle.std.specs.List.{concat}
use Rattle.sim_base.specs.declared.fault.Place.{Place}
use Rattle.sim_base.specs.declared.fault.Place.TheVariants as places
use Rattle.sim_base.specs.declared.bench.Port.{Port}
use Rattle.sim_base.specs.declared.bench.Port.TheVariants as ports
use Rattle.sim_refusals.specs.Refusals.{name_of}
use Rattle.sim_base.specs.Causes.{Rose}
use Rattle.sim_base.specs.Outside.{Outside, Becomes, Grows, IsFront, IsKept, IsNamed}
use Rattle.sim_outcome_model.specs.Stop.{Stop, Missing, Refused, Output, Texts}

-- How the work ends. A failed read names its file, but for that of a request.
pub data Outcome : Type 0 where
  Accepted : Outcome
  NoRequest : Outcome
  Stopped : Stop → Outcome
  ReadFailed : List ℕ → Outcome
  RequestFailed : Outcome
  WriteFailed : Outcome
  OutOfMemory : Outcome

abbrev pub status_of : Outcome → ℕ
status_of Accepted = 0
status_of NoRequest = 2
status_of (Stopped (Refused name refusal)) = 3
status_of (Stopped (Missing name)) = 4
status_of (ReadFailed name) = 5
status_of RequestFailed = 5
status_of WriteFailed = 6
status_of OutOfMemory = 7

abbrev pub place_parts : Place → List (List ℕ)
place_parts places.Whole = []
place_parts (places.Line n) = codes " line " ∷ decimal n ∷ []
place_parts (places.Byte n) = codes " byte " ∷ decimal n ∷ []
place_parts (places.Part n) = codes " part " ∷ decimal n ∷ []
place_parts (places.Connection n) = codes " connection " ∷ decimal n ∷ []
place_parts (places.Chip n) = codes " chip " ∷ decimal n ∷ []
place_parts (places.Import n) = codes " import " ∷ decimal n ∷ []
place_parts (places.Entry s n) = codes " section " ∷ decimal s ∷ codes " entry " ∷ decimal n ∷ []
place_parts (places.Code f i) = codes " function " ∷ decimal f ∷ codes " instruction " ∷ decimal i ∷ []

-- the line on Complaint, by its parts
abbrev pub parts_of : Outcome → List (List ℕ)
parts_of Accepted = []
parts_of NoRequest = codes "words not understood" ∷ codes "\n" ∷ []
parts_of (Stopped (Refused name refusal)) =
    name ∷ codes ": refused " ∷ decimal refusal.number ∷ codes " " ∷ name_of refusal.number ∷ (place_parts refusal.place ++ codes "\n" ∷ [])
parts_of (Stopped (Missing name)) = name ∷ codes ": missing" ∷ codes "\n" ∷ []
parts_of (ReadFailed name) = name ∷ codes ": read failed" ∷ codes "\n" ∷ []
parts_of RequestFailed = codes "standard input: read failed" ∷ codes "\n" ∷ []
parts_of WriteFailed = codes "write failed" ∷ codes "\n" ∷ []
parts_of OutOfMemory = codes "out of memory" ∷ codes "\n" ∷ []

abbrev pub line_of : Outcome → List ℕ
line_of outcome = concat (parts_of outcome)

-- a text is appended to Complaint, or a first part of it where a write failed
pub record Complains (line : List ℕ) (a b : Outside) : Type 0 where
  pub said : List ℕ
  pub front : IsFront said line
  pub grown : Grows (a.written ports.Complaint) (b.written ports.Complaint) said
  pub whole : (said ≡ line) ⊎ Rose (a.faults ports.Complaint) (b.faults ports.Complaint)

-- nothing was written on a port, and it is open where it was open before, under the same name
abbrev pub IsUntouched : Port → Outside → Outside → Type 0
IsUntouched p a b = IsKept p a b × (b.opened p ≡ a.opened p)

-- no port but Complaint has changed, and none was opened
abbrev pub IsSilent : Outside → Outside → Type 0
IsSilent a b = (p : Port) → p ≢ ports.Complaint → IsUntouched p a b

abbrev pub IsFaultless : Outside → Outside → Type 0
IsFaultless a b = (b.read_faults ≡ a.read_faults) × ((p : Port) → b.faults p ≡ a.faults p)

-- a port with a text was opened under its name and has become the text; one without is as before
abbrev pub IsOn : Option Output → Port → Outside → Outside → Type 0
IsOn None p a b = IsKept p a b
IsOn (Some out) p a b = Becomes (a.written p) (b.written p) out.text × IsNamed p out.name a b

-- the same of a first part; a port that could not be opened is as before
abbrev pub BeginsOn : Option Output → Port → Outside → Outside → Type 0
BeginsOn None p a b = IsKept p a b
BeginsOn (Some out) p a b = IsKept p a b ⊎ ((front : List ℕ) × IsFront front out.text × Becomes (a.written p) (b.written p) front × IsNamed p out.name a b)

-- each port holds its text
pub record Hold (t : Texts) (a b : Outside) : Type 0 where
  pub serial : Grows (a.written ports.Serial) (b.written ports.Serial) t.serial
  pub wave : IsOn t.wave ports.Wave a b
  pub report : IsOn t.report ports.Report a b

-- each port holds a first part of its text
pub record Begin (t : Texts) (a b : Outside) : Type 0 where
  pub serial : (front : List ℕ) × IsFront front t.serial × Grows (a.written ports.Serial) (b.written ports.Serial) front
  pub wave : BeginsOn t.wave ports.Wave a b
  pub report : BeginsOn t.report ports.Report a b

abbrev pub OutputRose : Outside → Outside → Type 0
OutputRose a b = Rose (a.faults ports.Wave) (b.faults ports.Wave) ⊎ (Rose (a.faults ports.Serial) (b.faults ports.Serial) ⊎ Rose (a.faults ports.Report) (b.faults ports.Report))
