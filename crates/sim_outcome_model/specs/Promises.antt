-- What a caller may rest on: the status and the ports, each promise by itself, where each request has its answer.
use Rattle.std.specs.Prelude.{◌≡◌, ◌≢◌, ◌+◌, ℕ, Bool, true, false, Option, Some, None, Result, Ok, Err, ◌⊎◌, IfSome}
use Rattle.sim_base.specs.declared.bench.Port.{Port}
use Rattle.sim_base.specs.Causes.{Rose}
use Rattle.sim_base.specs.Outside.{Outside, Files}
use Rattle.sim_outcome_model.specs.Stop.{Stop, Texts}
use Rattle.sim_outcome_model.specs.Happens.{Answer}
use Rattle.sim_outcome_model.specs.Outcome.{Outcome, Accepted, NoRequest, Stopped, status_of, line_of, Complains, Hold, Begin, IsFaultless, IsSilent, OutputRose}

-- the same on the ports, whatever they cost
abbrev pub AreSame : Texts → Texts → Type 0
AreSame t u = (t.serial ≡ u.serial) × (t.wave ≡ u.wave) × (t.report ≡ u.report)

-- A request is answered by its texts or by one stop, and not by both.
pub record IsOne (answer : Answer) : Type 0 where
  pub one_sided : (files : Files) (t : Texts) (s : Stop) → answer files (Ok t) → answer files (Err s) → ⊥
  pub one_text : (files : Files) (t u : Texts) → answer files (Ok t) → answer files (Ok u) → AreSame t u
  pub one_stop : (files : Files) (t s : Stop) → answer files (Err t) → answer files (Err s) → t ≡ s

-- A request is answered by one stop, or by texts and by none.
pub record IsOneStop (answer : Answer) : Type 0 where
  pub one_sided : (files : Files) (t : Texts) (s : Stop) → answer files (Ok t) → answer files (Err s) → ⊥
  pub one_stop : (files : Files) (t s : Stop) → answer files (Err t) → answer files (Err s) → t ≡ s

-- what is asked for is a conversation
abbrev pub is_talk : {R : Type 0} → (R → Bool) → Option R → Bool
is_talk talks None = false
is_talk talks (Some r) = talks r

-- no count of faults rose, so that none was answered
abbrev pub NoneRose : Outside → Outside → Type 0
NoneRose a b = (Rose a.read_faults b.read_faults → ⊥) × ((p : Port) → Rose (a.faults p) (b.faults p) → ⊥)

abbrev pub outcome_from : Result Texts Stop → Outcome
outcome_from (Ok t) = Accepted
outcome_from (Err s) = Stopped s

-- the status where nothing fails and memory is there
abbrev pub IsExpected : {R : Type 0} → (R → Answer) → ℕ → Option R → Files → Type 0
IsExpected answers status None files = status ≡ status_of NoRequest
IsExpected answers status (Some r) files = (result : Result Texts Stop) × answers r files result × (status ≡ status_of (outcome_from result))

-- The status is 2 where the words ask for nothing, unless memory runs out, and nowhere else.
abbrev pub WordsAlone : {R : Type 0} → ℕ → Option R → Type 0
WordsAlone status asked = (status ≡ 2 → asked ≡ None) × (asked ≡ None → (status ≡ 2) ⊎ (status ≡ 7))

-- Where no fault comes and memory is there, the status is that of the answer.
abbrev pub IsAnswered : {R : Type 0} → (R → Answer) → ℕ → Option R → Outside → Outside → Type 0
IsAnswered answers status asked a b = NoneRose a b → status ≢ 7 → IfSome a.files (λ files. IsExpected answers status asked files)

-- A good request over told files, of which none is refused, is answered unless memory runs out or a fault comes: each told port
-- holds its text. A conversation has not one text alone, since each answer of it may be that memory ran out.
abbrev pub IsComplete : {R : Type 0} → (R → Answer) → (R → Bool) → ℕ → Option R → Outside → Outside → Type 0
IsComplete {R = R} answers talks status asked a b = NoneRose a b → (r : R) (files : Files) (t : Texts) → asked ≡ Some r → talks r ≡ false → a.files ≡ Some files → answers r files (Ok t)
    → ((status ≡ 0) × Hold t a b) ⊎ (status ≡ 7)

-- With status 0 no count of faults changed, and each told port holds its text, all of it.
abbrev pub HoldsAnswer : {R : Type 0} → (R → Answer) → ℕ → Option R → Outside → Outside → Type 0
HoldsAnswer {R = R} answers status asked a b = status ≡ 0 → IsFaultless a b × ((files : Files) → a.files ≡ Some files → (r : R) × (t : Texts) × (asked ≡ Some r) × (answers r files (Ok t)) × Hold t a b)

-- Where the answer is a missing file or a refusal, its status comes with its line on Complaint, or 5 after a failed read, or 7.
abbrev pub IsStopped : {R : Type 0} → (R → Answer) → ℕ → Option R → Outside → Outside → Type 0
IsStopped {R = R} answers status asked a b = (r : R) (files : Files) (s : Stop) → asked ≡ Some r → a.files ≡ Some files → answers r files (Err s)
    → ((status ≡ status_of (Stopped s)) × Complains (line_of (Stopped s)) a b) ⊎ (((status ≡ 5) × Rose a.read_faults b.read_faults) ⊎ (status ≡ 7))

-- 3 and 4 come only where the answer is a refusal, or a missing file.
abbrev pub IsTrueStop : {R : Type 0} → (R → Answer) → ℕ → Option R → Outside → Type 0
IsTrueStop {R = R} answers status asked a = (status ≡ 3) ⊎ (status ≡ 4) → (files : Files) → a.files ≡ Some files → (r : R) × (s : Stop) × (asked ≡ Some r) × (answers r files (Err s)) × (status ≡ status_of (Stopped s))

-- 5 and 6 have their cause: a count of faults that rose in this call.
abbrev pub HasCause : ℕ → Outside → Outside → Type 0
HasCause status a b = (status ≡ 5 → Rose a.read_faults b.read_faults) × (status ≡ 6 → OutputRose a b)

-- With status 6 each port holds a first part of its text.
abbrev pub HoldsFront : {R : Type 0} → (R → Answer) → ℕ → Option R → Outside → Outside → Type 0
HoldsFront {R = R} answers status asked a b = status ≡ 6 → (files : Files) → a.files ≡ Some files → (r : R) × (t : Texts) × (asked ≡ Some r) × (answers r files (Ok t)) × Begin t a b

-- With every status but 0 and 6 no port but Complaint changed, nor with 5 where there was no conversation.
abbrev pub ComplainsAlone : {R : Type 0} → (R → Bool) → ℕ → Option R → Outside → Outside → Type 0
ComplainsAlone talks status asked a b = status ≢ 0 → status ≢ 6 → (status ≡ 5 → is_talk talks asked ≡ false) → IsSilent a b

-- With status 5 no port but Complaint changed, or there was a conversation and each port holds a first part of its text.
abbrev pub IsBrokenOff : {R : Type 0} → (R → Answer) → (R → Bool) → ℕ → Option R → Outside → Outside → Type 0
IsBrokenOff {R = R} answers talks status asked a b = status ≡ 5
    → IsSilent a b ⊎ ((r : R) × (asked ≡ Some r) × (talks r ≡ true) × ((files : Files) → a.files ≡ Some files → (t : Texts) × answers r files (Ok t) × Begin t a b))

-- the status is one of these
abbrev pub IsStatus : ℕ → Type 0
IsStatus status = (status ≡ 0) ⊎ ((status ≡ 2) ⊎ ((status ≡ 3) ⊎ ((status ≡ 4) ⊎ ((status ≡ 5) ⊎ ((status ≡ 6) ⊎ (status ≡ 7))))))

-- With status 0 the count of wakes rose by those that the texts cost: none where no board is run.
abbrev pub CountsWakes : {R : Type 0} → (R → Answer) → ℕ → Option R → Outside → ℕ → ℕ → Type 0
CountsWakes {R = R} answers status asked a before after = status ≡ 0 → (files : Files) → a.files ≡ Some files → (r : R) × (t : Texts) × (asked ≡ Some r) × (answers r files (Ok t)) × (after ≡ before + t.wakes)
