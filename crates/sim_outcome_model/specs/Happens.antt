-- What a call of the program does, by its outcome and by what its request is answered with (profile).
use Rattle.std.specs.Prelude.{◌≡◌, ◌+◌, ℕ, Bool, true, false, Option, None, Some, Ok, Err, IfSome}
use Rattle.std.specs.FinMap.{remove}
use Rattle.sim_base.specs.Causes.{Rose}
use Rattle.sim_base.specs.Outside.{Outside}
use Rattle.sim_outcome_model.specs.Stop.{Missing, Texts}
use Rattle.sim_outcome_model.specs.Work.{Reading, Is, Then}
use Rattle.sim_outcome_model.specs.Outcome.{Outcome, Accepted, NoRequest, Stopped, ReadFailed, RequestFailed, WriteFailed, OutOfMemory, status_of, line_of, Complains, IsSilent, IsFaultless, Hold, Begin, OutputRose}

-- What the answer to a request over told files may be: its texts, or the first event in the order of the work.
abbrev pub Answer : Type 1
Answer = Reading Texts

-- the texts of what is read
abbrev pub AnswerOf : {X : Type 0} → Reading X → (X → Texts) → Answer
AnswerOf reading texts = Then reading (λ x. Is (λ files. Ok (texts x)))

-- What happens to a request with this answer, but for Complaint. A read that failed names a file before which nothing is
-- wrong: were that file not there, its absence would be the first event.
abbrev pub Ends : Answer → Outcome → Outside → Outside → Type 0
Ends answer Accepted a b = IsFaultless a b × IfSome a.files (λ files. (t : Texts) × answer files (Ok t) × Hold t a b)
Ends answer (Stopped s) a b = IfSome a.files (λ files. answer files (Err s)) × IsSilent a b
Ends answer (ReadFailed name) a b = IfSome a.files (λ files. answer (remove files name) (Err (Missing name))) × Rose a.read_faults b.read_faults × IsSilent a b
Ends answer WriteFailed a b = OutputRose a b × IfSome a.files (λ files. (t : Texts) × answer files (Ok t) × Begin t a b)
Ends answer OutOfMemory a b = IsSilent a b
Ends answer NoRequest a b = ⊥
Ends answer RequestFailed a b = ⊥

-- A request that could not be read breaks a conversation off: each port holds a first part of its text.
abbrev pub BreaksOff : Answer → Outside → Outside → Type 0
BreaksOff answer a b = IfSome a.files (λ files. (t : Texts) × answer files (Ok t) × Begin t a b)

-- The same of a conversation, which reads requests line by line.
abbrev pub TalkEnds : Answer → Outcome → Outside → Outside → Type 0
TalkEnds answer RequestFailed a b = Rose a.read_faults b.read_faults × BreaksOff answer a b
TalkEnds answer outcome a b = Ends answer outcome a b

abbrev pub EndsBy : Bool → Answer → Outcome → Outside → Outside → Type 0
EndsBy true = TalkEnds
EndsBy false = Ends

-- Where all was written, a count of wakes rose by those that the texts cost.
abbrev pub Counts : Answer → Outcome → Outside → ℕ → ℕ → Type 0
Counts answer outcome a before after = outcome ≡ Accepted → IfSome a.files (λ files. (t : Texts) × answer files (Ok t) × (after ≡ before + t.wakes))

-- What happens where nothing is asked for.
abbrev pub EndsUnasked : Outcome → Outside → Outside → Type 0
EndsUnasked NoRequest a b = IsSilent a b
EndsUnasked OutOfMemory a b = IsSilent a b
EndsUnasked _ a b = ⊥

-- What happens to what is asked for, where each request has its answer and is a conversation or not.
abbrev pub Happens : {R : Type 0} → (R → Answer) → (R → Bool) → Outcome → Option R → Outside → Outside → Type 0
Happens answers talks outcome None a b = EndsUnasked outcome a b
Happens answers talks outcome (Some r) a b = EndsBy (talks r) (answers r) outcome a b

-- What a call of the program does: its status, Complaint and the other ports.
pub record Does {R : Type 0} (answers : R → Answer) (talks : R → Bool) (asked : Option R) (status : ℕ) (a b : Outside) : Type 0 where
  pub outcome : Outcome
  pub is_status : status ≡ status_of outcome
  pub happens : Happens answers talks outcome asked a b
  pub complains : Complains (line_of outcome) a b
