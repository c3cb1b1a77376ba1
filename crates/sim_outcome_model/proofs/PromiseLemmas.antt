-- What follows from what a call does.
use Rattle.std.proofs.Common.{◌≡◌, ℕ, List, refl, sym, ap, ◌∙◌, Bool, true, false, Option, Some, None, Result, Ok, Err, inl, inr, ◌⊎◌, IfSome, subst, arith}
use Rattle.sim_base.specs.declared.bench.Port.TheVariants as ports
use Rattle.sim_base.specs.Causes.{Rose}
use Rattle.sim_base.specs.Outside.{Outside, Files, Grows}
use Rattle.sim_outcome_model.specs.Stop.{Stop, Missing, Refused, Output, Texts}
use Rattle.sim_outcome_model.specs.Outcome.{Outcome, Accepted, NoRequest, Stopped, ReadFailed, RequestFailed, WriteFailed, OutOfMemory, Hold, Begin, OutputRose, IsOn, status_of, line_of, Complains}
use Rattle.sim_outcome_model.specs.Happens.{Answer, Ends, EndsBy, BreaksOff, EndsUnasked, Happens}
use Rattle.sim_outcome_model.specs.Promises.{AreSame, IsOne, IsOneStop, NoneRose, outcome_from, WordsAlone, IsAnswered, IsComplete, HoldsAnswer, IsStopped, IsTrueStop, HasCause, HoldsFront, ComplainsAlone, IsBrokenOff, IsStatus}
use Rattle.sim_outcome_model.proofs.ReadLemmas.{if_some, if_always}

-- what holds of told files, once these are known
at_told : (told : Option Files) (P : Files → Type 0) → IfSome told P → (files : Files) → told ≡ Some files → P files
at_told None P h files e = absurd (cc)
at_told (Some f) P h files e = let same : f ≡ files = cc in subst P same h

no_output : (a b : Outside) → NoneRose a b → OutputRose a b → ⊥
no_output a b none (inl x) = none.1 ports.Wave x
no_output a b none (inr (inl x)) = none.1 ports.Serial x
no_output a b none (inr (inr x)) = none.1 ports.Report x

-- but for a request that could not be read, a conversation ends as all else
ended : (talks : Bool) (answer : Answer) (a b : Outside) (o : Outcome) → (o ≡ RequestFailed → ⊥) → EndsBy talks answer o a b → Ends answer o a b
ended false answer a b o other h = h
ended true answer a b Accepted other h = h
ended true answer a b NoRequest other h = h
ended true answer a b (Stopped s) other h = h
ended true answer a b (ReadFailed name) other h = h
ended true answer a b RequestFailed other h = absurd (other refl)
ended true answer a b WriteFailed other h = h
ended true answer a b OutOfMemory other h = h

-- and such a request there is in a conversation alone
broken : (talks : Bool) (answer : Answer) (a b : Outside) → EndsBy talks answer RequestFailed a b → (talks ≡ true) × Rose a.read_faults b.read_faults × BreaksOff answer a b
broken false answer a b h = absurd h
broken true answer a b h = (refl, h.0, h.1)

unasked : (o : Outcome) (a b : Outside) → EndsUnasked o a b → (status_of o ≡ 2) ⊎ (status_of o ≡ 7)
unasked NoRequest a b h = inl refl
unasked OutOfMemory a b h = inr refl
unasked _ a b h = absurd h

-- no status but 2 and 7 comes where nothing is asked for
unasked_not : {X : Type 0} (o : Outcome) (a b : Outside) (n : ℕ) → EndsUnasked o a b → status_of o ≡ n → (n ≡ 2 → ⊥) → (n ≡ 7 → ⊥) → X
unasked_not o a b n h e two seven = elim (unasked o a b h) [ inl x ↦ absurd (two (sym e ∙ x)) | inr x ↦ absurd (seven (sym e ∙ x)) ]

module _ (answer : Answer) (a b : Outside) where
  not_two : (o : Outcome) → Ends answer o a b → status_of o ≡ 2 → ⊥
  not_two NoRequest h e = h
  not_two (Stopped (Missing name)) h e = omega arith
  not_two _ h e = omega arith

  held_same : (t u : Texts) → AreSame t u → Hold t a b → Hold u a b
  held_same t u same h = record {
    serial = subst (λ (l : List ℕ). Grows (a.written ports.Serial) (b.written ports.Serial) l) same.0 h.serial;
    wave = subst (λ (x : Option Output). IsOn x ports.Wave a b) same.1 h.wave;
    report = subst (λ (x : Option Output). IsOn x ports.Report a b) same.2 h.report;
  }

  complete_one : IsOne answer → (o : Outcome) → Ends answer o a b → NoneRose a b → (files : Files) (t : Texts) → a.files ≡ Some files → answer files (Ok t) → ((status_of o ≡ 0) × Hold t a b) ⊎ (status_of o ≡ 7)
  complete_one one Accepted h none files t f g =
      let x = at_told a.files (λ files. (t : Texts) × answer files (Ok t) × Hold t a b) h.1 files f in
      inl (refl, held_same x.0 t (one.one_text files x.0 t x.1 g) x.2)
  complete_one one NoRequest h none files t f g = absurd h
  complete_one one (Stopped s) h none files t f g = absurd (one.one_sided files t s g (at_told a.files (λ files. answer files (Err s)) h.0 files f))
  complete_one one (ReadFailed name) h none files t f g = absurd (none.0 h.1)
  complete_one one RequestFailed h none files t f g = absurd h
  complete_one one WriteFailed h none files t f g = absurd (no_output a b none h.0)
  complete_one one OutOfMemory h none files t f g = inr refl

  stopped_one : IsOneStop answer → (o : Outcome) → Ends answer o a b → Complains (line_of o) a b → (files : Files) (s : Stop) → a.files ≡ Some files → answer files (Err s) →
      ((status_of o ≡ status_of (Stopped s)) × Complains (line_of (Stopped s)) a b) ⊎ (((status_of o ≡ 5) × Rose a.read_faults b.read_faults) ⊎ (status_of o ≡ 7))
  stopped_one one Accepted h said files s f g =
      let x = at_told a.files (λ files. (t : Texts) × answer files (Ok t) × Hold t a b) h.1 files f in
      absurd (one.one_sided files x.0 s x.1 g)
  stopped_one one NoRequest h said files s f g = absurd h
  stopped_one one (Stopped t) h said files s f g =
      let is : t ≡ s = one.one_stop files t s (at_told a.files (λ files. answer files (Err t)) h.0 files f) g in
      inl (ap (λ (y : Stop). status_of (Stopped y)) is, subst (λ (y : Stop). Complains (line_of (Stopped y)) a b) is said)
  stopped_one one (ReadFailed name) h said files s f g = inr (inl (refl, h.1))
  stopped_one one RequestFailed h said files s f g = absurd h
  stopped_one one WriteFailed h said files s f g =
      let x = at_told a.files (λ files. (t : Texts) × answer files (Ok t) × Begin t a b) h.1 files f in
      absurd (one.one_sided files x.0 s x.1 g)
  stopped_one one OutOfMemory h said files s f g = inr (inr refl)

  -- a conversation that broke off was not stopped
  broken_stop : IsOneStop answer → BreaksOff answer a b → (files : Files) (s : Stop) → a.files ≡ Some files → answer files (Err s) → ⊥
  broken_stop one h files s f g = let x = at_told a.files (λ files. (t : Texts) × answer files (Ok t) × Begin t a b) h files f in one.one_sided files x.0 s x.1 g

  answered_one : (o : Outcome) → Ends answer o a b → NoneRose a b → (status_of o ≡ 7 → ⊥) → IfSome a.files (λ files. (result : Result Texts Stop) × answer files result × (status_of o ≡ status_of (outcome_from result)))
  answered_one Accepted h none seven = if_some a.files _ _ (λ (files : Files) (y : (t : Texts) × answer files (Ok t) × Hold t a b). (Ok y.0, y.1, refl)) h.1
  answered_one NoRequest h none seven = absurd h
  answered_one (Stopped s) h none seven = if_some a.files _ _ (λ (files : Files) (e : answer files (Err s)). (Err s, e, refl)) h.0
  answered_one (ReadFailed name) h none seven = absurd (none.0 h.1)
  answered_one RequestFailed h none seven = absurd h
  answered_one WriteFailed h none seven = absurd (no_output a b none h.0)
  answered_one OutOfMemory h none seven = absurd (seven refl)

module _ {R : Type 0} (answers : R → Answer) (talks : R → Bool) (a b : Outside) where
  pub words_alone : (o : Outcome) (asked : Option R) → Happens answers talks o asked a b → WordsAlone (status_of o) asked
  words_alone o None h = (λ e. refl, λ e. unasked o a b h)
  words_alone RequestFailed (Some r) h = (λ e. absurd (omega arith), λ e. absurd (cc))
  words_alone o (Some r) h = (λ e. absurd (not_two (answers r) a b o (ended (talks r) (answers r) a b o (λ x. omega (arith, ap status_of x, e)) h) e), λ e. absurd (cc))

  pub complete : ((r : R) → talks r ≡ false → IsOne (answers r)) → (o : Outcome) (asked : Option R) → Happens answers talks o asked a b → IsComplete answers talks (status_of o) asked a b
  complete one o None h none r files t e plain f g = absurd (cc)
  complete one o (Some q) h none r files t e plain f g =
      let is : q ≡ r = cc in
      let at : EndsBy (talks r) (answers r) o a b = subst (λ (x : R). EndsBy (talks x) (answers x) o a b) is h in
      complete_one (answers r) a b (one r plain) o (subst (λ (t : Bool). EndsBy t (answers r) o a b) plain at) none files t f g

  stopped_by : (r : R) → IsOneStop (answers r) → (o : Outcome) → EndsBy (talks r) (answers r) o a b → Complains (line_of o) a b → (files : Files) (s : Stop) → a.files ≡ Some files → answers r files (Err s) →
      ((status_of o ≡ status_of (Stopped s)) × Complains (line_of (Stopped s)) a b) ⊎ (((status_of o ≡ 5) × Rose a.read_faults b.read_faults) ⊎ (status_of o ≡ 7))
  stopped_by r one RequestFailed h said files s f g = absurd (broken_stop (answers r) a b one (broken (talks r) (answers r) a b h).2 files s f g)
  stopped_by r one Accepted h said files s f g = stopped_one (answers r) a b one Accepted (ended (talks r) (answers r) a b Accepted (λ x. cc) h) said files s f g
  stopped_by r one NoRequest h said files s f g = stopped_one (answers r) a b one NoRequest (ended (talks r) (answers r) a b NoRequest (λ x. cc) h) said files s f g
  stopped_by r one (Stopped t) h said files s f g = stopped_one (answers r) a b one (Stopped t) (ended (talks r) (answers r) a b (Stopped t) (λ x. cc) h) said files s f g
  stopped_by r one (ReadFailed n) h said files s f g = stopped_one (answers r) a b one (ReadFailed n) (ended (talks r) (answers r) a b (ReadFailed n) (λ x. cc) h) said files s f g
  stopped_by r one WriteFailed h said files s f g = stopped_one (answers r) a b one WriteFailed (ended (talks r) (answers r) a b WriteFailed (λ x. cc) h) said files s f g
  stopped_by r one OutOfMemory h said files s f g = stopped_one (answers r) a b one OutOfMemory (ended (talks r) (answers r) a b OutOfMemory (λ x. cc) h) said files s f g

  pub stopped : ((r : R) → IsOneStop (answers r)) → (o : Outcome) (asked : Option R) → Happens answers talks o asked a b → Complains (line_of o) a b → IsStopped answers (status_of o) asked a b
  stopped one o None h said r files s e f g = absurd (cc)
  stopped one o (Some q) h said r files s e f g =
      let is : q ≡ r = cc in
      stopped_by r (one r) o (subst (λ (x : R). EndsBy (talks x) (answers x) o a b) is h) said files s f g

  pub answered : (o : Outcome) (asked : Option R) → Happens answers talks o asked a b → IsAnswered answers (status_of o) asked a b
  answered NoRequest None h none seven = if_always a.files _ (λ files. refl)
  answered OutOfMemory None h none seven = absurd (seven refl)
  answered _ None h none seven = absurd h
  answered RequestFailed (Some r) h none seven = absurd (none.0 (broken (talks r) (answers r) a b h).1)
  answered Accepted (Some r) h none seven = answered_one (answers r) a b Accepted (ended (talks r) (answers r) a b Accepted (λ x. cc) h) none seven
  answered NoRequest (Some r) h none seven = answered_one (answers r) a b NoRequest (ended (talks r) (answers r) a b NoRequest (λ x. cc) h) none seven
  answered (Stopped s) (Some r) h none seven = answered_one (answers r) a b (Stopped s) (ended (talks r) (answers r) a b (Stopped s) (λ x. cc) h) none seven
  answered (ReadFailed n) (Some r) h none seven = answered_one (answers r) a b (ReadFailed n) (ended (talks r) (answers r) a b (ReadFailed n) (λ x. cc) h) none seven
  answered WriteFailed (Some r) h none seven = answered_one (answers r) a b WriteFailed (ended (talks r) (answers r) a b WriteFailed (λ x. cc) h) none seven
  answered OutOfMemory (Some r) h none seven = absurd (seven refl)

  pub holds_answer : (o : Outcome) (asked : Option R) → Happens answers talks o asked a b → HoldsAnswer answers (status_of o) asked a b
  holds_answer o None h e = unasked_not o a b 0 h e (λ x. omega (arith, x)) (λ x. omega (arith, x))
  holds_answer Accepted (Some r) h e =
      let plain : Ends (answers r) Accepted a b = ended (talks r) (answers r) a b Accepted (λ x. cc) h in
      (plain.0, λ files f. (let x = at_told a.files (λ files. (t : Texts) × answers r files (Ok t) × Hold t a b) plain.1 files f in (r, x.0, refl, x.1, x.2)))
  holds_answer (Stopped (Missing name)) (Some r) h e = absurd (omega arith)
  holds_answer _ (Some r) h e = absurd (omega arith)

  pub holds_front : (o : Outcome) (asked : Option R) → Happens answers talks o asked a b → HoldsFront answers (status_of o) asked a b
  holds_front o None h e = unasked_not o a b 6 h e (λ x. omega (arith, x)) (λ x. omega (arith, x))
  holds_front WriteFailed (Some r) h e = λ files f.
      let plain : Ends (answers r) WriteFailed a b = ended (talks r) (answers r) a b WriteFailed (λ x. cc) h in
      let x = at_told a.files (λ files. (t : Texts) × answers r files (Ok t) × Begin t a b) plain.1 files f in
      (r, x.0, refl, x.1, x.2)
  holds_front (Stopped (Missing name)) (Some r) h e = absurd (omega arith)
  holds_front _ (Some r) h e = absurd (omega arith)

  pub true_stop : (o : Outcome) (asked : Option R) → Happens answers talks o asked a b → IsTrueStop answers (status_of o) asked a
  true_stop o None h (inl e) = unasked_not o a b 3 h e (λ x. omega (arith, x)) (λ x. omega (arith, x))
  true_stop o None h (inr e) = unasked_not o a b 4 h e (λ x. omega (arith, x)) (λ x. omega (arith, x))
  true_stop (Stopped s) (Some r) h e = λ files f.
      let plain : Ends (answers r) (Stopped s) a b = ended (talks r) (answers r) a b (Stopped s) (λ x. cc) h in
      (r, s, refl, at_told a.files (λ files. answers r files (Err s)) plain.0 files f, refl)
  true_stop _ (Some r) h e = elim e [ inl x ↦ absurd (omega arith) | inr x ↦ absurd (omega arith) ]

  pub has_cause : (o : Outcome) (asked : Option R) → Happens answers talks o asked a b → HasCause (status_of o) a b
  has_cause o None h = (λ e. unasked_not o a b 5 h e (λ x. omega (arith, x)) (λ x. omega (arith, x)), λ e. unasked_not o a b 6 h e (λ x. omega (arith, x)) (λ x. omega (arith, x)))
  has_cause (ReadFailed name) (Some r) h = let plain : Ends (answers r) (ReadFailed name) a b = ended (talks r) (answers r) a b (ReadFailed name) (λ x. cc) h in (λ e. plain.1, λ e. absurd (omega arith))
  has_cause RequestFailed (Some r) h = (λ e. (broken (talks r) (answers r) a b h).1, λ e. absurd (omega arith))
  has_cause WriteFailed (Some r) h = let plain : Ends (answers r) WriteFailed a b = ended (talks r) (answers r) a b WriteFailed (λ x. cc) h in (λ e. absurd (omega arith), λ e. plain.0)
  has_cause (Stopped (Missing name)) (Some r) h = (λ e. absurd (omega arith), λ e. absurd (omega arith))
  has_cause _ (Some r) h = (λ e. absurd (omega arith), λ e. absurd (omega arith))

  pub complains_alone : (o : Outcome) (asked : Option R) → Happens answers talks o asked a b → ComplainsAlone talks (status_of o) asked a b
  complains_alone Accepted asked h zero six five = absurd (zero refl)
  complains_alone WriteFailed asked h zero six five = absurd (six refl)
  complains_alone (Stopped s) (Some r) h zero six five = (ended (talks r) (answers r) a b (Stopped s) (λ x. cc) h).1
  complains_alone (ReadFailed name) (Some r) h zero six five = (ended (talks r) (answers r) a b (ReadFailed name) (λ x. cc) h).2
  complains_alone RequestFailed (Some r) h zero six five = let is : talks r ≡ true = (broken (talks r) (answers r) a b h).0 in let not_so : talks r ≡ false = five refl in absurd (cc)
  complains_alone NoRequest (Some r) h zero six five = absurd (ended (talks r) (answers r) a b NoRequest (λ x. cc) h)
  complains_alone OutOfMemory (Some r) h zero six five = ended (talks r) (answers r) a b OutOfMemory (λ x. cc) h
  complains_alone NoRequest None h zero six five = h
  complains_alone OutOfMemory None h zero six five = h
  complains_alone _ None h zero six five = absurd h

  pub broken_off : (o : Outcome) (asked : Option R) → Happens answers talks o asked a b → IsBrokenOff answers talks (status_of o) asked a b
  broken_off o None h e = unasked_not o a b 5 h e (λ x. omega (arith, x)) (λ x. omega (arith, x))
  broken_off (ReadFailed name) (Some r) h e = inl (ended (talks r) (answers r) a b (ReadFailed name) (λ x. cc) h).2
  broken_off RequestFailed (Some r) h e =
      let x = broken (talks r) (answers r) a b h in
      inr (r, refl, x.0, λ files f. at_told a.files (λ files. (t : Texts) × answers r files (Ok t) × Begin t a b) x.2 files f)
  broken_off (Stopped (Missing name)) (Some r) h e = absurd (omega arith)
  broken_off _ (Some r) h e = absurd (omega arith)

pub is_status : (o : Outcome) → IsStatus (status_of o)
is_status Accepted = inl refl
is_status NoRequest = inr (inl refl)
is_status (Stopped (Refused name r)) = inr (inr (inl refl))
is_status (Stopped (Missing name)) = inr (inr (inr (inl refl)))
is_status (ReadFailed name) = inr (inr (inr (inr (inl refl))))
is_status RequestFailed = inr (inr (inr (inr (inl refl))))
is_status WriteFailed = inr (inr (inr (inr (inr (inl refl)))))
is_status OutOfMemory = inr (inr (inr (inr (inr (inr refl)))))
