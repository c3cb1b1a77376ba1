-- A file that is judged by a relation.
use Rattle.std.proofs.Common.{◌≡◌, ◌⊎◌, ◌∙◌, ℕ, List, refl, ap, sym, Result, Ok, Err, inl, inr, IfSome, Option}
use Rattle.sim_base.specs.declared.fault.Refusal.{Refusal}
use Rattle.sim_base.specs.Outside.{Outside, Files}
use Rattle.sim_outcome_model.specs.Stop.{Stop, Missing, Refused, file_within, JudgedAs}
use Rattle.sim_outcome_model.specs.Outcome.{Outcome, Stopped, OutOfMemory}
use Rattle.sim_outcome_model.specs.Work.{IsFile, JudgedFile, ReadStops, IsSteady, IsOneReading}
use Rattle.sim_outcome_model.proofs.ReadLemmas.{if_some, steady_file, steady_both, one_file, one_both}

module _ {X : Type 0} (name : List ℕ) (judges : List ℕ → Result X Refusal → Type 0) where
  -- it is judged alike where another is not there
  pub steady_judged : IsSteady (JudgedFile name judges)
  steady_judged = steady_both _ _ (steady_file name (λ bytes. Ok bytes)) (λ bytes files n x e. inl e)

  -- it stops once, where bytes are refused once
  module _ (once : (bytes : List ℕ) (r q : Refusal) → judges bytes (Err r) → judges bytes (Err q) → r ≡ q) where
    pub once_as : (bytes : List ℕ) (t s : Stop) → JudgedAs name (judges bytes) (Err t) → JudgedAs name (judges bytes) (Err s) → t ≡ s
    once_as bytes (Missing n) s e g = absurd e
    once_as bytes (Refused n r) (Missing m) e g = absurd g
    once_as bytes (Refused n r) (Refused m q) e g =
        ap (λ (l : List ℕ). Refused l r) (e.0 ∙ sym g.0) ∙ ap (λ (z : Refusal). Refused m z) (once bytes r q e.1 g.1)

  -- it is one thing or one stop, where bytes are worth one thing or refused once, and not both
  module _ (same : (bytes : List ℕ) (x y : X) → judges bytes (Ok x) → judges bytes (Ok y) → x ≡ y) (apart : (bytes : List ℕ) (x : X) (r : Refusal) → judges bytes (Ok x) → judges bytes (Err r) → ⊥)
      (once : (bytes : List ℕ) (r q : Refusal) → judges bytes (Err r) → judges bytes (Err q) → r ≡ q) where
    side_as : (bytes : List ℕ) (x : X) (s : Stop) → judges bytes (Ok x) → JudgedAs name (judges bytes) (Err s) → ⊥
    side_as bytes x (Missing other) e g = absurd g
    side_as bytes x (Refused other r) e g = apart bytes x r e g.1

    pub one_judged : IsOneReading (JudgedFile name judges)
    one_judged =
        one_both _ _ (one_file name (λ bytes. Ok bytes)) (λ bytes. record { one_sided = λ files. side_as bytes; one_given = λ files. same bytes; one_stop = λ files. once_as once bytes })

  -- what was read is judged
  pub judged : (told : Option Files) (bytes : List ℕ) (r : Result X Stop) → IfSome told (λ files. IsFile name (λ bytes. Ok bytes) files (Ok bytes)) → JudgedAs name (judges bytes) r →
      IfSome told (λ files. JudgedFile name judges files r)
  judged told bytes r read j = if_some told _ _ (λ (files : Files) (e : file_within 1048576 files name (λ bytes. Ok bytes) ≡ Ok bytes). (Ok bytes, e, j)) read

  pub refused : (bytes : List ℕ) (r : Refusal) (said : Outcome) (a b : Outside) → IfSome a.files (λ files. IsFile name (λ bytes. Ok bytes) files (Ok bytes)) → judges bytes (Err r) →
      (said ≡ Stopped (Refused name r)) ⊎ (said ≡ OutOfMemory) → ReadStops said (JudgedFile name judges) a b
  refused bytes r said a b read j (inr is) = rw is tt
  refused bytes r said a b read j (inl is) = rw is (judged a.files bytes (Err (Refused name r)) read (refl, j))
