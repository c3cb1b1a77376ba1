-- How a document is read: step by step, and the first refusal is the answer.
use Rattle.std.specs.Prelude.{ℕ, suc, Bool, true, false, List, [], ◌∷◌, Result, Ok, Err}
use Rattle.sim_base.specs.declared.fault.Refusal.{Refusal}
use Rattle.sim_base.specs.declared.fault.Place.{Place}

infixl 10 ◌>>=◌
abbrev pub ◌>>=◌ : {A B : Type 0} → Result A Refusal → (A → Result B Refusal) → Result B Refusal
(Ok x) >>= f = f x
(Err r) >>= f = Err r

abbrev pub refusal : ℕ → Place → Refusal
refusal number place = record { number = number; place = place }

-- what passes a test, or a refusal
abbrev pub checked : {A : Type 0} → Bool → A → Refusal → Result A Refusal
checked true x r = Ok x
checked false x r = Err r

-- What the items of an array are read as, in order; they count from k.
unfoldable pub each_from : {D A : Type 0} → (ℕ → D → Result A Refusal) → ℕ → List D → Result (List A) Refusal
each_from f k [] = Ok []
each_from f k (d ∷ ds) = do
  x ← f k d
  xs ← each_from f (suc k) ds
  Ok (x ∷ xs)
