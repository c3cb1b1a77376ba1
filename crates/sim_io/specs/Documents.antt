-- What is read from a file.
use Rattle.std.specs.Prelude.{◌≡◌, ℕ, List, Result, Ok}
use Rattle.sim_base.specs.declared.fault.Refusal.{Refusal}

-- some bytes are read as this
abbrev pub IsRead : {X : Type 0} → (List ℕ → Result X Refusal) → X → Type 0
IsRead reading x = (bytes : List ℕ) × (reading bytes ≡ Ok x)
