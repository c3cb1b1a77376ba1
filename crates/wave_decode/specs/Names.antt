-- Names that are lent, as lists of their bytes, and what a head is kept as. No public clause cites this.
use Rattle.std.specs.Prelude.{ℕ, List, length, map, Option, Result, Ok, Err}
use Rattle.std.specs.Borrow.{Bor}
use Rattle.std.specs.Option.{option_map}
use Rattle.sim_base.specs.declared.fault.Refusal.{Refusal}
use Rattle.wave_decode.specs.Head.{Head}
use Rattle.wave_decode.specs.Levels.{number_in}

abbrev pub texts_in : List (Bor (List ℕ)) → List (List ℕ)
texts_in texts = map (λ (t : Bor (List ℕ)). t.now) texts

-- how many variables there are, which have the names, and what stands after the head
pub record Found : Type 0 where
  pub variables : ℕ
  pub first : Option ℕ
  pub second : Option (Option ℕ)
  pub number : ℕ
  pub rest : List ℕ

abbrev pub found : List ℕ → Option (List ℕ) → Result Head Refusal → Result Found Refusal
found first second (Ok head) = Ok (record {
  variables = length head.names;
  first = number_in head.names first;
  second = option_map (number_in head.names) second;
  number = head.number;
  rest = head.rest;
})
found first second (Err r) = Err r
