-- Variables that a reader can tell apart.
use Rattle.std.specs.Prelude.{ℕ, ◌≡◌, ◌<◌, ◌≤◌, Bool, true, not, ◌&&◌, List, [], ◌∷◌, ◌++◌, length, map}
use Rattle.std.specs.List.{list_all, list_any}
use Rattle.std.specs.Str.{bytes_eq}
use Rattle.text_model.specs.Wave.{Variable}
use Rattle.wave_decode.specs.Head.{is_name}

abbrev pub names_of : List Variable → List (List ℕ)
names_of variables = map (λ v. v.name) variables

-- no name is an earlier one, or is there twice
abbrev pub are_new : List (List ℕ) → List (List ℕ) → Bool
are_new earlier [] = true
are_new earlier (name ∷ names) = not (list_any (bytes_eq name) earlier) && are_new (earlier ++ name ∷ []) names

-- 1 to 8,930 variables, each with a name of its own
pub record AreNamed (variables : List Variable) : Type 0 where
  pub some : 0 < length variables
  pub few : length variables ≤ 8930
  pub good : list_all is_name (names_of variables) ≡ true
  pub new : are_new [] (names_of variables) ≡ true
