-- How a reader keeps what the lines after a head say of two variables. No public clause cites this.
use Rattle.std.specs.Prelude.{ℕ, ◌≤◌, ◌≡◌, Bool, List, [], ◌∷◌, Option, None, Some, Result, Ok, Err}
use Rattle.std.specs.List.{All}
use Rattle.sim_base.specs.declared.fault.Refusal.{Refusal}
use Rattle.sim_base.specs.declared.signal.Level.TheVariants as levels
use Rattle.wave_lines.specs.Gifts.{AreGiven}
use Rattle.wave_lines.specs.Reading.{Change}
use Rattle.wave_decode.specs.Levels.{LevelRow, Levels, changes_in, no_variable, rows_said}

-- the rows of a variable of which nothing is said
abbrev pub unsaid : List LevelRow
unsaid = (0, levels.Z) ∷ []

-- the last cycle, and the rows of one variable and of another
pub record BodyRows : Type 0 where
  pub cycles : ℕ
  pub first : List LevelRow
  pub second : List LevelRow

abbrev pub body_rows : Option ℕ → Option ℕ → Result (ℕ × List Change) Refusal → Result BodyRows Refusal
body_rows first second (Ok (cycles, said)) =
    Ok (record { cycles = cycles; first = rows_said first said cycles; second = rows_said second said cycles })
body_rows first second (Err r) = Err r

abbrev pub read_body : Option ℕ → Option ℕ → ℕ → ℕ → List ℕ → Result BodyRows Refusal
read_body first second count number text = body_rows first second (changes_in count number text)

-- the levels that these are
abbrev pub of_body : Option ℕ → Option (Option ℕ) → BodyRows → Result Levels Refusal
of_body None second body = no_variable
of_body (Some i) None body = Ok (record { cycles = body.cycles; rows = body.first ∷ [] })
of_body (Some i) (Some None) body = no_variable
of_body (Some i) (Some (Some j)) body = Ok (record { cycles = body.cycles; rows = body.first ∷ body.second ∷ [] })

-- the variable of a second name, if there is one
abbrev pub flat : Option (Option ℕ) → Option ℕ
flat None = None
flat (Some i) = i

-- what is kept is what changes say, none of which is later than a cycle
pub record AreKept (count : ℕ) (first second : Option ℕ) (cycle : ℕ) (said : List Change) (given : List Bool) (of_first of_second : List LevelRow) : Type 0 where
  pub so_far : All (λ (c : Change). c.cycle ≤ cycle) said
  pub all_given : AreGiven count said given
  pub first_rows : of_first ≡ rows_said first said cycle
  pub second_rows : of_second ≡ rows_said second said cycle
