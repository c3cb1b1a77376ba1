-- How the lines are written: in pieces, each kept until it is full. No public clause cites this.
use Rattle.std.specs.Prelude.{◌≡◌, ℕ, ◌==◌, List, [], ◌∷◌, ◌++◌, Bool, not, if◌then◌else◌}
use Rattle.sim_base.specs.declared.bench.Port.TheVariants as ports
use Rattle.sim_base.specs.declared.bench.WriteEnd.{WriteEnd}
use Rattle.sim_base.specs.Outside.{Outside}
use Rattle.sim_outcome_model.specs.Work.{Wrote}
use Rattle.chip_report.specs.Lines.{shown}

-- a text was written on Report up to its end, which is left
abbrev pub IsLeft : WriteEnd → List ℕ → List ℕ → Outside → Outside → Type 0
IsLeft end left text a b = (before : List ℕ) × Wrote end ports.Report before a b × (before ++ left ≡ text)

-- what is left before one step is left after the other, but for a first part
abbrev pub Goes : WriteEnd → List ℕ → WriteEnd → List ℕ → Outside → Outside → Type 0
Goes end left after rest b c = (a : Outside) (text : List ℕ) → IsLeft end left text a b → IsLeft after rest text a c

-- a byte of a console as it is written
abbrev pub written : ℕ → ℕ
written b = if b == 10 then 10 else shown b

-- its text, where a line is begun or not
abbrev pub byte_text : List ℕ → Bool → ℕ → List ℕ
byte_text word begun b = (if begun then [] else word) ++ (written b ∷ [])

-- what ends a line that is begun
abbrev pub line_end : Bool → List ℕ
line_end begun = if begun then 10 ∷ [] else []

-- the lines of the rest of a console
abbrev pub rest_text : List ℕ → Bool → List ℕ → List ℕ
rest_text word begun [] = line_end begun
rest_text word begun (b ∷ bs) = byte_text word begun b ++ rest_text word (not (b == 10)) bs
