-- Nets with what joins them. No public clause cites this.
use Rattle.std.specs.Prelude.{ℕ, List, Bool}
use Rattle.sim_base.specs.declared.signal.Drive.{Drive}
use Rattle.sim_base.specs.declared.signal.Level.{Level}
use Rattle.board_model.specs.Resolve.{resolve}

pub record WholeView : Type 0 where
  pub nets : ℕ
  pub net_of : List ℕ
  pub contacts : List (ℕ × ℕ)
  pub resistors : List (ℕ × ℕ)

abbrev pub whole_with : ℕ → List ℕ → List (ℕ × ℕ) → List (ℕ × ℕ) → WholeView
whole_with nets net_of contacts resistors = record { nets = nets; net_of = net_of; contacts = contacts; resistors = resistors }

-- the levels by these contacts and drives
abbrev pub levels_of : WholeView → List Bool → List Drive → List Level
levels_of w closed ds = resolve w.nets w.net_of w.contacts w.resistors closed ds
