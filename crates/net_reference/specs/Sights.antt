-- What is seen of nets as arguments of the definitions. No public clause cites it.
use Rattle.std.specs.Prelude.{ℕ, List, Bool}
use Rattle.sim_base.specs.declared.signal.Drive.{Drive}
use Rattle.net_reference.specs.declared.plain.Sight.{Sight}

-- a definition over the nets that are seen
abbrev pub over : {A : Type 0} → Sight → (ℕ → List ℕ → List (ℕ × ℕ) → List (ℕ × ℕ) → List Bool → List Drive → A) → A
over s f = f s.nets s.net_of.now s.contacts.now s.resistors.now s.closed.now s.drives.now
