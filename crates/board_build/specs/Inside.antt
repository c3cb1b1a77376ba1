-- What lies between pins of one part, by the name that the code gives it. No public clause cites this.
use Rattle.std.specs.Prelude.{ℕ, List, Option}
use Rattle.board_build.specs.declared.plan.PlanKind.{PlanKind}
use Rattle.board_build.specs.declared.wiring.Inside.{Inside}
use Rattle.board_build.specs.declared.wiring.Inside.TheVariants as insides
use Rattle.board_build.specs.Pins.{joins_in, contacts_inside, resistors_in}

abbrev pub inside_of : Inside → Option PlanKind → List (ℕ × ℕ)
inside_of insides.Joins kind = joins_in kind
inside_of insides.Contacts kind = contacts_inside kind
inside_of insides.Resistors kind = resistors_in kind
