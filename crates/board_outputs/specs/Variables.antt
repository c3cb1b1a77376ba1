-- What the wave of a board shows: the pins of its parts, in the order of parts and pins (profile).
use Rattle.std.specs.Prelude.{ℕ, suc, List, [], ◌∷◌, ◌++◌, take, codes, map, Bool, true, false, Option, None, Some, slice_index}
use Rattle.text_model.specs.Wave.{Variable, Source, Net, Strong, Weak}
use Rattle.part_catalog.specs.declared.kind.Kind.TheVariants as kinds
use Rattle.part_catalog.specs.Pins.{pin_names}
use Rattle.board_build.specs.declared.plan.PlanKind.{PlanKind}
use Rattle.board_build.specs.declared.plan.PlanKind.TheVariants as plans
use Rattle.board_build.specs.declared.plan.PlanPart.{PlanPart}
use Rattle.board_build.specs.declared.plan.Plan.{Plan}
use Rattle.board_build.specs.Parts.{is_chip}
use Rattle.board_build.specs.Pins.{pins_of_chip}

-- The pins that are shown: of an Uno the 20 digital pins 0 to 13 and A0 to A5, of a chip those that have names, of any other
-- part all. `chip_pins` has the pins of each chip of the project.
abbrev pub shown_names : List (List (Option (List ℕ))) → PlanKind → List (Option (List ℕ))
shown_names chip_pins (plans.Stock kinds.ArduinoUno) = map Some (take 20 (pin_names kinds.ArduinoUno))
shown_names chip_pins (plans.Stock kind) = map Some (pin_names kind)
shown_names chip_pins (plans.Chip chip) = pins_of_chip chip_pins chip

-- a variable of a part's pin, under the part's id and the pin's own name
abbrev pub variable : List ℕ → List ℕ → List ℕ → Source → Variable
variable id name end shows = record { name = id ++ (codes "." ++ (name ++ end)); shows = shows }

-- a pin shows the level of its net; one of a chip also what it drives strongly, and what it drives weakly
abbrev pub pin_variables : List ℕ → List ℕ → Bool → ℕ → Option (List ℕ) → List Variable
pin_variables net_of id chip pin None = []
pin_variables net_of id false pin (Some name) = variable id name [] (Net (slice_index net_of pin)) ∷ []
pin_variables net_of id true pin (Some name) =
    variable id name [] (Net (slice_index net_of pin)) ∷ (variable id name (codes ".out") (Strong pin) ∷ (variable id name (codes ".pull") (Weak pin) ∷ []))

-- the pins of a part from one on
unfoldable pub pins_variables : List ℕ → List ℕ → Bool → ℕ → List (Option (List ℕ)) → List Variable
pins_variables net_of id chip pin [] = []
pins_variables net_of id chip pin (name ∷ names) = pin_variables net_of id chip pin name ++ pins_variables net_of id chip (suc pin) names

-- those of a part whose pins begin at `first`
abbrev pub part_variables : List (List (Option (List ℕ))) → List ℕ → ℕ → PlanPart → List Variable
part_variables chip_pins net_of first part = pins_variables net_of part.id (is_chip (Some part.kind)) first (shown_names chip_pins part.kind)

-- those of parts whose pins begin at `firsts`
unfoldable pub parts_variables : List (List (Option (List ℕ))) → List ℕ → List ℕ → List PlanPart → List Variable
parts_variables chip_pins net_of [] parts = []
parts_variables chip_pins net_of (first ∷ firsts) [] = []
parts_variables chip_pins net_of (first ∷ firsts) (part ∷ parts) = part_variables chip_pins net_of first part ++ parts_variables chip_pins net_of firsts parts

abbrev pub board_variables : List (List (Option (List ℕ))) → Plan → List Variable
board_variables chip_pins plan = parts_variables chip_pins plan.wiring.net_of plan.wiring.first_pin plan.parts
