-- What the projects of two folders share where one is the twin of the other: all but what their chips are made of (profile).
use Rattle.std.specs.Prelude.{ℕ, zero, suc, List, ◌∷◌, map, Bool, true, false, ◌&&◌, ◌==◌, if◌then◌else◌, Option, None, Some, Result, Ok, Err, codes, slice_index}
use Rattle.std.specs.Str.{bytes_eq}
use Rattle.sim_base.specs.declared.fault.Place.TheVariants as places
use Rattle.sim_refusals.specs.Refusals.{TwinDiffers}
use Rattle.document_model.specs.declared.project.ChipFile.{ChipFile}
use Rattle.sim_outcome_model.specs.Stop.{Stop, Refused}
use Rattle.sim_outcome_model.specs.Work.{Reading, Is, Then}
use Rattle.board_model.specs.Rows.{same_list}
use Rattle.chip_module.specs.declared.source.ChipSource.{ChipSource}
use Rattle.project_model.specs.Work.{Work, WorkIn, in_folder}

-- a project, and its twin
pub record Pair : Type 0 where
  pub one : Work
  pub other : Work

-- the names of the chips in the order of the project
abbrev pub names_of : List ChipFile → List (List ℕ)
names_of chips = map (λ chip. chip.name) chips

-- two images have the same byte at each address below n
unfoldable pub same_below : ℕ → List ℕ → List ℕ → Bool
same_below zero a b = true
same_below (suc n) a b = same_below n a b && (slice_index a n == slice_index b n)

-- two images of the flash of 32,768 bytes
abbrev pub same_flash : List ℕ → List ℕ → Bool
same_flash a b = same_below 32768 a b

-- two pins have one name, or are both skipped
abbrev pub same_pin : Option (List ℕ) → Option (List ℕ) → Bool
same_pin None None = true
same_pin (Some a) (Some b) = bytes_eq a b
same_pin a b = false

-- the pin file of the first chip whose list of pins is another
unfoldable pub other_pins : List ChipFile → List ChipSource → List ChipSource → Option (List ℕ)
other_pins (file ∷ files) (a ∷ one) (b ∷ two) = if same_list same_pin a.pins b.pins then other_pins files one two else Some file.json
other_pins files one two = None

-- The path of the first file of the second folder, in the order in which they are read, in which the two differ: the project's,
-- where the chips have other names; the firmware, where it has another image; the diagram, where it has other bytes; the pin
-- file of a chip, where it lists other pins.
abbrev pub other_path : Work → Work → Option (List ℕ)
other_path a b =
    if same_list bytes_eq (names_of a.project.chips) (names_of b.project.chips)
    then if same_flash a.flash b.flash
    then if bytes_eq a.diagram b.diagram then other_pins b.project.chips a.chips b.chips else Some (codes "diagram.json")
    else Some b.project.firmware
    else Some (codes "wokwi.toml")

abbrev pub paired : List ℕ → Pair → Option (List ℕ) → Result Pair Stop
paired folder pair None = Ok pair
paired folder pair (Some path) = Err (Refused (in_folder folder path) (record { number = TwinDiffers; place = places.Whole }))

-- The two projects: all that is to be read and checked of the first folder, then all of the second, and then whether they are twins.
abbrev pub PairIn : List ℕ → List ℕ → Reading Pair
PairIn folder other =
    Then (WorkIn folder None None) (λ a. Then (WorkIn other None None)
    (λ b. Is (λ files. paired other (record { one = a; other = b }) (other_path a b))))
