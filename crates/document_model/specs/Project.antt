-- A project file, a TOML text (TOML 1.1, "Table", "Array of Tables", "String", "Integer"; Wokwi, "wokwi.toml"; the limit,
-- the form of names and paths and the order of the refusals are the profile's).
use Rattle.std.specs.Prelude.{ℕ, ◌+◌, ◌-◌, ◌&&◌, nat_le, ◌==◌, Bool, false, not, List, [], ◌∷◌, ◌++◌, length, take, codes, ℤ, pos, negsuc, Option, Some, None, Result, Ok, option_and_then, option_map, ok_or}
use Rattle.std.specs.List.{list_any, ends_with}
use Rattle.std.specs.Str.{bytes_eq}
use Rattle.toml.specs.Data.{Data, get, as_array, as_integer}
use Rattle.sim_base.specs.declared.fault.Refusal.{Refusal}
use Rattle.sim_base.specs.declared.fault.Place.TheVariants as places
use Rattle.sim_refusals.specs.Refusals.{TomlShape}
use Rattle.sim_base.specs.Names.{is_name}
use Rattle.document_model.specs.declared.project.Project.{Project}
use Rattle.document_model.specs.declared.project.ChipFile.{ChipFile}
use Rattle.document_model.specs.Toml.{elements, string_at, toml_document}
use Rattle.document_model.specs.Reading.{◌>>=◌, refusal, checked}

-- the whole number 1
abbrev pub is_one : Option ℤ → Bool
is_one None = false
is_one (Some (pos n)) = n == 1
is_one (Some (negsuc n)) = false

-- The table `wokwi` has the whole number `version` 1 and the string `firmware`.
abbrev pub firmware_of : Data → Result (List ℕ) Refusal
firmware_of d = do
  wokwi ← ok_or (get (codes "wokwi") d) (refusal TomlShape places.Whole)
  firmware ← ok_or (string_at (codes "firmware") wokwi) (refusal TomlShape places.Whole)
  checked (is_one (option_and_then as_integer (get (codes "version") wokwi))) firmware (refusal TomlShape places.Whole)

-- how many chips a project may have
abbrev pub most_chips : ℕ
most_chips = 8

-- the items of the key `chip`: none where it is absent, and nothing where it is no array
abbrev pub chip_items : Option Data → Option (List Data)
chip_items None = Some []
chip_items (Some d) = option_map elements (as_array d)

-- a path without its last five characters, `.wasm`
abbrev pub stem : List ℕ → List ℕ
stem path = take (length path - 5) path

abbrev pub is_binary : List ℕ → Bool
is_binary path = ends_with (λ a b. a == b) path (codes ".wasm")

abbrev pub is_repeated : List ℕ → List ChipFile → Bool
is_repeated name chips = list_any (λ chip. bytes_eq chip.name name) chips

-- Chip k after others: its strings `name`, a name that none of them has, and `binary`, which ends in `.wasm`; else 31.
-- The file of its pins is the binary's with `.json` in place of `.wasm`.
abbrev pub chip_of : List ChipFile → ℕ → Data → Result ChipFile Refusal
chip_of chips k d = do
  name ← ok_or (string_at (codes "name") d) (refusal TomlShape (places.Chip k))
  binary ← ok_or (string_at (codes "binary") d) (refusal TomlShape (places.Chip k))
  checked (is_name name && (not (is_repeated name chips) && is_binary binary))
      (record { name = name; binary = binary; json = stem binary ++ codes ".json" })
      (refusal TomlShape (places.Chip k))

-- the chips after others, which count from 1
unfoldable pub chips_after : List ChipFile → List Data → Result (List ChipFile) Refusal
chips_after chips [] = Ok chips
chips_after chips (d ∷ ds) = do
  chip ← chip_of chips (length chips + 1) d
  chips_after (chips ++ chip ∷ []) ds

-- at most so many chips, else 31, and then each of them
abbrev pub chips_of : Data → Result (List ChipFile) Refusal
chips_of d = do
  items ← ok_or (chip_items (get (codes "chip") d)) (refusal TomlShape places.Whole)
  few ← checked (nat_le (length items) most_chips) items (refusal TomlShape places.Whole)
  chips_after [] few

-- The table `wokwi`, and then the array `chip` that stands beside it.
abbrev pub project_of : Data → Result Project Refusal
project_of d = do
  firmware ← firmware_of d
  chips ← chips_of d
  Ok (record { firmware = firmware; chips = chips })

-- The project that a text stands for, or the refusal with its place.
abbrev pub project_text : List ℕ → Result Project Refusal
project_text bytes = toml_document bytes >>= project_of
