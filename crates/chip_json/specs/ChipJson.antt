-- The file of a chip's pins, a JSON text (RFC 8259, "Objects", "Arrays", "Strings"; Wokwi, "Chip JSON File"; the form and number of
-- the names and the order of the refusals are the profile's).
use Rattle.std.specs.Prelude.{ℕ, ◌&&◌, not, nat_le, ◌==◌, if◌then◌else◌, Bool, true, List, [], ◌∷◌, ◌++◌, length, map, codes, Option, Some, None, Result, Ok, ok_or}
use Rattle.std.specs.List.{list_any}
use Rattle.std.specs.Str.{bytes_eq}
use Rattle.serde_json.specs.Data.{Data}
use Rattle.serde_json.specs.Find.{as_str}
use Rattle.sim_base.specs.declared.fault.Refusal.{Refusal}
use Rattle.sim_base.specs.declared.fault.Place.TheVariants as places
use Rattle.sim_base.specs.Names.{is_name}
use Rattle.sim_refusals.specs.Refusals.{ChipText, ChipShape, ChipPinName, ChipLimit}
use Rattle.document_model.specs.Json.{array_at, json_document, string_at}
use Rattle.document_model.specs.Reading.{◌>>=◌, refusal, checked}

-- 1 to 32 printable ASCII characters other than the space and the colon
abbrev pub is_pin_name : List ℕ → Bool
is_pin_name text = nat_le (length text) 32 && is_name text

-- the pin at a position, none where it is skipped
abbrev pub pin_of : List ℕ → Option (List ℕ)
pin_of text = if is_pin_name text then Some text else None

abbrev pub is_skipped : List ℕ → Bool
is_skipped text = length text == 0

-- Each position is skipped, or has a name that none before it has.
abbrev pub are_pin_names : List (List ℕ) → List (List ℕ) → Bool
are_pin_names before [] = true
are_pin_names before (text ∷ texts) =
    if is_skipped text then are_pin_names before texts
    else is_pin_name text && (not (list_any (bytes_eq text) before) && are_pin_names (before ++ text ∷ []) texts)

abbrev pub put_before : Option (List ℕ) → Option (List (List ℕ)) → Option (List (List ℕ))
put_before None rest = None
put_before (Some text) None = None
put_before (Some text) (Some texts) = Some (text ∷ texts)

-- items that are strings, all of them
abbrev pub strings_of : List Data → Option (List (List ℕ))
strings_of [] = Some []
strings_of (d ∷ ds) = put_before (as_str d) (strings_of ds)

-- the names of all positions, else 52; and then at most 64 positions, else 53
abbrev pub pins_from : List (List ℕ) → Result (List (Option (List ℕ))) Refusal
pins_from texts = do
  names ← checked (are_pin_names [] texts) texts (refusal ChipPinName places.Whole)
  few ← checked (nat_le (length names) 64) names (refusal ChipLimit places.Whole)
  Ok (map pin_of few)

-- an object with the string `name` and the array `pins` of strings, else 51
abbrev pub chip_of : Data → Result (List (Option (List ℕ))) Refusal
chip_of d = do
  name ← ok_or (string_at (codes "name") d) (refusal ChipShape places.Whole)
  items ← ok_or (array_at (codes "pins") d) (refusal ChipShape places.Whole)
  texts ← ok_or (strings_of items) (refusal ChipShape places.Whole)
  pins_from texts

-- The pins that a text stands for, or the refusal.
abbrev pub chip_text : List ℕ → Result (List (Option (List ℕ))) Refusal
chip_text bytes = json_document ChipText bytes >>= chip_of
