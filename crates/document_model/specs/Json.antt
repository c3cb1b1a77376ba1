-- Words of JSON (RFC 8259, "Objects", "Arrays", "Numbers", "Strings") for what a document says.
use Rattle.std.specs.Prelude.{ℕ, if◌then◌else◌, List, [], ◌∷◌, Option, None, Result, option_and_then, option_map, ok_or}
use Rattle.std.specs.Fmt.{signed_decimal}
use Rattle.std.specs.Str.{is_utf8}
use Rattle.serde_json.specs.Data.{Num, Data, Items, no_items, item}
use Rattle.serde_json.specs.Find.{get, at, as_array, as_integer, as_str}
use Rattle.serde_json.specs.Read.{read}
use Rattle.sim_base.specs.declared.fault.Refusal.{Refusal}
use Rattle.sim_base.specs.declared.fault.Place.TheVariants as places
use Rattle.document_model.specs.Reading.{refusal}

-- the items of an array, as a list
abbrev pub elements : Items → List Data
elements no_items = []
elements (item d ds) = d ∷ elements ds

-- a member that is a string, or an array
abbrev pub string_at : List ℕ → Data → Option (List ℕ)
string_at key d = option_and_then as_str (get key d)

abbrev pub array_at : List ℕ → Data → Option (List Data)
array_at key d = option_map elements (option_and_then as_array (get key d))

-- an item of an array that is a string; items count from 0
abbrev pub string_in : ℕ → Data → Option (List ℕ)
string_in i d = option_and_then as_str (at i d)

-- A whole number in decimal digits: a number without fraction and exponent, not `-0`, from -2^63 to 2^64 - 1 (profile).
-- Any other one is read as a float, which has no text.
abbrev pub number_text : Num → Option (List ℕ)
number_text n = option_map signed_decimal (as_integer n)

-- the document that the bytes are, or the refusal for bytes that are none
abbrev pub json_document : ℕ → List ℕ → Result Data Refusal
json_document number bytes = ok_or (if is_utf8 bytes then read bytes else None) (refusal number places.Whole)
