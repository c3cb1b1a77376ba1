-- Words of TOML (TOML 1.1, "Table", "Array", "Array of Tables", "String") for what a document says.
use Rattle.std.specs.Prelude.{ℕ, if◌then◌else◌, List, [], ◌∷◌, Option, None, Result, option_and_then, option_map, ok_or}
use Rattle.std.specs.Str.{is_utf8}
use Rattle.toml.specs.Data.{Data, table, Items, no_items, item, get, as_str}
use Rattle.toml.specs.Parse.{parse_document}
use Rattle.sim_base.specs.declared.fault.Refusal.{Refusal}
use Rattle.sim_base.specs.declared.fault.Place.TheVariants as places
use Rattle.sim_refusals.specs.Refusals.{TomlText}
use Rattle.document_model.specs.Reading.{refusal}

-- the items of an array, as a list
abbrev pub elements : Items → List Data
elements no_items = []
elements (item d ds) = d ∷ elements ds

-- a key whose value is a string
abbrev pub string_at : List ℕ → Data → Option (List ℕ)
string_at key d = option_and_then as_str (get key d)

-- the TOML document that the bytes are, or 30
abbrev pub toml_document : List ℕ → Result Data Refusal
toml_document bytes = ok_or (option_map table (if is_utf8 bytes then parse_document bytes else None)) (refusal TomlText places.Whole)
