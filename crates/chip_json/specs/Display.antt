-- The display of a chip in its file, a JSON text (RFC 8259, "Objects", "Numbers"; Wokwi, "Chip JSON File"; the sizes are the profile's).
use Rattle.std.specs.Prelude.{ℕ, if◌then◌else◌, List, codes, Option, Some, None, option_and_then, Result, Ok, Err}
use Rattle.serde_json.specs.Data.{Data}
use Rattle.serde_json.specs.Find.{get, as_number, as_u64}
use Rattle.sim_base.specs.declared.fault.Refusal.{Refusal}
use Rattle.sim_base.specs.declared.fault.Place.TheVariants as places
use Rattle.sim_base.specs.Display.{DisplaySize, is_display}
use Rattle.sim_refusals.specs.Refusals.{ChipText, ChipDisplay}
use Rattle.document_model.specs.Json.{json_document}
use Rattle.document_model.specs.Reading.{◌>>=◌, refusal}
use Rattle.chip_json.specs.ChipJson.{chip_text}

-- a member that is a whole number
abbrev pub whole_at : List ℕ → Data → Option ℕ
whole_at key d = option_and_then as_u64 (option_and_then as_number (get key d))

abbrev pub size_of : Option ℕ → Option ℕ → Option DisplaySize
size_of None height = None
size_of (Some width) None = None
size_of (Some width) (Some height) = if is_display width height then Some (record { width = width; height = height }) else None

abbrev pub by_size : Option DisplaySize → Result (Option DisplaySize) Refusal
by_size None = Err (refusal ChipDisplay places.Whole)
by_size (Some size) = Ok (Some size)

-- no member `display`, or an object with `width` and `height` that a display can have, else 54
abbrev pub display_in : Option Data → Result (Option DisplaySize) Refusal
display_in None = Ok None
display_in (Some d) = by_size (size_of (whole_at (codes "width") d) (whole_at (codes "height") d))

abbrev pub display_of : Data → Result (Option DisplaySize) Refusal
display_of d = display_in (get (codes "display") d)

-- The size of the display that a text stands for, or the refusal.
abbrev pub display_text : List ℕ → Result (Option DisplaySize) Refusal
display_text bytes = json_document ChipText bytes >>= display_of

-- The pins and the size of the display; a refusal of the pins comes first.
abbrev pub pins_and_display : List ℕ → Result (List (Option (List ℕ)) × Option DisplaySize) Refusal
pins_and_display bytes = do
  pins ← chip_text bytes
  display ← display_text bytes
  Ok (pins, display)
