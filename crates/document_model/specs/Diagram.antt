-- The diagram of a board, a JSON text (RFC 8259, "Objects", "Arrays", "Numbers"; Wokwi, "diagram.json File Format"; what
-- counts as an attribute's value, the limits and the order of the refusals are the profile's).
use Rattle.std.specs.Prelude.{ℕ, ◌&&◌, ◌||◌, nat_le, ◌==◌, if◌then◌else◌, Bool, false, List, [], ◌∷◌, ◌++◌, length, codes, Option, Some, None, Result, Ok, option_and_then, option_map, ok_or}
use Rattle.std.specs.List.{list_all, flat_map, before_first, after_first}
use Rattle.std.specs.Option.{option_map_or, option_to_list}
use Rattle.serde_json.specs.Data.{Data, null, boolean, number, string, array, object, Members, no_members, member}
use Rattle.serde_json.specs.Find.{get, as_number, as_object, as_u64}
use Rattle.sim_base.specs.declared.fault.Refusal.{Refusal}
use Rattle.sim_base.specs.declared.fault.Place.TheVariants as places
use Rattle.sim_refusals.specs.Refusals.{JsonText, DiagramShape, DiagramLimit}
use Rattle.sim_base.specs.Names.{is_name}
use Rattle.document_model.specs.declared.diagram.Diagram.{Diagram}
use Rattle.document_model.specs.declared.diagram.PartText.{PartText}
use Rattle.document_model.specs.declared.diagram.Wire.{Wire}
use Rattle.document_model.specs.Json.{array_at, json_document, number_text, string_at, string_in}
use Rattle.document_model.specs.Reading.{◌>>=◌, refusal, checked, each_from}

-- whether the member `version` is the whole number 1
abbrev pub has_version_1 : Data → Bool
has_version_1 d = option_map_or (λ n. n == 1) (option_and_then as_u64 (option_and_then as_number (get (codes "version") d))) false

-- what an attribute's value counts as: a string as itself, a whole number as its digits, any other value as absent
abbrev pub value_text : Data → Option (List ℕ)
value_text (string s) = Some s
value_text (number n) = number_text n
value_text null = None
value_text (boolean b) = None
value_text (array ds) = None
value_text (object ms) = None

-- the attributes among the members of an object
abbrev pub attrs_of : Members → List (List ℕ × List ℕ)
attrs_of no_members = []
attrs_of (member key d ms) = option_to_list (option_map (λ text. (key, text)) (value_text d)) ++ attrs_of ms

-- those of a part: none without a member `attrs`, and nothing where that is no object
abbrev pub attrs_in : Option Data → Option (List (List ℕ × List ℕ))
attrs_in None = Some []
attrs_in (Some d) = option_map attrs_of (as_object d)

-- ASCII letters, digits, `_` and `-`
abbrev pub is_id_byte : ℕ → Bool
is_id_byte c = (nat_le 48 c && nat_le c 57) || ((nat_le 65 c && nat_le c 90) || ((nat_le 97 c && nat_le c 122) || (c == 95 || c == 45)))

-- 1 to 64 of them
abbrev pub is_id : List ℕ → Bool
is_id id = nat_le 1 (length id) && (nat_le (length id) 64 && list_all is_id_byte id)

-- Part k: the strings `type` and `id` and perhaps the object `attrs`, else 41; then 48 for the id's form.
abbrev pub part_of : ℕ → Data → Result PartText Refusal
part_of k d = do
  kind ← ok_or (string_at (codes "type") d) (refusal DiagramShape (places.Part k))
  id ← ok_or (string_at (codes "id") d) (refusal DiagramShape (places.Part k))
  attrs ← ok_or (attrs_in (get (codes "attrs") d)) (refusal DiagramShape (places.Part k))
  checked (is_id id) (record { kind = kind; id = id; attrs = attrs }) (refusal DiagramLimit (places.Part k))

-- the character `:`
abbrev pub is_colon : ℕ → Bool
is_colon c = c == 58

-- An end is `part:pin`, split at the first colon into two names.
abbrev pub end_of : List ℕ → Option (List ℕ × List ℕ)
end_of text =
    if is_name (before_first is_colon text) && is_name (after_first is_colon text)
    then Some (before_first is_colon text, after_first is_colon text)
    else None

-- an end that begins with `$` is no pin of a part
abbrev pub is_outside : List ℕ → Bool
is_outside [] = false
is_outside (c ∷ cs) = c == 36

-- a wire between two ends, or 41
abbrev pub wire_between : ℕ → List ℕ → List ℕ → Result Wire Refusal
wire_between k a b = do
  from ← ok_or (end_of a) (refusal DiagramShape (places.Connection k))
  to ← ok_or (end_of b) (refusal DiagramShape (places.Connection k))
  Ok (record { from = from; to = to; number = k })

-- Connection k: two strings and perhaps more, else 41. None where it is passed over.
abbrev pub wire_of : ℕ → Data → Result (Option Wire) Refusal
wire_of k d = do
  a ← ok_or (string_in 0 d) (refusal DiagramShape (places.Connection k))
  b ← ok_or (string_in 1 d) (refusal DiagramShape (places.Connection k))
  if is_outside a || is_outside b then Ok None else (wire_between k a b >>= λ wire. Ok (Some wire))

-- at most so many items, else 48
abbrev pub at_most : ℕ → List Data → Result (List Data) Refusal
at_most n ds = checked (nat_le (length ds) n) ds (refusal DiagramLimit places.Whole)

abbrev pub parts_of : List Data → Result (List PartText) Refusal
parts_of ds = at_most 64 ds >>= each_from part_of 1

-- the wires among connections; those that are passed over count for the numbers and for the limit
abbrev pub wires_in : List Data → Result (List Wire) Refusal
wires_in ds = do
  wires ← each_from wire_of 1 ds
  Ok (flat_map option_to_list wires)

abbrev pub wires_of : List Data → Result (List Wire) Refusal
wires_of ds = at_most 512 ds >>= wires_in

-- The object with its version and two arrays, else 41; then its parts; then its connections.
abbrev pub diagram_of : Data → Result Diagram Refusal
diagram_of d = do
  document ← checked (has_version_1 d) d (refusal DiagramShape places.Whole)
  items ← ok_or (array_at (codes "parts") document) (refusal DiagramShape places.Whole)
  connections ← ok_or (array_at (codes "connections") document) (refusal DiagramShape places.Whole)
  parts ← parts_of items
  wires ← wires_of connections
  Ok (record { parts = parts; wires = wires })

-- The diagram that a text stands for, or the refusal with its place.
abbrev pub diagram_text : List ℕ → Result Diagram Refusal
diagram_text bytes = json_document JsonText bytes >>= diagram_of
