-- The rules of a board on its parts, in the order of their numbers, and what each part is then (profile).
use Rattle.std.specs.Prelude.{ℕ, suc, List, [], ◌∷◌, ◌++◌, drop, take, Bool, true, false, not, ◌&&◌, ◌||◌, nat_le, Option, None, Some, Result, Ok, Err, if◌then◌else◌, codes, slice_get, ok_or, option_map}
use Rattle.std.specs.List.{list_any, position_from}
use Rattle.std.specs.Str.{bytes_eq}
use Rattle.sim_base.specs.declared.fault.Refusal.{Refusal}
use Rattle.sim_base.specs.declared.fault.Place.TheVariants as places
use Rattle.sim_base.specs.declared.wiring.Input.{Input}
use Rattle.sim_refusals.specs.Refusals.{TypeUnknown, IdRepeated, BoardCount, ChipMissing, AttrValue, BoardLimit, ScriptPart}
use Rattle.part_catalog.specs.declared.kind.Kind.{Kind}
use Rattle.part_catalog.specs.declared.kind.Kind.TheVariants as kinds
use Rattle.part_catalog.specs.declared.settings.Settings.{Settings}
use Rattle.part_catalog.specs.Kinds.{named_kind}
use Rattle.part_catalog.specs.Attributes.{wired_kind, settings_from, greatest_of}
use Rattle.document_model.specs.declared.diagram.PartText.{PartText}
use Rattle.document_model.specs.declared.project.ChipFile.{ChipFile}
use Rattle.document_model.specs.Reading.{refusal}
use Rattle.input_texts.specs.declared.script.ScriptRow.{ScriptRow}
use Rattle.board_build.specs.declared.plan.PlanKind.{PlanKind}
use Rattle.board_build.specs.declared.plan.PlanKind.TheVariants as plans
use Rattle.board_build.specs.declared.plan.PlanPart.{PlanPart}

-- the place of a chip in the project
abbrev pub chip_place : List ChipFile → List ℕ → Option ℕ
chip_place chips name = position_from (λ (chip : ChipFile). bytes_eq name chip.name) 0 chips

abbrev pub is_chip_type : List ℕ → Bool
is_chip_type type = bytes_eq (take 5 type) (codes "chip-")

-- 42: a type is one of the catalogue, or `chip-` and a name. A chip that the project lacks is None.
abbrev pub chosen : List ChipFile → ℕ → PartText → Option Kind → Result (Option PlanKind) Refusal
chosen chips k part (Some kind) = Ok (Some (plans.Stock (wired_kind kind part.attrs)))
chosen chips k part None =
    if is_chip_type part.kind then Ok (option_map plans.Chip (chip_place chips (drop 5 part.kind)))
    else Err (refusal TypeUnknown (places.Part k))

abbrev pub kind_of_part : List ChipFile → ℕ → PartText → Result (Option PlanKind) Refusal
kind_of_part chips k part = chosen chips k part (named_kind part.kind)

-- 43: no id is that of an earlier part; the ids in order
unfoldable pub ids_from : List (List ℕ) → ℕ → List PartText → Result (List (List ℕ)) Refusal
ids_from seen k [] = Ok seen
ids_from seen k (part ∷ parts) =
    if list_any (bytes_eq part.id) seen then Err (refusal IdRepeated (places.Part k))
    else ids_from (seen ++ part.id ∷ []) (suc k) parts

-- the numbers of the items that pass a test, which count from k
unfoldable pub numbers_from : {A : Type 0} → (A → Bool) → ℕ → List A → List ℕ
numbers_from test k [] = []
numbers_from test k (x ∷ xs) = if test x then k ∷ numbers_from test (suc k) xs else numbers_from test (suc k) xs

abbrev pub is_uno : Option PlanKind → Bool
is_uno (Some (plans.Stock kinds.ArduinoUno)) = true
is_uno kind = false

-- 45: one of the parts is an Uno, and no second one
abbrev pub one_of : List ℕ → Result (Unit {0}) Refusal
one_of [] = Err (refusal BoardCount places.Whole)
one_of (first ∷ []) = Ok tt
one_of (first ∷ second ∷ rest) = Err (refusal BoardCount (places.Part second))

abbrev pub one_uno : List (Option PlanKind) → Result (Unit {0}) Refusal
one_uno kinds = one_of (numbers_from is_uno 1 kinds)

-- 46: the project has the chip of each part that is one
abbrev pub found_chip : ℕ → Option PlanKind → Result PlanKind Refusal
found_chip k kind = ok_or kind (refusal ChipMissing (places.Part k))

-- 47: each attribute that a part reads has its form; a chip's attributes have any
abbrev pub settings_in : PlanKind → List (List ℕ × List ℕ) → Option Settings
settings_in (plans.Stock kind) attrs = settings_from kind attrs
settings_in (plans.Chip chip) attrs = Some (record { number = 0; choice = 0 })

abbrev pub planned : PlanKind → PartText → Settings → PlanPart
planned kind part settings = record { id = part.id; kind = kind; settings = settings; attrs = part.attrs }

abbrev pub part_in_plan : ℕ → PlanKind × PartText → Result PlanPart Refusal
part_in_plan k x = ok_or (option_map (planned x.0 x.1) (settings_in x.0 x.1.attrs)) (refusal AttrValue (places.Part k))

abbrev pub is_chip : Option PlanKind → Bool
is_chip (Some (plans.Chip chip)) = true
is_chip kind = false

-- 49: at most 8 parts are chips
abbrev pub no_ninth : Option ℕ → Result (Unit {0}) Refusal
no_ninth None = Ok tt
no_ninth (Some part) = Err (refusal BoardLimit (places.Part part))

abbrev pub few_chips : List (Option PlanKind) → Result (Unit {0}) Refusal
few_chips kinds = no_ninth (slice_get (numbers_from is_chip 1 kinds) 8)

abbrev pub is_button : Kind → Bool
is_button kinds.Pushbutton = true
is_button kind = false

abbrev pub is_within : ℕ → Option ℕ → Bool
is_within value None = false
is_within value (Some greatest) = nat_le value greatest

-- whether a script may press or set a value on a part
abbrev pub takes : Bool → ℕ → Option PlanKind → Bool
takes press value None = false
takes press value (Some (plans.Chip chip)) = false
takes press value (Some (plans.Stock kind)) = is_within value (greatest_of kind) && (not press || is_button kind)

-- 83: a line of a script names a part that takes what it gives
abbrev pub input_for : List PlanKind → ScriptRow → Option ℕ → Result Input Refusal
input_for kinds row None = Err (refusal ScriptPart (places.Line row.line))
input_for kinds row (Some part) =
    if takes row.press row.value (slice_get kinds part) then Ok (record { cycle = row.cycle; part = part; value = row.value })
    else Err (refusal ScriptPart (places.Line row.line))

abbrev pub place_of : List (List ℕ) → List ℕ → Option ℕ
place_of ids id = position_from (bytes_eq id) 0 ids

abbrev pub input_of : List (List ℕ) → List PlanKind → ScriptRow → Result Input Refusal
input_of ids kinds row = input_for kinds row (place_of ids row.part)
