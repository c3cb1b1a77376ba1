-- A file of pins that was read has at most 64 positions.
use Rattle.std.proofs.Common.{◌≡◌, ◌≤◌, ℕ, List, [], ap, sym, ◌∙◌, arith, length, map, nat_le, Option, Result, Ok, codes}
use Rattle.std.specs.Option.{ok_or}
use Rattle.std.proofs.lemmas.Bool.{leb-true}
use Rattle.std.proofs.lemmas.List.{length-map}
use Rattle.serde_json.specs.Data.{Data}
use Rattle.sim_base.specs.declared.fault.Refusal.{Refusal}
use Rattle.sim_base.specs.declared.fault.Place.TheVariants as places
use Rattle.sim_refusals.specs.Refusals.{ChipText, ChipShape, ChipPinName, ChipLimit}
use Rattle.document_model.specs.Json.{array_at, json_document, string_at}
use Rattle.document_model.specs.Reading.{◌>>=◌, refusal, checked}
use Rattle.document_model.proofs.ReadingLemmas.{in_steps}
use Rattle.document_model.proofs.LimitLemmas.{passed}
use Rattle.chip_json.specs.ChipJson.{are_pin_names, chip_of, chip_text, pin_of, pins_from, strings_of}

abbrev Pins : Type 0
Pins = List (Option (List ℕ))

-- the readings of a file of pins from one on
abbrev from_few : List (List ℕ) → Result Pins Refusal
from_few few = Ok (map pin_of few)

abbrev from_names : List (List ℕ) → Result Pins Refusal
from_names names = checked (nat_le (length names) 64) names (refusal ChipLimit places.Whole) >>= from_few

abbrev from_items : List Data → Result Pins Refusal
from_items items = ok_or (strings_of items) (refusal ChipShape places.Whole) >>= pins_from

abbrev from_name : Data → List ℕ → Result Pins Refusal
from_name d name = ok_or (array_at (codes "pins") d) (refusal ChipShape places.Whole) >>= from_items

same_pins : (few : List (List ℕ)) (pins : Pins) → from_few few ≡ Ok pins → map pin_of few ≡ pins
same_pins few pins e = cc

pub few_pins : (bytes : List ℕ) (pins : Pins) → chip_text bytes ≡ Ok pins → length pins ≤ 64
few_pins bytes pins e =
    let document = in_steps (json_document ChipText bytes) chip_of pins e in
    let name = in_steps (ok_or (string_at (codes "name") document.0) (refusal ChipShape places.Whole)) (from_name document.0) pins document.2 in
    let items = in_steps (ok_or (array_at (codes "pins") document.0) (refusal ChipShape places.Whole)) from_items pins name.2 in
    let texts = in_steps (ok_or (strings_of items.0) (refusal ChipShape places.Whole)) pins_from pins items.2 in
    let names = in_steps (checked (are_pin_names [] texts.0) texts.0 (refusal ChipPinName places.Whole)) from_names pins texts.2 in
    let few = in_steps (checked (nat_le (length names.0) 64) names.0 (refusal ChipLimit places.Whole)) from_few pins names.2 in
    let test = passed (nat_le (length names.0) 64) names.0 few.0 (refusal ChipLimit places.Whole) few.1 in
    let most = leb-true (length names.0) 64 test.0 in
    let same = ap (λ (l : List (List ℕ)). length l) test.1 in
    let all = sym (length-map few.0 pin_of) ∙ ap (λ (l : Pins). length l) (same_pins few.0 pins few.2) in
    omega arith
