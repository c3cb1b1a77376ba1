-- What was read keeps the limits: a diagram has at most 64 parts, and a project at most so many chips.
use Rattle.std.proofs.Common.{◌≡◌, ◌+◌, ◌≤◌, ℕ, List, [], ◌∷◌, ◌++◌, length, nat_le, Bool, true, false, refl, ap, arith, length-append, Result, Ok}
use Rattle.std.specs.Option.{ok_or}
use Rattle.std.specs.Prelude.{codes}
use Rattle.std.proofs.lemmas.Bool.{leb-true}
use Rattle.serde_json.specs.Data.{Data}
use Rattle.toml.specs.Data.{Data as Table, get}
use Rattle.sim_base.specs.declared.fault.Refusal.{Refusal}
use Rattle.sim_base.specs.declared.fault.Place.TheVariants as places
use Rattle.sim_refusals.specs.Refusals.{TomlShape, JsonText, DiagramShape, DiagramLimit}
use Rattle.document_model.specs.declared.diagram.Diagram.{Diagram}
use Rattle.document_model.specs.declared.diagram.PartText.{PartText}
use Rattle.document_model.specs.declared.diagram.Wire.{Wire}
use Rattle.document_model.specs.declared.project.Project.{Project}
use Rattle.document_model.specs.declared.project.ChipFile.{ChipFile}
use Rattle.document_model.specs.Json.{array_at, json_document}
use Rattle.document_model.specs.Toml.{toml_document}
use Rattle.document_model.specs.Reading.{◌>>=◌, refusal, checked, each_from}
use Rattle.document_model.specs.Diagram.{has_version_1, part_of, at_most, parts_of, wires_of, diagram_of, diagram_text}
use Rattle.document_model.specs.Project.{firmware_of, most_chips, chip_items, chip_of, chips_after, chips_of, project_of, project_text}
use Rattle.document_model.proofs.ReadingLemmas.{in_steps, each_length}

-- a test that was passed
pub passed : {A : Type 0} (test : Bool) (x y : A) (r : Refusal) → checked test x r ≡ Ok y → (test ≡ true) × (x ≡ y)
passed true x y r e = (refl, cc)
passed false x y r e = absurd cc

-- the readings of a diagram from one on
abbrev from_wires : List PartText → List Wire → Result Diagram Refusal
from_wires parts wires = Ok (record { parts = parts; wires = wires })

abbrev from_parts : List Data → List PartText → Result Diagram Refusal
from_parts connections parts = wires_of connections >>= from_wires parts

abbrev from_connections : List Data → List Data → Result Diagram Refusal
from_connections items connections = parts_of items >>= from_parts connections

abbrev from_items : Data → List Data → Result Diagram Refusal
from_items d items = ok_or (array_at (codes "connections") d) (refusal DiagramShape places.Whole) >>= from_connections items

abbrev from_version : Data → Result Diagram Refusal
from_version d = ok_or (array_at (codes "parts") d) (refusal DiagramShape places.Whole) >>= from_items d

same_parts : (parts : List PartText) (wires : List Wire) (diagram : Diagram) → from_wires parts wires ≡ Ok diagram → parts ≡ diagram.parts
same_parts parts wires diagram e = cc

parts_few : (items : List Data) (parts : List PartText) → parts_of items ≡ Ok parts → length parts ≤ 64
parts_few items parts e =
    let few = in_steps (at_most 64 items) (each_from part_of 1) parts e in
    let test = passed (nat_le (length items) 64) items few.0 (refusal DiagramLimit places.Whole) few.1 in
    let most = leb-true (length items) 64 test.0 in
    let same = ap (λ (l : List Data). length l) test.1 in
    let all = each_length part_of 1 few.0 parts few.2 in
    omega arith

pub few_parts : (bytes : List ℕ) (diagram : Diagram) → diagram_text bytes ≡ Ok diagram → length diagram.parts ≤ 64
few_parts bytes diagram e =
    let document = in_steps (json_document JsonText bytes) diagram_of diagram e in
    let version = in_steps (checked (has_version_1 document.0) document.0 (refusal DiagramShape places.Whole)) from_version diagram document.2 in
    let items = in_steps (ok_or (array_at (codes "parts") version.0) (refusal DiagramShape places.Whole)) (from_items version.0) diagram version.2 in
    let connections = in_steps (ok_or (array_at (codes "connections") version.0) (refusal DiagramShape places.Whole)) (from_connections items.0) diagram items.2 in
    let parts = in_steps (parts_of items.0) (from_parts connections.0) diagram connections.2 in
    let wires = in_steps (wires_of connections.0) (from_wires parts.0) diagram parts.2 in
    let same = ap (λ (l : List PartText). length l) (same_parts parts.0 wires.0 diagram wires.2) in
    let few = parts_few items.0 parts.0 parts.1 in
    omega arith

-- one chip is read for each item
chips_counted : (before : List ChipFile) (items : List Table) (chips : List ChipFile) → chips_after before items ≡ Ok chips → length chips ≡ length before + length items
unfolding chips_after
chips_counted before [] chips e = let same = all_read before chips e in let long = ap (λ (l : List ChipFile). length l) same in omega arith
  where
    all_read : (before chips : List ChipFile) → ◌≡◌ {A = Result (List ChipFile) Refusal} (Ok before) (Ok chips) → before ≡ chips
    all_read before chips e = cc
chips_counted before (d ∷ ds) chips e =
    let chip = in_steps (chip_of before (length before + 1) d) (λ (chip : ChipFile). chips_after (before ++ chip ∷ []) ds) chips e in
    let rest = chips_counted (before ++ chip.0 ∷ []) ds chips chip.2 in
    omega (arith, rest, length-append before (chip.0 ∷ []))

abbrev from_few : List Table → Result (List ChipFile) Refusal
from_few few = chips_after [] few

abbrev from_array : List Table → Result (List ChipFile) Refusal
from_array items = checked (nat_le (length items) most_chips) items (refusal TomlShape places.Whole) >>= from_few

chips_few : (d : Table) (chips : List ChipFile) → chips_of d ≡ Ok chips → length chips ≤ most_chips
chips_few d chips e =
    let items = in_steps (ok_or (chip_items (get (codes "chip") d)) (refusal TomlShape places.Whole)) from_array chips e in
    let few = in_steps (checked (nat_le (length items.0) most_chips) items.0 (refusal TomlShape places.Whole)) from_few chips items.2 in
    let test = passed (nat_le (length items.0) most_chips) items.0 few.0 (refusal TomlShape places.Whole) few.1 in
    let most = leb-true (length items.0) most_chips test.0 in
    let same = ap (λ (l : List Table). length l) test.1 in
    let all = chips_counted [] few.0 chips few.2 in
    omega arith

abbrev from_chips : List ℕ → List ChipFile → Result Project Refusal
from_chips firmware chips = Ok (record { firmware = firmware; chips = chips })

abbrev from_firmware : Table → List ℕ → Result Project Refusal
from_firmware d firmware = chips_of d >>= from_chips firmware

same_chips : (firmware : List ℕ) (chips : List ChipFile) (project : Project) → from_chips firmware chips ≡ Ok project → chips ≡ project.chips
same_chips firmware chips project e = cc

pub few_chips : (bytes : List ℕ) (project : Project) → project_text bytes ≡ Ok project → length project.chips ≤ most_chips
few_chips bytes project e =
    let document = in_steps (toml_document bytes) project_of project e in
    let firmware = in_steps (firmware_of document.0) (from_firmware document.0) project document.2 in
    let chips = in_steps (chips_of document.0) (from_chips firmware.0) project firmware.2 in
    let same = ap (λ (l : List ChipFile). length l) (same_chips firmware.0 chips.0 project chips.2) in
    let few = chips_few document.0 chips.0 chips.1 in
    omega arith
