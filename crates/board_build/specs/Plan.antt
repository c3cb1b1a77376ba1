-- The plan of a board: its parts, what joins their pins, and the values of a script; or the first rule of the board that
-- fails, in the order of the rules' numbers, each over all its items (profile).
use Rattle.std.specs.Prelude.{ℕ, List, [], ◌++◌, map, Option, Result, Ok, slice_index}
use Rattle.std.specs.List.{zip, sum_by}
use Rattle.sim_base.specs.declared.fault.Refusal.{Refusal}
use Rattle.sim_base.specs.declared.wiring.Wiring.{Wiring}
use Rattle.document_model.specs.declared.diagram.Diagram.{Diagram}
use Rattle.document_model.specs.declared.project.Project.{Project}
use Rattle.document_model.specs.Reading.{◌>>=◌, each_from}
use Rattle.input_texts.specs.declared.script.ScriptRow.{ScriptRow}
use Rattle.board_build.specs.declared.plan.PlanKind.{PlanKind}
use Rattle.board_build.specs.declared.plan.Plan.{Plan}
use Rattle.net_pins.specs.Numbering.{net_numbers, net_count}
use Rattle.board_build.specs.Parts.{kind_of_part, ids_from, one_uno, found_chip, part_in_plan, is_chip, few_chips, input_of}
use Rattle.board_build.specs.Pins.{count_of, starts_from, wire_on_board, joins_in, contacts_inside, resistors_in, pairs_inside}

abbrev pub nets_of_pairs : List ℕ → List (ℕ × ℕ) → List (ℕ × ℕ)
nets_of_pairs net_of pairs = map (λ (pair : ℕ × ℕ). (slice_index net_of pair.0, slice_index net_of pair.1)) pairs

-- what joins the pins: wires, the parts' first pins, how many pins there are, and what the parts are
abbrev pub joined : List (ℕ × ℕ) → List ℕ → List (Option PlanKind) → List (ℕ × ℕ)
joined wires firsts kinds = wires ++ pairs_inside joins_in firsts kinds

abbrev pub wiring_of : List (ℕ × ℕ) → List ℕ → ℕ → List (Option PlanKind) → Wiring
wiring_of wires firsts count kinds = record {
  nets = net_count (joined wires firsts kinds) count;
  net_of = net_numbers (joined wires firsts kinds) count;
  contacts = nets_of_pairs (net_numbers (joined wires firsts kinds) count) (pairs_inside contacts_inside firsts kinds);
  resistors = nets_of_pairs (net_numbers (joined wires firsts kinds) count) (pairs_inside resistors_in firsts kinds);
  first_pin = firsts;
  chip = map is_chip kinds;
}

-- the rules from 44 on, with what each part is and the ids
abbrev pub plan_in : Diagram → List (List (Option (List ℕ))) → List ScriptRow → List (Option PlanKind) → List (List ℕ) → Result Plan Refusal
plan_in diagram pins script found ids = do
  wires ← each_from (λ k. wire_on_board pins found ids) 1 diagram.wires
  uno ← one_uno found
  kinds ← each_from found_chip 1 found
  parts ← each_from part_in_plan 1 (zip kinds diagram.parts)
  few ← few_chips found
  inputs ← each_from (λ k. input_of ids kinds) 1 script
  Ok (record {
    parts = parts;
    wiring = wiring_of wires (starts_from pins 0 found) (sum_by (count_of pins) found) found;
    inputs = inputs;
  })

-- The plan of a project and its diagram; `pins` has the pins of each chip of the project.
unfoldable pub plan_of : Project → Diagram → List (List (Option (List ℕ))) → List ScriptRow → Result Plan Refusal
plan_of project diagram pins script = do
  found ← each_from (kind_of_part project.chips) 1 diagram.parts
  ids ← ids_from [] 1 diagram.parts
  plan_in diagram pins script found ids
