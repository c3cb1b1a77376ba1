-- The run of a board of any parts for so many cycles: its wave and the bytes that are sent; and where its texts go (profile).
use Rattle.std.specs.Prelude.{ℕ, List, [], Bool, if◌then◌else◌, Option, None}
use Rattle.std.specs.Option.{option_map}
use Rattle.text_model.specs.Wave.{wave_text}
use Rattle.part_law.specs.Machine.{Machine}
use Rattle.board_model.specs.Board.{bytes}
use Rattle.board_model.specs.Rows.{rows}
use Rattle.law_board.specs.Active.{active_pairs}
use Rattle.sim_outcome_model.specs.Stop.{Output, Texts}
use Rattle.board_build.specs.declared.plan.Plan.{Plan}
use Rattle.board_outputs.specs.Variables.{board_variables}

-- Where the texts of a run go: its bytes on Serial or nowhere, its wave and its report each in a file, if one is named.
pub record Outputs : Type 0 where
  pub serial : Bool
  pub wave : Option (List ℕ)
  pub report : Option (List ℕ)

-- the wave of the first n cycles of a plan's board, whose chips have these pins and whose parts begin in these states
abbrev pub board_wave : {S : Type 0} → Machine S → List (List (Option (List ℕ))) → Plan → List S → ℕ → List ℕ
board_wave m chip_pins plan starts n = wave_text (board_variables chip_pins plan) (rows m plan.wiring plan.inputs None starts 0 n) n

-- the bytes of these cycles
abbrev pub board_bytes : {S : Type 0} → Machine S → Plan → List S → ℕ → List ℕ
board_bytes m plan starts n = bytes m plan.wiring plan.inputs starts 0 n

-- how many pairs of a cycle and a part there are in which the part is active
abbrev pub board_wakes : {S : Type 0} → Machine S → Plan → List S → ℕ → ℕ
board_wakes m plan starts n = active_pairs m plan.wiring plan.inputs starts 0 n

-- a text under a name
abbrev pub named_text : List ℕ → List ℕ → Output
named_text text name = record { name = name; text = text }

-- a wave, bytes and a report, each where it goes
abbrev pub texts_for : Outputs → List ℕ → List ℕ → List ℕ → ℕ → Texts
texts_for out wave bytes report wakes = record {
  serial = if out.serial then bytes else [];
  wave = option_map (named_text wave) out.wave;
  report = option_map (named_text report) out.report;
  wakes = wakes;
}
