-- The board of one Uno named `uno`, without wires (profile: the pins in the order of the editor's catalogue).
use Rattle.std.specs.Prelude.{ℕ, ◌+◌, ◌∷◌, [], ◌++◌, List, map, false, codes, None, Some}
use Rattle.sim_base.specs.declared.wiring.Wiring.{Wiring}
use Rattle.board_model.specs.Walks.{below}
use Rattle.part_catalog.specs.declared.kind.Kind.TheVariants as kinds
use Rattle.board_build.specs.declared.plan.PlanKind.TheVariants as plans
use Rattle.board_build.specs.declared.plan.PlanPart.{PlanPart}
use Rattle.board_build.specs.declared.plan.Plan.{Plan}
use Rattle.sim_outcome_model.specs.Stop.{Texts}
use Rattle.avr_mcu.specs.Mcu.{Mcu, mcu, start}
use Rattle.board_outputs.specs.Run.{Outputs, board_wave, board_bytes, board_wakes, texts_for}

-- Pins 0 to 13 and A0 to A5 are nets of their own; A4.2 and A5.2 are joined with A4 and A5 inside the board; GND.1 to
-- GND.3, 5V, 3.3V, VIN, IOREF, AREF and RESET follow.
abbrev pub uno_wiring : Wiring
uno_wiring = record {
  nets = 29;
  net_of = below 20 ++ (18 ∷ (19 ∷ map (λ k. 20 + k) (below 9)));
  contacts = [];
  resistors = [];
  first_pin = 0 ∷ [];
  chip = false ∷ [];
}

abbrev pub uno_part : PlanPart
uno_part = record { id = codes "uno"; kind = plans.Stock kinds.ArduinoUno; settings = record { number = 0; choice = 0 }; attrs = [] }

abbrev pub uno_plan : Plan
uno_plan = record { parts = uno_part ∷ []; wiring = uno_wiring; inputs = [] }

-- the Uno after reset with this flash
abbrev pub uno_starts : List ℕ → List Mcu
uno_starts flash = start flash ∷ []

-- the wave on standard output, and nothing else
abbrev pub bare_outputs : Outputs
bare_outputs = record { serial = false; wave = Some (codes "-"); report = None }

-- the wave of a firmware's first n cycles: of the 20 digital pins 0 to 13 and A0 to A5, under the name `uno`
abbrev pub bare_run : List ℕ → ℕ → Texts
bare_run flash n = texts_for bare_outputs (board_wave mcu [] uno_plan (uno_starts flash) n) (board_bytes mcu uno_plan (uno_starts flash) n) [] (board_wakes mcu uno_plan (uno_starts flash) n)
