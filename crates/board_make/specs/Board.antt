-- The generated project and its board (Wokwi, "wokwi.toml", "diagram.json File Format"; which parts and wires there are is the
-- profile's): an Uno with a resistor and an LED on each of pins 2 to 9, two inverters whose inputs are drawn pins, and a gate.
use Rattle.std.specs.Prelude.{ℕ, zero, suc, ◌+◌, ◌*◌, ◌%◌, List, [], ◌∷◌, ◌++◌, Option, Some, codes, decimal}
use Rattle.document_model.specs.declared.project.Project.{Project}
use Rattle.document_model.specs.declared.project.ChipFile.{ChipFile}
use Rattle.document_model.specs.declared.diagram.Diagram.{Diagram}
use Rattle.document_model.specs.declared.diagram.PartText.{PartText}
use Rattle.document_model.specs.declared.diagram.Wire.{Wire}
use Rattle.board_make.specs.Draws.{draw}

-- the project has one chip
abbrev pub chip_file : ChipFile
chip_file = record { name = codes "inverter"; binary = codes "inverter.wasm"; json = codes "inverter.json" }

abbrev pub project : Project
project = record { firmware = codes "make.hex"; chips = chip_file ∷ [] }

-- the pins of the chip
abbrev pub chip_pins : List (Option (List ℕ))
chip_pins = Some (codes "IN") ∷ (Some (codes "OUT") ∷ [])

-- a name of the Uno's pin k: `2`, `r2`, `led2`
abbrev pub numbered : List ℕ → ℕ → List ℕ
numbered front k = front ++ decimal k

abbrev pub part : List ℕ → List ℕ → PartText
part kind id = record { kind = kind; id = id; attrs = [] }

-- a pin of a part
abbrev pub End : Type 0
End = List ℕ × List ℕ

abbrev pub wire : ℕ → End → End → Wire
wire number from to = record { from = from; to = to; number = number }

-- lamp i from 0 on, of pin i + 2: its parts, and the wires through them
abbrev pub lamp_parts : ℕ → List PartText
lamp_parts i = part (codes "wokwi-resistor") (numbered (codes "r") (i + 2)) ∷ (part (codes "wokwi-led") (numbered (codes "led") (i + 2)) ∷ [])

abbrev pub lamp_wires : ℕ → List Wire
lamp_wires i =
    wire (3 * i + 1) (codes "uno", numbered [] (i + 2)) (numbered (codes "r") (i + 2), codes "1")
    ∷ (wire (3 * i + 2) (numbered (codes "r") (i + 2), codes "2") (numbered (codes "led") (i + 2), codes "A")
    ∷ (wire (3 * i + 3) (numbered (codes "led") (i + 2), codes "C") (codes "uno", codes "GND.1") ∷ []))

-- those of the first lamps
unfoldable pub lamps_parts : ℕ → List PartText
lamps_parts zero = []
lamps_parts (suc i) = lamps_parts i ++ lamp_parts i

unfoldable pub lamps_wires : ℕ → List Wire
lamps_wires zero = []
lamps_wires (suc i) = lamps_wires i ++ lamp_wires i

-- the drawn pins, from 2 to 9
abbrev pub drawn_pin : ℕ → ℕ → ℕ
drawn_pin seed n = 2 + draw seed n % 8

abbrev pub parts : List PartText
parts =
    (part (codes "wokwi-arduino-uno") (codes "uno") ∷ [] ++ lamps_parts 8)
    ++ (part (codes "chip-inverter") (codes "inv1")
    ∷ (part (codes "chip-inverter") (codes "inv2")
    ∷ (part (codes "wokwi-gate-xor-2") (codes "x1") ∷ [])))

-- the wires of the two inverters, whose inputs are these pins of the Uno, and of the gate behind them
abbrev pub gate_wires : List ℕ → List ℕ → List Wire
gate_wires p q =
    wire 25 (codes "uno", p) (codes "inv1", codes "IN")
    ∷ (wire 26 (codes "uno", q) (codes "inv2", codes "IN")
    ∷ (wire 27 (codes "inv1", codes "OUT") (codes "x1", codes "A")
    ∷ (wire 28 (codes "inv2", codes "OUT") (codes "x1", codes "B")
    ∷ (wire 29 (codes "x1", codes "OUT") (codes "uno", codes "A0") ∷ []))))

abbrev pub wires : ℕ → List Wire
wires seed = lamps_wires 8 ++ gate_wires (numbered [] (drawn_pin seed 1)) (numbered [] (drawn_pin seed 2))

abbrev pub diagram : ℕ → Diagram
diagram seed = record { parts = parts; wires = wires seed }
