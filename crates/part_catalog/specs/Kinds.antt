-- The types of parts (Wokwi documentation, "Diagram file format" and the pages of the parts; the names of the gates' types and of the source's are ours).
use Rattle.std.specs.Prelude.{ℕ, List, [], ◌∷◌, Option, None, Some, if◌then◌else◌, codes}
use Rattle.std.specs.Str.{bytes_eq}
use Rattle.part_catalog.specs.declared.kind.Kind.{Kind}
use Rattle.part_catalog.specs.declared.kind.Kind.TheVariants as kinds

abbrev pub types : List (List ℕ × Kind)
types =
    (codes "wokwi-arduino-uno", kinds.ArduinoUno) ∷
    (codes "wokwi-led", kinds.Led) ∷
    (codes "wokwi-pushbutton", kinds.Pushbutton) ∷
    (codes "wokwi-slide-switch", kinds.SlideSwitch) ∷
    (codes "wokwi-dip-switch-8", kinds.DipSwitch8) ∷
    (codes "wokwi-resistor", kinds.Resistor) ∷
    (codes "wokwi-junction", kinds.Junction) ∷
    (codes "wokwi-text", kinds.Text) ∷
    (codes "wokwi-vcc", kinds.Vcc) ∷
    (codes "wokwi-gnd", kinds.Gnd) ∷
    (codes "wokwi-potentiometer", kinds.Potentiometer) ∷
    (codes "wokwi-gate-not", kinds.GateNot) ∷
    (codes "wokwi-gate-buffer", kinds.GateBuffer) ∷
    (codes "wokwi-gate-and-2", kinds.GateAnd2) ∷
    (codes "wokwi-gate-or-2", kinds.GateOr2) ∷
    (codes "wokwi-gate-nand-2", kinds.GateNand2) ∷
    (codes "wokwi-gate-nor-2", kinds.GateNor2) ∷
    (codes "wokwi-gate-xor-2", kinds.GateXor2) ∷
    (codes "wokwi-gate-xnor-2", kinds.GateXnor2) ∷
    (codes "wokwi-74hc595", kinds.ShiftRegister595) ∷
    (codes "wokwi-7segment", kinds.SevenSegment) ∷
    (codes "wokwi-lcd1602", kinds.Lcd1602Full) ∷
    (codes "board-ssd1306", kinds.Ssd1306) ∷
    (codes "wokwi-membrane-keypad", kinds.MembraneKeypad) ∷
    (codes "board-source", kinds.Source) ∷ []

abbrev pub kind_in : List (List ℕ × Kind) → List ℕ → Option Kind
kind_in [] text = None
kind_in (x ∷ xs) text = if bytes_eq x.0 text then Some x.1 else kind_in xs text

-- the kind of a type
unfoldable pub named_kind : List ℕ → Option Kind
named_kind text = kind_in types text
