-- The pins of parts, and which of them a part joins (Wokwi documentation, the pages of the parts; the pins of the gates and of the source are ours).
use Rattle.std.specs.Prelude.{ℕ, List, [], ◌∷◌, Option, ◌==◌, if◌then◌else◌, codes, unwrap_or}
use Rattle.std.specs.List.{position_from}
use Rattle.std.specs.Str.{bytes_eq}
use Rattle.part_catalog.specs.declared.kind.Kind.{Kind}
use Rattle.part_catalog.specs.declared.kind.Kind.TheVariants as kinds

abbrev pub before_first : ℕ → List (List ℕ) → List (List ℕ)
before_first b [] = (b ∷ []) ∷ []
before_first b (w ∷ ws) = (b ∷ w) ∷ ws

-- the words of a text, with one space between two
abbrev pub words : List ℕ → List (List ℕ)
words [] = []
words (b ∷ bs) = if b == 32 then [] ∷ words bs else before_first b (words bs)

-- the names of the pins of a kind, which count from 0
unfoldable pub pin_names : Kind → List (List ℕ)
pin_names kinds.ArduinoUno = words (codes "0 1 2 3 4 5 6 7 8 9 10 11 12 13 A0 A1 A2 A3 A4 A5 A4.2 A5.2 GND.1 GND.2 GND.3 5V 3.3V VIN IOREF AREF RESET")
pin_names kinds.Led = words (codes "A C")
pin_names kinds.Pushbutton = words (codes "1.l 1.r 2.l 2.r")
pin_names kinds.SlideSwitch = words (codes "1 2 3")
pin_names kinds.DipSwitch8 = words (codes "1a 2a 3a 4a 5a 6a 7a 8a 1b 2b 3b 4b 5b 6b 7b 8b")
pin_names kinds.Resistor = words (codes "1 2")
pin_names kinds.Junction = words (codes "J")
pin_names kinds.Text = []
pin_names kinds.Vcc = words (codes "VCC")
pin_names kinds.Gnd = words (codes "GND")
pin_names kinds.Potentiometer = words (codes "GND SIG VCC")
pin_names kinds.GateNot = words (codes "IN OUT")
pin_names kinds.GateBuffer = words (codes "IN OUT")
pin_names kinds.GateAnd2 = words (codes "A B OUT")
pin_names kinds.GateOr2 = words (codes "A B OUT")
pin_names kinds.GateNand2 = words (codes "A B OUT")
pin_names kinds.GateNor2 = words (codes "A B OUT")
pin_names kinds.GateXor2 = words (codes "A B OUT")
pin_names kinds.GateXnor2 = words (codes "A B OUT")
pin_names kinds.ShiftRegister595 = words (codes "DS SHCP STCP MR OE Q0 Q1 Q2 Q3 Q4 Q5 Q6 Q7 Q7S GND VCC")
pin_names kinds.SevenSegment = words (codes "A B C D E F G DP COM COM.1 COM.2")
pin_names kinds.Lcd1602Full = words (codes "VSS VDD V0 RS RW E D0 D1 D2 D3 D4 D5 D6 D7 A K")
pin_names kinds.Lcd1602I2c = words (codes "GND VCC SDA SCL")
pin_names kinds.Ssd1306 = words (codes "GND VCC SCL SDA")
pin_names kinds.MembraneKeypad = words (codes "R1 R2 R3 R4 C1 C2 C3 C4")
pin_names kinds.Source = words (codes "OUT")

-- the number of the pin with a name
abbrev pub number_of : Kind → List ℕ → Option ℕ
number_of kind pin = position_from (bytes_eq pin) 0 (pin_names kind)

-- the numbers of named pins, two and two
abbrev pub in_twos : Kind → List (List ℕ) → List (ℕ × ℕ)
in_twos kind [] = []
in_twos kind (a ∷ []) = []
in_twos kind (a ∷ b ∷ rest) = (unwrap_or (number_of kind a) 0, unwrap_or (number_of kind b) 0) ∷ in_twos kind rest

-- two and two, the pins that a part joins for good
abbrev pub joined_names : Kind → List ℕ
joined_names kinds.ArduinoUno = codes "A4 A4.2 A5 A5.2"
joined_names kinds.Pushbutton = codes "1.l 1.r 2.l 2.r"
joined_names kinds.SevenSegment = codes "COM COM.1 COM COM.2"
joined_names kind = []

-- two and two, the pins between which a part has a contact
abbrev pub contact_names : Kind → List ℕ
contact_names kinds.Pushbutton = codes "1.l 2.l"
contact_names kinds.SlideSwitch = codes "1 2 2 3"
contact_names kinds.DipSwitch8 = codes "1a 1b 2a 2b 3a 3b 4a 4b 5a 5b 6a 6b 7a 7b 8a 8b"
contact_names kinds.MembraneKeypad = codes "R1 C1 R1 C2 R1 C3 R1 C4 R2 C1 R2 C2 R2 C3 R2 C4 R3 C1 R3 C2 R3 C3 R3 C4 R4 C1 R4 C2 R4 C3 R4 C4"
contact_names kind = []

unfoldable pub joins_of : Kind → List (ℕ × ℕ)
joins_of kind = in_twos kind (words (joined_names kind))

unfoldable pub contacts_in : Kind → List (ℕ × ℕ)
contacts_in kind = in_twos kind (words (contact_names kind))
