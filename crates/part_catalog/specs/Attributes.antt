-- The attributes that parts read (Wokwi documentation, the pages of the parts; the form of numbers is ours).
use Rattle.std.specs.Prelude.{ℕ, false, List, [], ◌∷◌, drop, take, Bool, nat_le, Option, None, Some, if◌then◌else◌, codes}
use Rattle.std.specs.Str.{bytes_eq}
use Rattle.text_numerals.specs.Numerals.{numeral}
use Rattle.part_catalog.specs.declared.kind.Kind.{Kind}
use Rattle.part_catalog.specs.declared.kind.Kind.TheVariants as kinds
use Rattle.part_catalog.specs.declared.settings.Settings.{Settings}

-- the text of an attribute, the later one where there are several, after a text found before
abbrev pub attribute_after : Option (List ℕ) → List ℕ → List (List ℕ × List ℕ) → Option (List ℕ)
attribute_after found name [] = found
attribute_after found name (a ∷ attrs) = attribute_after (if bytes_eq a.0 name then Some a.1 else found) name attrs

abbrev pub attribute : List ℕ → List (List ℕ × List ℕ) → Option (List ℕ)
attribute name attrs = attribute_after None name attrs

abbrev pub up_to : ℕ → Option ℕ → Option ℕ
up_to greatest None = None
up_to greatest (Some n) = if nat_le n greatest then Some n else None

-- a number of 1 to so many digits of a radix, up to a greatest value
abbrev pub number : ℕ → ℕ → ℕ → List ℕ → Option ℕ
number radix longest greatest text = up_to greatest (numeral radix longest text)

abbrev pub decimal_to : ℕ → List ℕ → Option ℕ
decimal_to greatest text = number 10 5 greatest text

-- an address of 7 bits, in decimal digits or as 0x with one or two hexadecimal digits
abbrev pub address : List ℕ → Option ℕ
address text = if bytes_eq (take 2 text) (codes "0x") then number 16 2 127 (drop 2 text) else decimal_to 127 text

-- which of two words a text is
abbrev pub which : List ℕ → List ℕ → List ℕ → Option ℕ
which first second text = if bytes_eq text first then Some 0 else if bytes_eq text second then Some 1 else None

-- what an attribute is read as; where it is absent, a default
abbrev pub read_or : ℕ → (List ℕ → Option ℕ) → Option (List ℕ) → Option ℕ
read_or default read None = Some default
read_or default read (Some text) = read text

abbrev pub both : Option ℕ → Option ℕ → Option Settings
both None c = None
both (Some n) None = None
both (Some n) (Some c) = Some (record { number = n; choice = c })

-- the settings of a part, none where an attribute that it reads has a text of another form
unfoldable pub settings_from : Kind → List (List ℕ × List ℕ) → Option Settings
settings_from kinds.SlideSwitch attrs = both (read_or 0 (decimal_to 1) (attribute (codes "value") attrs)) (Some 0)
settings_from kinds.Potentiometer attrs = both (read_or 0 (decimal_to 1023) (attribute (codes "value") attrs)) (Some 0)
settings_from kinds.SevenSegment attrs = both (Some 0) (read_or 0 (which (codes "anode") (codes "cathode")) (attribute (codes "common") attrs))
settings_from kinds.Lcd1602Full attrs = both (read_or 0x27 address (attribute (codes "i2cAddress") attrs)) (read_or 0 (which (codes "full") (codes "i2c")) (attribute (codes "pins") attrs))
settings_from kinds.Lcd1602I2c attrs = both (read_or 0x27 address (attribute (codes "i2cAddress") attrs)) (read_or 0 (which (codes "full") (codes "i2c")) (attribute (codes "pins") attrs))
settings_from kinds.Ssd1306 attrs = both (read_or 0x3C address (attribute (codes "i2cAddress") attrs)) (Some 0)
settings_from kinds.Source attrs = both (read_or 2 (decimal_to 2) (attribute (codes "value") attrs)) (Some 0)
settings_from kind attrs = both (Some 0) (Some 0)

abbrev pub is_text : List ℕ → Option (List ℕ) → Bool
is_text word None = false
is_text word (Some text) = bytes_eq text word

-- the kind with the pins that the attribute `pins` chooses
abbrev pub wired_kind : Kind → List (List ℕ × List ℕ) → Kind
wired_kind kinds.Lcd1602Full attrs = if is_text (codes "i2c") (attribute (codes "pins") attrs) then kinds.Lcd1602I2c else kinds.Lcd1602Full
wired_kind kind attrs = kind

-- the greatest value that a script gives a part of a kind, where it gives it any
abbrev pub greatest_of : Kind → Option ℕ
greatest_of kinds.Pushbutton = Some 1
greatest_of kinds.SlideSwitch = Some 1
greatest_of kinds.Source = Some 2
greatest_of kinds.DipSwitch8 = Some 255
greatest_of kinds.Potentiometer = Some 1023
greatest_of kinds.MembraneKeypad = Some 65535
greatest_of kind = None
