-- The lines of a report: words with one space between two (profile).
use Rattle.std.specs.Prelude.{ℕ, Option, None, Some, ◌+◌, ◌/◌, ◌%◌, List, [], ◌∷◌, ◌++◌, Bool, nat_lt, if◌then◌else◌, codes}
use Rattle.std.specs.List.{flat_map}
use Rattle.std.specs.Option.{option_to_list}
use Rattle.std.specs.Fmt.{decimal}
use Rattle.avr_omit.specs.Names.{name_of}
use Rattle.sim_report.specs.declared.row.ReportRow.{ReportRow}
use Rattle.sim_report.specs.declared.row.ReportRow.TheVariants as rows
use Rattle.sim_report.specs.declared.row.UnoMode.{UnoMode}
use Rattle.sim_report.specs.declared.row.UnoMode.TheVariants as modes

-- words after another one
abbrev pub spaced : List (List ℕ) → List ℕ
spaced [] = []
spaced (word ∷ words) = 32 ∷ word ++ spaced words

-- a hexadecimal digit, in upper case
abbrev pub hex_digit : ℕ → ℕ
hex_digit d = if nat_lt d 10 then 48 + d else 55 + d

abbrev pub hex_byte : ℕ → List ℕ
hex_byte b = hex_digit (b / 16) ∷ hex_digit (b % 16) ∷ []

abbrev pub hex_word : ℕ → List ℕ
hex_word w = hex_byte (w / 256) ++ hex_byte (w % 256)

abbrev pub after_0x : List ℕ → List ℕ
after_0x digits = codes "0x" ++ digits

abbrev pub lit_word : Bool → List ℕ
lit_word lit = if lit then codes "on" else codes "off"

abbrev pub mode_words : UnoMode → List (List ℕ)
mode_words modes.Run = codes "run" ∷ []
mode_words modes.Sleep = codes "sleep" ∷ []
mode_words (modes.Halt word) = codes "halt" ∷ after_0x (hex_word word) ∷ []

-- what a line is about
abbrev pub subject : ReportRow → List ℕ
subject (rows.Cycles count) = codes "cycles"
subject (rows.Uno id pc mode) = codes "uno"
subject (rows.Ignored id register) = codes "uno"
subject (rows.Omits id omission asked) = codes "uno"
subject (rows.Led id lit count) = codes "led"
subject (rows.Input id value) = codes "input"
subject (rows.Seg id segments) = codes "seg"
subject (rows.Shift id stages latch) = codes "shift"
subject (rows.Lcd id line text) = codes "lcd"
subject (rows.Oled id on) = codes "oled"
subject (rows.OledPage id page cells) = codes "oled"
subject (rows.Alive id) = codes "chip"
subject (rows.Trap id trap cycle) = codes "chip"

-- the part that it is about, where it is about one
abbrev pub id_of : ReportRow → Option (List ℕ)
id_of (rows.Cycles count) = None
id_of (rows.Uno id pc mode) = Some id
id_of (rows.Ignored id register) = Some id
id_of (rows.Omits id omission asked) = Some id
id_of (rows.Led id lit count) = Some id
id_of (rows.Input id value) = Some id
id_of (rows.Seg id segments) = Some id
id_of (rows.Shift id stages latch) = Some id
id_of (rows.Lcd id line text) = Some id
id_of (rows.Oled id on) = Some id
id_of (rows.OledPage id page cells) = Some id
id_of (rows.Alive id) = Some id
id_of (rows.Trap id trap cycle) = Some id

-- what it says
abbrev pub words_of : ReportRow → List (List ℕ)
words_of (rows.Cycles count) = decimal count ∷ []
words_of (rows.Uno id pc mode) = codes "pc" ∷ after_0x (hex_word pc) ∷ mode_words mode
words_of (rows.Ignored id register) = codes "ignored" ∷ after_0x (hex_byte register) ∷ []
words_of (rows.Omits id omission asked) =
    codes "omits" ∷ name_of omission ∷ codes "at" ∷ decimal asked.cycle ∷ after_0x (hex_byte asked.address) ∷ after_0x (hex_byte asked.value) ∷ []
words_of (rows.Led id lit count) = lit_word lit ∷ codes "lit" ∷ decimal count ∷ []
words_of (rows.Input id value) = decimal value ∷ []
words_of (rows.Seg id segments) = hex_byte segments ∷ []
words_of (rows.Shift id stages latch) = hex_byte stages ∷ hex_byte latch ∷ []
words_of (rows.Lcd id line text) = decimal line ∷ (codes "|" ++ text ++ codes "|") ∷ []
words_of (rows.Oled id on) = lit_word on ∷ []
words_of (rows.OledPage id page cells) = codes "page" ∷ decimal page ∷ flat_map hex_byte cells ∷ []
words_of (rows.Alive id) = codes "alive" ∷ []
words_of (rows.Trap id trap cycle) = codes "trap" ∷ decimal trap ∷ codes "at" ∷ decimal cycle ∷ []

abbrev pub line_of : ReportRow → List ℕ
line_of row = subject row ++ spaced (option_to_list (id_of row)) ++ spaced (words_of row) ++ 10 ∷ []
