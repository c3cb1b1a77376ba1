-- What the words of the command line ask for (profile).
use Rattle.std.specs.Prelude.{ℕ, ◌+◌, ◌-◌, ◌*◌, Bool, ◌&&◌, nat_le, ◌==◌, if◌then◌else◌, List, [], ◌∷◌, length, Option, Some, None, is_none, codes, fold}
use Rattle.std.specs.List.{list_all}
use Rattle.std.specs.Str.{bytes_eq}
use Rattle.std.specs.Option.{option_map, option_and_then}
use Rattle.cli_words_model.specs.Words.{Text, Given, Syntax, texts_of, text_of}

abbrev pub is_digit : ℕ → Bool
is_digit c = nat_le 48 c && nat_le c 57

-- the number that decimal digits spell
abbrev pub value_of : List ℕ → ℕ
value_of digits = fold (λ n c. 10 * n + (c - 48)) 0 digits

-- a number of 1 to 10 digits within bounds; leading zeros are allowed
abbrev pub number_within : ℕ → ℕ → List ℕ → Option ℕ
number_within least greatest word =
    if list_all is_digit word && (nat_le 1 (length word) && (nat_le (length word) 10 && (nat_le least (value_of word) && nat_le (value_of word) greatest)))
    then Some (value_of word) else None

-- the files of a run that are named, each or not: its script, and those for its wave and its report
pub record NamedFiles : Type 0 where
  pub script : Option Text
  pub wave : Option Text
  pub report : Option Text

-- the lines of a serial bus by the names of a wave's variables: a UART and the cycles of its bits; the clock and the data of SPI,
-- and its mode; the clock and the data of I2C
pub data NamedBus : Type 0 where
  Uart : Text → ℕ → NamedBus
  Spi : Text → Text → ℕ → NamedBus
  I2c : Text → Text → NamedBus

-- `Bare hex us`: the wave of so many microseconds of one Uno that runs the firmware of a HEX file.
-- `Check folder`: whether a project is accepted.
-- `Module file`: whether a chip's module is accepted.
-- `Run folder us budget named`: a run of a project for so many microseconds, in which each call of a chip may spend so many
-- units of fuel, with the files that are named for it.
-- `Serve folder budget script wave`: a live board of a project, in which each call of a chip may spend so many units of fuel, with
-- the script and the file for its wave that are named, each or not.
-- `Replay folder wave us named`: such a run with a player of what a wave says in place of each chip.
-- `Twin folder other us budget`: whether the chips of two projects that share all else drive the same in such a run.
-- `Make seed us`: a run of the board that is generated from a seed, for so many microseconds.
-- `Decode wave bus`: the frames on a bus, read from a wave.
pub data Request : Type 0 where
  Bare : Text → ℕ → Request
  Check : Text → Request
  Module : Text → Request
  Run : Text → ℕ → ℕ → NamedFiles → Request
  Serve : Text → ℕ → Option Text → Option Text → Request
  Replay : Text → Text → ℕ → NamedFiles → Request
  Twin : Text → Text → ℕ → ℕ → Request
  Make : ℕ → ℕ → Request
  Decode : Text → NamedBus → Request

-- a file name or a folder's is not empty
abbrev pub path : Text → Option Text
path text = if length text == 0 then None else Some text

abbrev pub path_of : Text → Given → Option Text
path_of name given = option_and_then path (text_of name given)

-- a file that is named or not; an empty name is none
abbrev pub named_file : Option Text → Option (Option Text)
named_file None = Some None
named_file (Some text) = option_map Some (path text)

abbrev pub file_of : Text → Given → Option (Option Text)
file_of name given = named_file (text_of name given)

-- a run time of 1 to 10,000,000 microseconds
abbrev pub micros_of : Given → Option ℕ
micros_of given = option_and_then (number_within 1 10000000) (text_of (codes "us") given)

-- the fuel of each call of a chip: 1 to 10,000,000 units, and 1,000,000 where none is named
abbrev pub budget_named : Option Text → Option ℕ
budget_named None = Some 1000000
budget_named (Some word) = number_within 1 10000000 word

abbrev pub budget_of : Given → Option ℕ
budget_of given = budget_named (text_of (codes "budget") given)

-- `bare HEX --us N`
abbrev pub bare_syntax : Syntax
bare_syntax = record { words = codes "hex" ∷ []; options = codes "us" ∷ [] }

abbrev pub bare_of : Given → Option Request
bare_of given = option_and_then (λ hex. option_map (Bare hex) (micros_of given)) (path_of (codes "hex") given)

-- `check FOLDER`
abbrev pub check_syntax : Syntax
check_syntax = record { words = codes "folder" ∷ []; options = [] }

abbrev pub check_of : Given → Option Request
check_of given = option_map Check (path_of (codes "folder") given)

-- `module FILE`
abbrev pub module_syntax : Syntax
module_syntax = record { words = codes "file" ∷ []; options = [] }

abbrev pub module_of : Given → Option Request
module_of given = option_map Module (path_of (codes "file") given)

-- `--script FILE`, `--vcd FILE` and `--report FILE`, each or not
abbrev pub with_report : Option Text → Option Text → Option Text → NamedFiles
with_report script wave report = record { script = script; wave = wave; report = report }

abbrev pub named_of : Given → Option NamedFiles
named_of given =
    option_and_then (λ script. option_and_then (λ wave. option_map (with_report script wave) (file_of (codes "report") given)) (file_of (codes "vcd") given)) (file_of (codes "script") given)

-- `run FOLDER --us N` with those files and `--budget N`
abbrev pub run_syntax : Syntax
run_syntax = record { words = codes "folder" ∷ []; options = codes "us" ∷ codes "script" ∷ codes "vcd" ∷ codes "report" ∷ codes "budget" ∷ [] }

abbrev pub run_of : Given → Option Request
run_of given =
    option_and_then (λ folder. option_and_then (λ us. option_and_then (λ budget. option_map (Run folder us budget) (named_of given)) (budget_of given)) (micros_of given)) (path_of (codes "folder") given)

-- A file for `serve` has another name than `-`: standard input has its requests, and standard output the answers.
abbrev pub own_file : Option Text → Option (Option Text)
own_file None = Some None
own_file (Some text) = if bytes_eq text (codes "-") then None else named_file (Some text)

abbrev pub own_file_of : Text → Given → Option (Option Text)
own_file_of name given = own_file (text_of name given)

-- `serve FOLDER` with `--script FILE`, `--vcd FILE` and `--budget N`
abbrev pub serve_syntax : Syntax
serve_syntax = record { words = codes "folder" ∷ []; options = codes "script" ∷ codes "vcd" ∷ codes "budget" ∷ [] }

abbrev pub serve_of : Given → Option Request
serve_of given =
    option_and_then (λ folder. option_and_then (λ budget. option_and_then (λ script. option_map (Serve folder budget script) (own_file_of (codes "vcd") given)) (own_file_of (codes "script") given)) (budget_of given)) (path_of (codes "folder") given)

-- `replay FOLDER WAVE --us N` with those files
abbrev pub replay_syntax : Syntax
replay_syntax = record { words = codes "folder" ∷ codes "wave" ∷ []; options = codes "us" ∷ codes "script" ∷ codes "vcd" ∷ codes "report" ∷ [] }

abbrev pub replay_of : Given → Option Request
replay_of given =
    option_and_then (λ folder. option_and_then (λ wave. option_and_then (λ us. option_map (Replay folder wave us) (named_of given)) (micros_of given)) (path_of (codes "wave") given)) (path_of (codes "folder") given)

-- `twin FOLDER OTHER --us N` with `--budget N`
abbrev pub twin_syntax : Syntax
twin_syntax = record { words = codes "folder" ∷ codes "other" ∷ []; options = codes "us" ∷ codes "budget" ∷ [] }

abbrev pub twin_of : Given → Option Request
twin_of given =
    option_and_then (λ folder. option_and_then (λ other. option_and_then (λ us. option_map (Twin folder other us) (budget_of given)) (micros_of given)) (path_of (codes "other") given)) (path_of (codes "folder") given)

-- a seed from 0 to 4,294,967,295
abbrev pub seed_of : Given → Option ℕ
seed_of given = option_and_then (number_within 0 4294967295) (text_of (codes "seed") given)

-- `make SEED --us N`
abbrev pub make_syntax : Syntax
make_syntax = record { words = codes "seed" ∷ []; options = codes "us" ∷ [] }

abbrev pub make_of : Given → Option Request
make_of given = option_and_then (λ seed. option_map (Make seed) (micros_of given)) (seed_of given)

-- the first of two that is there
abbrev pub or_else : {X : Type 0} → Option X → Option X → Option X
or_else None other = other
or_else (Some x) other = Some x

-- the words of one bus, of which those of the others know nothing
abbrev pub is_absent : Text → Given → Bool
is_absent name given = is_none (text_of name given)

abbrev pub lacks_uart : Given → Bool
lacks_uart given = is_absent (codes "uart") given && is_absent (codes "bit") given

abbrev pub lacks_spi : Given → Bool
lacks_spi given = is_absent (codes "spi") given && (is_absent (codes "data") given && is_absent (codes "mode") given)

abbrev pub lacks_i2c : Given → Bool
lacks_i2c given = is_absent (codes "i2c") given && is_absent (codes "sda") given

-- bits of 2 to 1,000,000 cycles, modes of 0 to 3
abbrev pub bit_of : Given → Option ℕ
bit_of given = option_and_then (number_within 2 1000000) (text_of (codes "bit") given)

abbrev pub mode_of : Given → Option ℕ
mode_of given = option_and_then (number_within 0 3) (text_of (codes "mode") given)

-- `--uart NAME --bit N`
abbrev pub uart_of : Given → Option NamedBus
uart_of given =
    if lacks_spi given && lacks_i2c given
    then option_and_then (λ line. option_map (Uart line) (bit_of given)) (text_of (codes "uart") given) else None

-- `--spi SCK --data NAME --mode M`
abbrev pub spi_of : Given → Option NamedBus
spi_of given =
    if lacks_uart given && lacks_i2c given
    then option_and_then (λ clock. option_and_then (λ line. option_map (Spi clock line) (mode_of given)) (text_of (codes "data") given)) (text_of (codes "spi") given) else None

-- `--i2c SCL --sda NAME`
abbrev pub i2c_of : Given → Option NamedBus
i2c_of given =
    if lacks_uart given && lacks_spi given
    then option_and_then (λ clock. option_map (I2c clock) (text_of (codes "sda") given)) (text_of (codes "i2c") given) else None

-- one of the three
abbrev pub bus_of : Given → Option NamedBus
bus_of given = or_else (uart_of given) (or_else (spi_of given) (i2c_of given))

-- `decode WAVE` with the words of one bus
abbrev pub decode_syntax : Syntax
decode_syntax = record {
  words = codes "wave" ∷ [];
  options = codes "uart" ∷ codes "bit" ∷ codes "spi" ∷ codes "data" ∷ codes "mode" ∷ codes "i2c" ∷ codes "sda" ∷ [];
}

abbrev pub decode_of : Given → Option Request
decode_of given = option_and_then (λ wave. option_map (Decode wave) (bus_of given)) (path_of (codes "wave") given)

-- the request of a command with these words after it
abbrev pub asked_by : Text → List Text → Option Request
asked_by command words =
    if bytes_eq command (codes "bare") then option_and_then bare_of (texts_of bare_syntax words)
    else if bytes_eq command (codes "check") then option_and_then check_of (texts_of check_syntax words)
    else if bytes_eq command (codes "module") then option_and_then module_of (texts_of module_syntax words)
    else if bytes_eq command (codes "run") then option_and_then run_of (texts_of run_syntax words)
    else if bytes_eq command (codes "serve") then option_and_then serve_of (texts_of serve_syntax words)
    else if bytes_eq command (codes "replay") then option_and_then replay_of (texts_of replay_syntax words)
    else if bytes_eq command (codes "twin") then option_and_then twin_of (texts_of twin_syntax words)
    else if bytes_eq command (codes "make") then option_and_then make_of (texts_of make_syntax words)
    else if bytes_eq command (codes "decode") then option_and_then decode_of (texts_of decode_syntax words)
    else None

-- The words are without the program's name; None where they ask for nothing that the program knows.
abbrev pub request_of : List Text → Option Request
request_of [] = None
request_of (command ∷ words) = asked_by command words
