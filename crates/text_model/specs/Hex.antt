-- Intel HEX as an image of the flash (Intel, "Hexadecimal Object File Format Specification"; the
-- flash of 32,768 bytes and the order of the faults are the profile's).
use Rattle.std.specs.Prelude.{◌≡◌, ℕ, suc, ◌+◌, ◌*◌, ◌%◌, Bool, not, ◌&&◌, ◌||◌, nat_lt, nat_le, ◌==◌, if◌then◌else◌, List, [], ◌∷◌, length, take, drop, get_or, set, replicate, sum, Result, Ok, Err}
use Rattle.std.specs.List.{list_all}
use Rattle.std.specs.Char.{is_ascii_hexdigit, digit_value}
use Rattle.sim_base.specs.declared.fault.Refusal.{Refusal}
use Rattle.sim_base.specs.declared.fault.Place.TheVariants as places
use Rattle.sim_refusals.specs.Refusals.{HexStart, HexDigit, HexLength, HexSum, HexType, HexRange, HexNoEnd}
use Rattle.text_model.specs.Lines.{lines}

-- the bytes that pairs of digits spell
abbrev pub hex_bytes : List ℕ → List ℕ
hex_bytes [] = []
hex_bytes (high ∷ []) = []
hex_bytes (high ∷ low ∷ digits) = (16 * digit_value high + digit_value low) ∷ hex_bytes digits

-- A record is a length LL, an address AAAA, a type TT, LL data bytes and a check byte.
abbrev pub length_of : List ℕ → ℕ
length_of r = get_or r 0 0

abbrev pub address_of : List ℕ → ℕ
address_of r = 256 * get_or r 1 0 + get_or r 2 0

abbrev pub type_of : List ℕ → ℕ
type_of r = get_or r 3 0

abbrev pub data_of : List ℕ → List ℕ
data_of r = take (length_of r) (drop 4 r)

-- the first two data bytes as a number
abbrev pub word_of : List ℕ → ℕ
word_of r = 256 * get_or r 4 0 + get_or r 5 0

-- whether the data stand below address 0x8000; where there are none, they do
abbrev pub is_in_flash : ℕ → List ℕ → Bool
is_in_flash base r = length_of r == 0 || nat_le (base + address_of r + length_of r) 32768

-- What a line is for: nothing, data from an address on, a new base, the end, or a refusal's number.
pub data Verdict : Type 0 where
  Passed : Verdict
  Data : ℕ → List ℕ → Verdict
  Base : ℕ → Verdict
  End : Verdict
  Faulty : ℕ → Verdict

-- What a record of a good sum says where a base is given: type 00 is data, 01 ends the text, 02
-- sets the base to a segment's address, 04 to the upper half of a linear one, and the start
-- addresses 03 and 05 are passed over.
abbrev pub says : ℕ → List ℕ → Verdict
says base r =
    if type_of r == 0 && is_in_flash base r then Data (base + address_of r) (data_of r)
    else if type_of r == 0 then Faulty HexRange
    else if type_of r == 1 && length_of r == 0 then End
    else if type_of r == 2 && length_of r == 2 then Base (16 * word_of r)
    else if type_of r == 4 && length_of r == 2 then Base (65536 * word_of r)
    else if (type_of r == 3 || type_of r == 5) && length_of r == 4 then Passed
    else Faulty HexType

-- What a line is for where a base is given, or the first rule that it breaks: an empty line says
-- nothing, another one is `:`, hexadecimal digits, as many as its length asks for, of the sum 0.
abbrev pub verdict : ℕ → List ℕ → Verdict
verdict base [] = Passed
verdict base (mark ∷ digits) =
    if not (mark == 58) then Faulty HexStart
    else if not (list_all is_ascii_hexdigit digits) then Faulty HexDigit
    else if nat_lt (length digits) 10 || not (length digits == 2 * length_of (hex_bytes digits) + 10) then Faulty HexLength
    else if not (sum (hex_bytes digits) % 256 == 0) then Faulty HexSum
    else says base (hex_bytes digits)

-- an image with bytes from an address on
abbrev pub put : List ℕ → ℕ → List ℕ → List ℕ
put image address [] = image
put image address (b ∷ bs) = put (set image address b) (suc address) bs

-- What a verdict on line k leads to, where `on` is what the later lines make of an image under a
-- base: what stands after the end is not read, and the first fault is the answer.
abbrev pub after : Verdict → List ℕ → ℕ → ℕ → (List ℕ → ℕ → Result (List ℕ) Refusal) → Result (List ℕ) Refusal
after Passed image base k on = on image base
after (Data address bytes) image base k on = on (put image address bytes) base
after (Base next) image base k on = on image next
after End image base k on = Ok image
after (Faulty number) image base k on = Err (record { number = number; place = places.Line k })

-- what the lines from number k on make of an image under a base; 26 where none of them is the end
unfoldable pub image_of : List ℕ → ℕ → ℕ → List (List ℕ) → Result (List ℕ) Refusal
image_of image base k [] = Err (record { number = HexNoEnd; place = places.Line k })
image_of image base k (line ∷ rest) =
    after (verdict base line) image base k (λ image base. image_of image base (suc k) rest)

-- The image that a text stands for, or the refusal with its line: lines count from 1, the base is 0
-- at first, and a byte that is not given is 0xFF.
abbrev pub hex_image : List ℕ → Result (List ℕ) Refusal
hex_image text = image_of (replicate 32768 255) 0 1 (lines text)

abbrev pub HexText : List ℕ → List ℕ → Type 0
HexText text image = hex_image text ≡ Ok image
