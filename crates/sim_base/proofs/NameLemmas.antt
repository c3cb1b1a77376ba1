-- A name's bytes are ASCII, and so a text.
use Rattle.std.proofs.Common.{◌≡◌, ◌<◌, ◌&&◌, ◌==◌, ℕ, zero, suc, List, [], ◌∷◌, length, true, not, nat_le, arith, lit<}
use Rattle.std.specs.List.{list_all}
use Rattle.std.specs.Str.{IsAscii, IsUtf8}
use Rattle.std.proofs.lemmas.Bool.{and_parts, leb-true}
use Rattle.std.proofs.lemmas.Str.{IsUtf8-from_ascii}
use Rattle.sim_base.specs.Names.{is_name, is_name_byte}

byte_low : (b : ℕ) → is_name_byte b ≡ true → b < 128
byte_low b h =
    let low = and_parts (nat_le 0x21 b) (nat_le b 0x7E && not (b == 58)) h in
    let high = and_parts (nat_le b 0x7E) (not (b == 58)) low.1 in
    omega (arith, leb-true b 0x7E high.0)

bytes_low : (bytes : List ℕ) → list_all is_name_byte bytes ≡ true → IsAscii bytes
bytes_low [] h zero = lit< tt
bytes_low [] h (suc i) = lit< tt
bytes_low (b ∷ bytes) h zero = byte_low b (and_parts (is_name_byte b) (list_all is_name_byte bytes) h).0
bytes_low (b ∷ bytes) h (suc i) = bytes_low bytes (and_parts (is_name_byte b) (list_all is_name_byte bytes) h).1 i

pub name_text : (text : List ℕ) → is_name text ≡ true → IsUtf8 text
name_text text h =
    let some = and_parts (nat_le 1 (length text)) (nat_le (length text) 64 && list_all is_name_byte text) h in
    let few = and_parts (nat_le (length text) 64) (list_all is_name_byte text) some.1 in
    IsUtf8-from_ascii text (bytes_low text few.1)
