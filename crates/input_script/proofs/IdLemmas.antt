-- An id is ASCII, and so a text.
use Rattle.std.proofs.Common.{◌≡◌, ◌<◌, ◌≤◌, ◌&&◌, ℕ, zero, suc, List, [], ◌∷◌, length, true, nat_le, arith, lit<}
use Rattle.std.specs.List.{list_all}
use Rattle.std.specs.Str.{IsAscii, IsUtf8}
use Rattle.std.proofs.lemmas.Bool.{and_parts}
use Rattle.std.proofs.lemmas.Bool.Decides.{nat_tests}
use Rattle.std.proofs.lemmas.Str.{IsUtf8-from_ascii}
use Rattle.document_model.specs.Diagram.{is_id, is_id_byte}

byte_low : (b : ℕ) → is_id_byte b ≡ true → b < 128
byte_low b h = grind (arith, nat_tests)

bytes_low : (bytes : List ℕ) → list_all is_id_byte bytes ≡ true → IsAscii bytes
bytes_low [] h zero = lit< tt
bytes_low [] h (suc i) = lit< tt
bytes_low (b ∷ bytes) h zero = byte_low b (and_parts (is_id_byte b) (list_all is_id_byte bytes) h).0
bytes_low (b ∷ bytes) h (suc i) = bytes_low bytes (and_parts (is_id_byte b) (list_all is_id_byte bytes) h).1 i

pub id_text : (text : List ℕ) → is_id text ≡ true → IsUtf8 text
id_text text h =
    let some = and_parts (nat_le 1 (length text)) (nat_le (length text) 64 && list_all is_id_byte text) h in
    let few = and_parts (nat_le (length text) 64) (list_all is_id_byte text) some.1 in
    IsUtf8-from_ascii text (bytes_low text few.1)
