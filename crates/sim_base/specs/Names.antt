-- Names of parts, pins and chips (profile).
use Rattle.std.specs.Prelude.{ℕ, Bool, not, ◌&&◌, nat_le, ◌==◌, List, length}
use Rattle.std.specs.List.{list_all}

-- printable ASCII other than the space and the colon
abbrev pub is_name_byte : ℕ → Bool
is_name_byte b = nat_le 0x21 b && (nat_le b 0x7E && not (b == 58))

-- 1 to 64 such bytes
abbrev pub is_name : List ℕ → Bool
is_name text = nat_le 1 (length text) && (nat_le (length text) 64 && list_all is_name_byte text)
