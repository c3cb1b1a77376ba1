-- Bytes after their length: the form of all that goes in and out.
use Rattle.std.specs.Prelude.{ℕ, nat_le, if◌then◌else◌, List, [], ◌∷◌, ◌++◌, length, take, drop, Option, None, Some}
use Rattle.std.specs.Int.{w64, to_le_bytes, from_le_bytes}
use Rattle.std.specs.Option.{option_map_or}
use Rattle.sim_base.specs.Mem.{MemState, Store}

-- bytes after their length in eight bytes, the lowest first
unfoldable pub block : List ℕ → List ℕ
block bytes = to_le_bytes w64 (length bytes) ++ bytes

-- the bytes of the first block of a list, and what follows
abbrev pub first_block : List ℕ → Option (List ℕ × List ℕ)
first_block (a ∷ b ∷ c ∷ d ∷ e ∷ f ∷ g ∷ h ∷ more) =
    let long : ℕ = from_le_bytes w64 (a ∷ b ∷ c ∷ d ∷ e ∷ f ∷ g ∷ h ∷ []) in
    if nat_le long (length more) then Some (take long more, drop long more) else None
first_block _ = None

-- the name under which a port was opened, or nothing
abbrev pub name_of : Store → List ℕ
name_of p = option_map_or (λ name. name) p.name []

-- what the ports hold, and the names of those that were opened: Serial, Wave's name, Wave, Report's name, Report, Complaint
abbrev pub blocks : MemState → List ℕ
blocks s = ((((block s.serial.bytes ++ block (name_of s.wave)) ++ block s.wave.bytes) ++ block (name_of s.report)) ++ block s.report.bytes) ++ block s.complaint.bytes
