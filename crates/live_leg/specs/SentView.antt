-- The bytes that are kept of a leg.
use Rattle.std.specs.Prelude.{◌≡◌, ℕ, ◌+◌, ◌≤◌, List, [], ◌∷◌, ◌++◌, take, drop, length}
use Rattle.vcd_text.specs.Writers.{capped}

pub record SentView : Type 0 where
  -- those since it was emptied
  pub bytes : List ℕ
  -- how many there were from the first on, and how many of these before it was emptied
  pub total : ℕ
  pub first : ℕ

-- by how many bytes a leg ends (profile)
abbrev pub most_sent : ℕ
most_sent = 65536

-- how many are kept: those by which a leg ends, and one more of each part
abbrev pub sent_room : ℕ
sent_room = 65600

-- with one byte more
abbrev pub with_byte : SentView → ℕ → SentView
with_byte s b = record { bytes = take sent_room (s.bytes ++ b ∷ []); total = capped (s.total + 1); first = s.first }

-- It was handed these bytes, all from the first on.
pub record HasOf (s : SentView) (bytes : List ℕ) : Type 0 where
  pub kept : s.bytes ≡ take sent_room (drop s.first bytes)
  pub counted : s.total ≡ capped (length bytes)
  pub began : s.first ≤ length bytes
