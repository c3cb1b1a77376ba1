-- The display of a chip: its size in pixels (profile).
use Rattle.std.specs.Prelude.{ℕ, ◌*◌, Bool, ◌&&◌, nat_le}

pub record DisplaySize : Type 0 where
  pub width : ℕ
  pub height : ℕ

-- a display has at least one pixel in each direction, and at most 65,536 in all
abbrev pub is_display : ℕ → ℕ → Bool
is_display width height = nat_le 1 width && nat_le 1 height && nat_le (width * height) 65536
