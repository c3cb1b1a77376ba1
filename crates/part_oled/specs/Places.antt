-- Where data may go: in the cells.
use Rattle.std.specs.Prelude.{ℕ, ◌<◌, Option, None, Some}
use Rattle.part_oled.specs.declared.picture.Window.{Window}
use Rattle.part_oled.specs.declared.picture.Waiting.{Waiting}

-- a window and a place below a count
pub record AreIn (count : ℕ) (w : Window) (n : ℕ) : Type 0 where
  pub first : w.first < count
  pub place : n < count

-- parameters are to come
abbrev pub IsWaiting : Option Waiting → Type 0
IsWaiting None = Unit {0}
IsWaiting (Some w) = 0 < w.left
