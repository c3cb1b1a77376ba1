-- A half of a byte from its four bits, the lowest first.
use Rattle.std.specs.Prelude.{ℕ, ◌+◌, ◌*◌, Bool}
use Rattle.part_reactive.specs.Pins.{digit}

abbrev pub half : Bool → Bool → Bool → Bool → ℕ
half a b c d = digit a + 2 * digit b + 4 * digit c + 8 * digit d
