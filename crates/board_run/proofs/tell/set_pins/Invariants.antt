use Rattle.board_run.proofs.Common.{◌≡◌, ◌+◌, ◌<◌, ◌≤◌, ◌⊎◌, ℕ, length, true, false, slice_get, HasAt}
use Rattle.board_run.proofs.tell.set_pins.Given as goal

-- the pins of the span before this one were told
abbrev pub invariant-loop-pin : goal.invariant-loop-pin
invariant-loop-pin g l = record {
  long : length l.nets.drives ≡ length l.fn.nets.drives;
  told : (j : ℕ) → l.from ≤ j → j < l.pin → slice_get l.nets.drives (l.at + j) ≡ slice_get (g.P.Part.machine.drives (g.P.Part.state l.part)) j;
  rest : (x : ℕ) → (x < l.at + l.from) ⊎ (l.at + l.pin ≤ x) → slice_get l.nets.drives x ≡ slice_get l.fn.nets.drives x;
  same : l.changed ≡ false → (j : ℕ) → l.from ≤ j → j < l.pin → slice_get l.fn.nets.drives (l.at + j) ≡ slice_get (g.P.Part.machine.drives (g.P.Part.state l.part)) j;
  other : l.changed ≡ true → HasAt l.at (g.P.Part.machine.drives (g.P.Part.state l.part)) l.fn.nets.drives → ⊥;
  others : l.nets ≡ record l.fn.nets { drives = l.nets.drives };
}
