use Rattle.std.proofs.Common.{◌≡◌, ◌∷◌, drop}
use Rattle.input_script.specs.Script.{words}
use Rattle.input_script.proofs.words.skip_spaces.Given as goal

abbrev pub invariant-loop-i : goal.invariant-loop-i
invariant-loop-i l = words (32 ∷ drop l.i l.bytes) ≡ words (32 ∷ l.bytes)
