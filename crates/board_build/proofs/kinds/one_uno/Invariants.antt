use Rattle.std.proofs.Common.{◌≡◌, ◌+◌, drop}
use Rattle.board_build.specs.Parts.{is_uno, numbers_from, one_uno}
use Rattle.board_build.proofs.CountLemmas.{judged}
use Rattle.board_build.proofs.kinds.one_uno.Given as goal

abbrev pub invariant-loop-i : goal.invariant-loop-i
invariant-loop-i l = judged l.found (numbers_from is_uno (l.i + 1) (drop l.i l.kinds)) ≡ one_uno l.kinds
