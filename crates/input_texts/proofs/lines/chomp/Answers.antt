use Rattle.std.proofs.Common.{◌-◌, sym, length, refl, arith}
use Rattle.std.proofs.lemmas.List.{nil_from_length}
use Rattle.input_texts.proofs.LineLemmas.{cr_last, no_cr}
use Rattle.input_texts.proofs.lines.chomp.Goals as goal
use Rattle.input_texts.proofs.lines.chomp.Goals.{else-n-gt0-via-then-n-gt0+else-line-n-eq13, else-n-gt0-via-else-n-gt0}

pub returns-then-line-n-eq13 : goal.returns-then-line-n-eq13
returns-then-line-n-eq13 c = sym (cr_last c.args.line.now (length c.args.line.now - 1) (omega arith) c.if-line-n-eq13.true)

pub returns-else-n-gt0 : goal.returns-else-n-gt0
returns-else-n-gt0 c = elim c.else-n-gt0.branch [
  | else-n-gt0-via-then-n-gt0+else-line-n-eq13 w ↦ sym (no_cr c.args.line.now (length c.args.line.now - 1) (omega arith) w.if-line-n-eq13.false)
  | else-n-gt0-via-else-n-gt0 w ↦ rw (nil_from_length c.args.line.now (omega arith)) refl
]
