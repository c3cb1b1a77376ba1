use Rattle.std.proofs.Common.{◌+◌, length, arith}
use Rattle.std.proofs.lemmas.List.{take_rest, drop_all}
use Rattle.text_model.specs.Lines.{lines}
use Rattle.input_texts.proofs.LineLemmas.{lines_at, lines_whole}
use Rattle.input_texts.proofs.lines.next_line.Goals as goal

pub returns-in-Some-clause-line : goal.returns-in-Some-clause-line
returns-in-Some-clause-line c = rw (take_rest c.args.bytes.now (c.in-Some.end + 1), c.chomp.ensures) (lines_at c.args.bytes.now c.in-Some.end c.in-Some.ensures.within c.in-Some.ensures.found c.in-Some.ensures.before)

pub returns-in-None-clause-line : goal.returns-in-None-clause-line
unfolding lines
returns-in-None-clause-line c = rw (take_rest c.args.bytes.now (length c.args.bytes.now), drop_all (length c.args.bytes.now) c.args.bytes.now (omega arith)) (lines_whole c.args.bytes.now c.requires c.in-None.ensures.none)
