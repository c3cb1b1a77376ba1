use Rattle.std.proofs.Common.{sym, arith}
use Rattle.std.proofs.lemmas.List.{take_rest}
use Rattle.wave_lines.proofs.TextLemmas.{count_first, ended_first, two_unbroken, unended_first, whole}
use Rattle.wave_lines.proofs.text.split_line.Goals as goal

pub returns-in-len3-up-clause-line : goal.returns-in-len3-up-clause-line
returns-in-len3-up-clause-line c =
    rw (take_rest c.args.bytes.now 3) (ended_first c.args.bytes.now 2 (omega (arith, c.in-len3-up.len_at_least)) c.if-end-eq10.true (two_unbroken c.args.bytes.now c.if-a-ne10.true c.if-b-ne10.true))

pub returns-in-len3-up-clause-whole : goal.returns-in-len3-up-clause-whole
returns-in-len3-up-clause-whole c =
    rw (take_rest c.args.bytes.now 3) (sym (whole c.args.bytes.now 2 (omega (arith, c.in-len3-up.len_at_least)) c.if-end-eq10.true))

pub returns-in-len3-up-clause-unbroken : goal.returns-in-len3-up-clause-unbroken
returns-in-len3-up-clause-unbroken c =
    count_first c.args.bytes.now 2 (omega (arith, c.in-len3-up.len_at_least)) c.if-end-eq10.true (two_unbroken c.args.bytes.now c.if-a-ne10.true c.if-b-ne10.true)

pub returns-in-len3-up-clause-rest : goal.returns-in-len3-up-clause-rest
returns-in-len3-up-clause-rest c =
    rw (take_rest c.args.bytes.now 3) (unended_first c.args.bytes.now 2 (omega (arith, c.in-len3-up.len_at_least)) c.if-end-eq10.true)
