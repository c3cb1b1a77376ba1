use Rattle.std.proofs.Common.{◌+◌, sym, arith}
use Rattle.std.proofs.lemmas.List.{take_rest}
use Rattle.wave_lines.proofs.TextLemmas.{IsUnbroken, count_first, ended_first, unended_first, ended_none, unended_all, whole}
use Rattle.wave_lines.proofs.text.find_line.Goals as goal

pub returns-then-b-eq10-clause-line : goal.returns-then-b-eq10-clause-line
returns-then-b-eq10-clause-line c =
    rw (take_rest c.args.bytes.now (c.loop-i.i + 1)) (ended_first c.args.bytes.now c.loop-i.i c.loop-i-test.true c.if-b-eq10.true c.loop-i.invariant)

pub returns-then-b-eq10-clause-whole : goal.returns-then-b-eq10-clause-whole
returns-then-b-eq10-clause-whole c =
    rw (take_rest c.args.bytes.now (c.loop-i.i + 1)) (sym (whole c.args.bytes.now c.loop-i.i c.loop-i-test.true c.if-b-eq10.true))

pub returns-then-b-eq10-clause-unbroken : goal.returns-then-b-eq10-clause-unbroken
returns-then-b-eq10-clause-unbroken c =
    count_first c.args.bytes.now c.loop-i.i c.loop-i-test.true c.if-b-eq10.true c.loop-i.invariant

pub returns-then-b-eq10-clause-rest : goal.returns-then-b-eq10-clause-rest
returns-then-b-eq10-clause-rest c =
    rw (take_rest c.args.bytes.now (c.loop-i.i + 1)) (unended_first c.args.bytes.now c.loop-i.i c.loop-i-test.true c.if-b-eq10.true)

pub returns-clause-none : goal.returns-clause-none
returns-clause-none c =
    let past = c.loop-i-test.false in
    let unbroken : IsUnbroken c.args.bytes.now = λ k p. c.loop-i.invariant k (omega (arith, p, past)) in
    (ended_none c.args.bytes.now unbroken, unended_all c.args.bytes.now unbroken)
