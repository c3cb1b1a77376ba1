use Rattle.std.proofs.Common.{◌≡◌, ◌∙◌, ℕ, length, drop, Ok, sym, ap, arith}
use Rattle.std.proofs.lemmas.List.{take_rest}
use Rattle.wave_lines.proofs.TextLemmas.{behind_line, behind_same, behind_other, behind_short, behind_done}
use Rattle.wave_lines.proofs.text.behind.Goals as goal
use Rattle.wave_lines.proofs.text.behind.Goals.{then-i-bytes-via-then-i-bytes, then-i-bytes-via-else-i-bytes+then-head-i, then-head-i-eq10, else-head-i-eq10}

pub returns-then-i-bytes-clause-behind : goal.returns-then-i-bytes-clause-behind
returns-then-i-bytes-clause-behind c =
    let l = c.loop-i in
    rw c.refused.ensures (sym l.invariant.behind ∙ elim c.then-i-bytes.branch [
      | then-i-bytes-via-then-i-bytes w ↦
          (let past = w.if-i-bytes.true in behind_short l.number l.i c.args.head.now c.args.bytes.now c.loop-i-test.true (omega (arith, past)))
      | then-i-bytes-via-else-i-bytes+then-head-i w ↦
          (let inside = w.if-i-bytes.false in behind_other l.number l.i c.args.head.now c.args.bytes.now c.loop-i-test.true
          (omega (arith, inside)) w.if-head-i.true)
    ])

pub loop-i-preserved : goal.loop-i-preserved
loop-i-preserved c =
    let l = c.loop-i in
    let inside = c.if-i-bytes.false in
    elim c.if-head-i-eq10.branch [
      | then-head-i-eq10 w ↦ record {
        behind =
            rw w.number-is (sym (behind_line l.number l.i c.args.head.now c.args.bytes.now c.loop-i-test.true
            (omega (arith, inside)) c.if-head-i.false w.if-head-i-eq10.true) ∙ l.invariant.behind);
        within = omega (arith, inside);
        number = rw w.number-is (let n = l.invariant.number in omega (arith, n));
        first = rw w.number-is (omega arith);
      }
      | else-head-i-eq10 w ↦ record {
        behind =
            rw w.number-is (sym (behind_same l.number l.i c.args.head.now c.args.bytes.now c.loop-i-test.true
            (omega (arith, inside)) c.if-head-i.false w.if-head-i-eq10.false) ∙ l.invariant.behind);
        within = omega (arith, inside);
        number = rw w.number-is (let n = l.invariant.number in omega (arith, n));
        first = rw w.number-is l.invariant.first;
      }
    ]

pub returns-clause-behind : goal.returns-clause-behind
returns-clause-behind c =
    let l = c.loop-i in
    let past = c.loop-i-test.false in
    let end : l.i ≡ length c.args.head.now = omega (arith, past, l.auto.i-end) in
    rw (take_rest c.args.bytes.now (length c.args.head.now))
    (sym l.invariant.behind ∙ behind_done l.number l.i c.args.head.now c.args.bytes.now (omega (arith, past))
    ∙ ap (λ (j : ℕ). Ok (l.number, drop j c.args.bytes.now)) end)
