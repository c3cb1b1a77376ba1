use Rattle.std.proofs.Common.{◌+◌, ◌∙◌, sym, drop, None, false, true, List, ℕ}
use Rattle.board_build.specs.Parts.{is_uno, numbers_from}
use Rattle.board_build.proofs.CountLemmas.{numbers_yes, numbers_no, numbers_end, judged_first, judged_same, judged_as}
use Rattle.board_build.proofs.kinds.one_uno.Goals as goal
use Rattle.board_build.proofs.kinds.one_uno.Goals.{then-is_uno+else-found, else-is_uno}

pub returns-then-found : goal.returns-then-found
returns-then-found c =
    let l = c.loop-i in
    rw c.refused.ensures (judged_as l.found true _ _ _ c.if-found.true (numbers_yes is_uno c.args.kinds.now l.i None c.loop-i-test.true (sym c.is_uno.ensures ∙ c.if-is_uno.true)) l.invariant)

pub loop-i-preserved : goal.loop-i-preserved
loop-i-preserved c =
    let l = c.loop-i in
    let kinds = c.args.kinds.now in
    let before : List ℕ = numbers_from is_uno (l.i + 1) (drop l.i kinds) in
    let after : List ℕ = numbers_from is_uno (l.i + 1 + 1) (drop (l.i + 1) kinds) in
    elim c.if-is_uno.branch [
      | then-is_uno+else-found w ↦ judged_first l.found c.if-is_uno.found (l.i + 1) before after _ w.if-found.false w.found-is (numbers_yes is_uno kinds l.i None c.loop-i-test.true (sym c.is_uno.ensures ∙ w.if-is_uno.true)) l.invariant
      | else-is_uno w ↦ judged_same l.found c.if-is_uno.found before after _ w.found-is (numbers_no is_uno kinds l.i None c.loop-i-test.true (sym c.is_uno.ensures ∙ w.if-is_uno.false)) l.invariant
    ]

pub returns-then-found-2 : goal.returns-then-found-2
returns-then-found-2 c =
    let l = c.loop-i in
    judged_as l.found true _ _ _ c.if-found-2.true (numbers_end is_uno c.args.kinds.now l.i (l.i + 1) c.loop-i-test.false) l.invariant

pub returns-else-found-2 : goal.returns-else-found-2
returns-else-found-2 c =
    let l = c.loop-i in
    rw c.refused-else-found-2.ensures (judged_as l.found false _ _ _ c.if-found-2.false (numbers_end is_uno c.args.kinds.now l.i (l.i + 1) c.loop-i-test.false) l.invariant)
