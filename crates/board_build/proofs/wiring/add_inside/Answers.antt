use Rattle.std.proofs.Common.{◌∙◌, ◌<◌, ◌≤◌, length, arith}
use Rattle.board_build.specs.Inside.{inside_of}
use Rattle.board_build.proofs.PinLemmas.{pairs_more, pairs_done}
use Rattle.board_build.proofs.wiring.add_inside.Goals as goal

pub loop-i-preserved : goal.loop-i-preserved
loop-i-preserved c =
    let l = c.loop-i in
    let inside : l.i < length c.args.firsts.now = omega (arith, c.requires.same, c.loop-i-test.true) in
    pairs_more (inside_of c.args.inside) c.args.firsts.now c.args.kinds.now l.i l.list c.as_slice.result.now c.add_pairs.new.list _
    inside c.loop-i-test.true (c.as_slice.ensures.value ∙ c.pairs_of.ensures) c.in_ok-add_pairs.ensures l.invariant

pub returns : goal.returns
returns c =
    let l = c.loop-i in
    let past : length c.args.firsts.now ≤ l.i = omega (arith, c.requires.same, c.loop-i-test.false) in
    pairs_done (inside_of c.args.inside) c.args.firsts.now c.args.kinds.now l.i l.list _ past l.invariant
