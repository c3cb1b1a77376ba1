use Rattle.std.proofs.Common.{◌∙◌, ap, not}
use Rattle.board_build.specs.Ids.{ids_in}
use Rattle.board_build.proofs.IdLemmas.{among, added, ids_repeated, ids_more, ids_done}
use Rattle.board_build.proofs.ids.ids_of_parts.Goals as goal

pub returns-then-not-branch : goal.returns-then-not-branch
returns-then-not-branch c =
    let l = c.loop-i in
    let part = c.index-parts-i.result in
    let known = among c.bytes.result.now part.id l.ids.keys c.in_ok-insert.field-0 c.bytes.ensures c.in_ok-insert.ensures.added in
    rw c.refused.ensures (ids_repeated (ids_in l.ids) c.args.parts.now l.i part _ c.loop-i-test.true c.index-parts-i.is (known ∙ ap not c.if-not-branch.true) l.invariant)

pub loop-i-preserved : goal.loop-i-preserved
loop-i-preserved c =
    let l = c.loop-i in
    let part = c.index-parts-i.result in
    let known = among c.bytes.result.now part.id l.ids.keys c.in_ok-insert.field-0 c.bytes.ensures c.in_ok-insert.ensures.added ∙ ap not c.if-not-branch.false in
    rw (added c.bytes.result part.id l.ids.keys c.insert.new.self.keys c.bytes.ensures c.in_ok-insert.ensures.keys known)
    (ids_more (ids_in l.ids) c.args.parts.now l.i part _ c.loop-i-test.true c.index-parts-i.is known l.invariant)

pub returns : goal.returns
returns c = ids_done (ids_in c.loop-i.ids) c.args.parts.now c.loop-i.i _ c.loop-i-test.false c.loop-i.invariant
