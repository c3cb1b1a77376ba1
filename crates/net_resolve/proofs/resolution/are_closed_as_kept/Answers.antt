use Rattle.net_resolve.proofs.Common.{◌∙◌, ap, arith, get_or, Some, false, get_within}
use Rattle.net_resolve.proofs.PlaceLemmas.{gathered, from_more}
use Rattle.net_resolve.proofs.resolution.are_closed_as_kept.Goals as goal

pub loop-j-preserved : goal.loop-j-preserved
loop-j-preserved c =
    let contacts = c.args.contacts.now in
    let kept = c.args.kept.now in
    let j = c.loop-j.j in
    let k = get_or contacts j 0 in
    let at = get_within contacts j 0 c.loop-j-test.true in
    from_more c.args.closed.now kept contacts j k (get_or kept j false) c.loop-j.invariant at (get_within kept j false (omega (arith, c.loop-j-test.true, c.requires.each)))
    (get_within c.args.closed.now k false (c.requires.contacts j k at) ∙ ap Some (c.is_same_flag.ensures c.if-not-is_same_flag.false))

pub returns : goal.returns
returns c = λ _. gathered c.args.closed.now c.args.kept.now c.args.contacts.now c.loop-j.j c.loop-j-test.false c.requires.each c.loop-j.invariant

pub bounds-closed-contacts : goal.bounds-closed-contacts
bounds-closed-contacts c = c.requires.contacts c.loop-j.j _ (get_within c.args.contacts.now c.loop-j.j 0 c.loop-j-test.true)
