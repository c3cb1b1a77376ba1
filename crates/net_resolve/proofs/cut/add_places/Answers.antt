use Rattle.net_resolve.proofs.Common.{◌≡◌, arith, get_or, subst, List, ℕ, Some, slice_get, get_within}
use Rattle.net_resolve.proofs.CutLemmas.{adding_more, adding_done}
use Rattle.net_resolve.proofs.cut.add_places.Goals as goal

pub loop-k-preserved : goal.loop-k-preserved
loop-k-preserved c = λ q l e.
    let k = c.loop-k.k in
    let within = c.requires.keys k (get_or c.args.keys.now k 0) (get_within c.args.keys.now k 0 c.loop-k-test.true) in
    adding_more c.args.keys.now k c.loop-k.lists c.loop-k-test.true (omega (arith, within, c.loop-k.auto.lists)) c.loop-k.invariant q l
    (subst (λ (ls : List (List ℕ)). slice_get ls q ≡ Some l) c.in_ok-add_place.ensures e)

pub returns : goal.returns
returns c = λ q l e. adding_done c.args.keys.now c.loop-k.k c.loop-k.lists c.loop-k-test.false c.loop-k.invariant q l e
