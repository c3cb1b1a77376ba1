use Rattle.board_run.proofs.Common.{◌<◌, arith, length, map, some_map, flat_map_room}
use Rattle.board_run.proofs.GatherLemmas.{item_at}
use Rattle.board_run.proofs.ReadLemmas.{place_more}
use Rattle.board_run.proofs.tell.first_contact.Goals as goal

pub overflow_add-at : goal.overflow_add-at
overflow_add-at g c =
    let k = c.loop-k.k in
    let within : k < length c.args.parts.now = omega (arith, c.requires.within, c.loop-k-test.true) in
    let es = some_map g.P.Part.state c.args.parts.now k _ (item_at c.args.parts.now k c.index-parts-k.result within c.index-parts-k.is) in
    omega (arith, flat_map_room g.P.Part.machine.contacts (map g.P.Part.state c.args.parts.now) k _ es, c.loop-k.invariant, c.requires.few, c.contacts.ensures)

pub loop-k-preserved : goal.loop-k-preserved
loop-k-preserved g c =
    let k = c.loop-k.k in
    let within : k < length c.args.parts.now = omega (arith, c.requires.within, c.loop-k-test.true) in
    let es = some_map g.P.Part.state c.args.parts.now k _ (item_at c.args.parts.now k c.index-parts-k.result within c.index-parts-k.is) in
    omega (arith, place_more g.P.Part.machine.contacts (map g.P.Part.state c.args.parts.now) k _ es, c.loop-k.invariant, c.contacts.ensures)
