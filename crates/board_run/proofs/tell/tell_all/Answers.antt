use Rattle.board_run.proofs.Common.{◌≡◌, ◌≤◌, ◌∙◌, ap, sym, arith, length, map, refl, length-map, NetsView, some_map, some_same, flat_map_room}
use Rattle.board_run.proofs.GatherLemmas.{item_at}
use Rattle.board_run.proofs.ReadLemmas.{gathered_more, gathered_end}
use Rattle.board_run.proofs.tell.tell_all.Goals as goal

pub tell_part-requires-clause-pins : goal.tell_part-requires-clause-pins
tell_part-requires-clause-pins g c =
    let p = g.P.Part in
    let i = c.loop-i.i in
    let inv = c.loop-i.invariant in
    let es = some_map p.state c.args.parts.now i _ (item_at c.args.parts.now i c.index-parts-i-in-loop-i-2.result c.loop-i-test.true c.index-parts-i-in-loop-i-2.is) in
    let room = flat_map_room p.machine.drives (map p.state c.args.parts.now) i _ es in
    omega (arith, room, inv.pins.place, c.requires.pins, ap (λ (x : NetsView). length x.wiring.net_of) inv.rest)

pub tell_part-requires-clause-contacts : goal.tell_part-requires-clause-contacts
tell_part-requires-clause-contacts g c =
    let p = g.P.Part in
    let i = c.loop-i.i in
    let inv = c.loop-i.invariant in
    let es = some_map p.state c.args.parts.now i _ (item_at c.args.parts.now i c.index-parts-i-in-loop-i-2.result c.loop-i-test.true c.index-parts-i-in-loop-i-2.is) in
    let room = flat_map_room p.machine.contacts (map p.state c.args.parts.now) i _ es in
    omega (arith, room, inv.ports.place, c.requires.contacts, ap (λ (x : NetsView). length x.wiring.contacts) inv.rest)

pub tell_part-requires-clause-few : goal.tell_part-requires-clause-few
tell_part-requires-clause-few g c =
    let rest = c.loop-i.invariant.rest in
    (omega (arith, c.requires.few.0, ap (λ (x : NetsView). length x.wiring.net_of) rest), omega (arith, c.requires.few.1, ap (λ (x : NetsView). length x.wiring.contacts) rest))

pub tell_part-requires-clause-drives_long : goal.tell_part-requires-clause-drives_long
tell_part-requires-clause-drives_long g c =
    omega (arith, c.loop-i.invariant.pins.long, c.requires.drives_long, ap (λ (x : NetsView). length x.wiring.net_of) c.loop-i.invariant.rest)

pub tell_part-requires-clause-closed_long : goal.tell_part-requires-clause-closed_long
tell_part-requires-clause-closed_long g c =
    omega (arith, c.loop-i.invariant.ports.long, c.requires.closed_long, ap (λ (x : NetsView). length x.wiring.contacts) c.loop-i.invariant.rest)

pub overflow_add-pin : goal.overflow_add-pin
overflow_add-pin g c =
    let i = c.loop-i.i in
    let es = some_map g.P.Part.state c.args.parts.now i _ (item_at c.args.parts.now i c.index-parts-i.result c.loop-i-test.true c.index-parts-i.is) in
    let room = flat_map_room g.P.Part.machine.drives (map g.P.Part.state c.args.parts.now) i _ es in
    omega (arith, room, c.loop-i.invariant.pins.place, c.requires.pins, c.requires.few.0, c.pins-pins.ensures)

pub overflow_add-contact : goal.overflow_add-contact
overflow_add-contact g c =
    let p = g.P.Part in
    let i = c.loop-i.i in
    let es = some_map p.state c.args.parts.now i _ (item_at c.args.parts.now i c.index-parts-i-in-loop-i.result c.loop-i-test.true c.index-parts-i-in-loop-i.is) in
    let room = flat_map_room p.machine.contacts (map p.state c.args.parts.now) i _ es in
    omega (arith, room, c.loop-i.invariant.ports.place, c.requires.contacts, c.requires.few.1, c.contacts-contacts.ensures)

pub loop-i-preserved : goal.loop-i-preserved
loop-i-preserved g c =
    let p = g.P.Part in
    let i = c.loop-i.i in
    let inv = c.loop-i.invariant in
    let ss = map p.state c.args.parts.now in
    let one = item_at c.args.parts.now i c.index-parts-i.result c.loop-i-test.true c.index-parts-i.is in
    let two = item_at c.args.parts.now i c.index-parts-i-in-loop-i.result c.loop-i-test.true c.index-parts-i-in-loop-i.is in
    let it = item_at c.args.parts.now i c.index-parts-i-in-loop-i-2.result c.loop-i-test.true c.index-parts-i-in-loop-i-2.is in
    let es = some_map p.state c.args.parts.now i _ it in
    let new = c.tell_part.new.nets in
    record {
      pins = gathered_more p.machine.drives ss i c.loop-i.pin c.pins-pins.result c.args.nets.now.drives c.loop-i.nets.drives new.drives _ es
          (c.pins-pins.ensures ∙ ap (λ (x : g.row.P.Denot). length (p.machine.drives (p.state x))) (some_same (sym one ∙ it))) inv.pins c.tell_part.ensures.drives;
      ports = gathered_more p.machine.contacts ss i c.loop-i.contact c.contacts-contacts.result c.args.nets.now.closed c.loop-i.nets.closed new.closed _ es
          (c.contacts-contacts.ensures ∙ ap (λ (x : g.row.P.Denot). length (p.machine.contacts (p.state x))) (some_same (sym two ∙ it))) inv.ports c.tell_part.ensures.closed;
      rest = c.tell_part.ensures.rest ∙ ap (λ (x : NetsView). record x { drives = new.drives; closed = new.closed }) inv.rest;
    }

pub returns-clause-drives : goal.returns-clause-drives
returns-clause-drives g c =
    let p = g.P.Part in
    let end : length (map p.state c.args.parts.now) ≤ c.loop-i.i = (let l : length (map p.state c.args.parts.now) ≡ length c.args.parts.now = simp length-map refl in omega (arith, l, c.loop-i-test.false)) in
    gathered_end p.machine.drives (map p.state c.args.parts.now) c.loop-i.i c.loop-i.pin c.args.nets.now.drives c.loop-i.nets.drives end c.loop-i.invariant.pins (c.requires.drives_long ∙ c.requires.pins)

pub returns-clause-closed : goal.returns-clause-closed
returns-clause-closed g c =
    let p = g.P.Part in
    let end : length (map p.state c.args.parts.now) ≤ c.loop-i.i = (let l : length (map p.state c.args.parts.now) ≡ length c.args.parts.now = simp length-map refl in omega (arith, l, c.loop-i-test.false)) in
    gathered_end p.machine.contacts (map p.state c.args.parts.now) c.loop-i.i c.loop-i.contact c.args.nets.now.closed c.loop-i.nets.closed end c.loop-i.invariant.ports (c.requires.closed_long ∙ c.requires.contacts)
