use Rattle.board_run.proofs.Common.{◌≡◌, ◌<◌, ◌∙◌, arith, refl, subst, sym, length, map, take, true, false, some_map, some_same, flat_map_room, contacts_of}
use Rattle.board_run.proofs.Common.{HasAt}
use Rattle.board_run.proofs.GatherLemmas.{item_at}
use Rattle.board_run.proofs.ReadLemmas.{put_there}
use Rattle.board_run.proofs.tell.tell_contacts.Goals as goal

pub set_ports-requires-clause-room : goal.set_ports-requires-clause-room
set_ports-requires-clause-room g c =
    let p = g.P.Part in
    let es = some_map p.state c.args.parts.now c.args.i _ (item_at c.args.parts.now c.args.i c.index-parts-i-then-contacts-ne0.result c.requires.within c.index-parts-i-then-contacts-ne0.is) in
    omega (arith, flat_map_room p.machine.contacts (map p.state c.args.parts.now) c.args.i _ es, c.first_contact-contact.ensures, c.requires.contacts)

pub returns-then-contacts-ne0 : goal.returns-then-contacts-ne0
returns-then-contacts-ne0 g c =
    let e = c.set_ports.ensures in
    let here = item_at c.args.parts.now c.args.i c.index-parts-i-then-contacts-ne0.result c.requires.within c.index-parts-i-then-contacts-ne0.is in
    let at = c.first_contact-contact.ensures in
    record {
      put = λ q eq. rw (← some_same (sym here ∙ eq), ← at) e.put;
      same = λ q eq none. rw (← some_same (sym here ∙ eq), ← at) (e.same none);
      other = λ q eq one has. e.other one (rw (some_same (sym eq ∙ here), ← at) at has);
      rest = e.rest;
    }

pub returns-else-contacts-ne0 : goal.returns-else-contacts-ne0
returns-else-contacts-ne0 g c =
    let p = g.P.Part in
    let old = c.args.nets.now.closed in
    let x = c.index-parts-i.result in
    let here = item_at c.args.parts.now c.args.i x c.requires.within c.index-parts-i.is in
    let none : length (p.machine.contacts (p.state x)) ≡ 0 = sym c.contacts.ensures ∙ c.if-contacts-ne0.false in
    let has = λ (y : g.row.P.Denot) (same : x ≡ y).
    subst (λ (z : g.row.P.Denot). HasAt (length (contacts_of p.machine (take c.args.i (map p.state c.args.parts.now)))) (p.machine.contacts (p.state z)) old) same (λ j (h : j < length (p.machine.contacts (p.state x))). absurd (omega (arith, h, none))) in
    record {
      put = λ q eq. put_there _ (p.machine.contacts (p.state q)) old (has q (some_same (sym here ∙ eq)));
      same = λ q eq is. has q (some_same (sym here ∙ eq));
      other = λ q eq (one : false ≡ true). absurd cc;
      rest = refl;
    }
