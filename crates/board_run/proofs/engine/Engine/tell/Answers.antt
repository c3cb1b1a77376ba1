use Rattle.board_run.proofs.Common.{arith, ◌≡◌, ◌<◌, ◌∙◌, List, length, map, take, refl, sym, ap, subst, true, false, inl, inr, slice_get, false_from_ne_true}
use Rattle.board_run.proofs.Common.{or_cases, or_parts, Drive, NetsView, contacts_of, some_same, some_map, flat_map_room, ReadingView, HasAt, retold, Engine, Wiring, wiring_of}
use Rattle.board_run.proofs.GatherLemmas.{item_at}
use Rattle.board_run.proofs.ReadLemmas.{put_there}
use Rattle.board_run.proofs.TurnLemmas.{placed}
use Rattle.board_run.proofs.EngineLemmas.{told_place}
use Rattle.board_run.proofs.engine.Engine.tell.Goals as goal

pub set_pins-pins-requires : goal.set_pins-pins-requires
set_pins-pins-requires g c =
    let p = g.P.Part in
    let m = p.machine in
    let e = c.args.self.now in
    let i = c.args.i in
    let may = c.requires.may in
    let parts = c.as_slice-parts.result.now in
    let within : i < length parts = omega (arith, c.requires.within, ap length c.as_slice-parts.ensures) in
    let x = c.index-parts-i-then-touched.result in
    let put = item_at parts i x within c.index-parts-i-then-touched.is in
    let asked = item_at parts i c.index-parts-i.result within c.index-parts-i.is in
    let there = ap (λ (l : List g.row.P.Denot). slice_get l i) (sym c.as_slice-parts.ensures) ∙ put in
    let nets_are = ap (λ (v : ReadingView). v.nets) c.reading.view_is in
    let at = told_place p g.met.P.Part.laws e i c.args.first c.reading.inside.nets may.before may.p may.q x may.replaced c.requires.first nets_are there in
    let net_of = ap (λ (n : NetsView). n.wiring.net_of) nets_are in
    record {
      room = (let room = flat_map_room m.drives (map p.state e.parts) i _ (some_map p.state e.parts i x there) in omega (arith, room, at.1.place, at.1.fits.pins, ap length net_of));
      few = omega (arith, c.as_slice-net_of.type_inv.0, c.as_slice-net_of.type_inv.1, ap length (c.as_slice-net_of.ensures ∙ ap (λ (w : Wiring). w.net_of) c.wiring.ensures), ap length net_of);
      long = ap (λ (n : NetsView). length n.drives) nets_are ∙ may.suits.drives_long ∙ sym (ap length net_of);
      others = λ j h few out.
          at.1.others (p.moves x) (subst (λ (z : g.row.P.Denot). (j : _) → p.moves z j ≡ false → slice_get (m.drives (p.state z)) j ≡ slice_get (m.drives (p.state may.p)) j) at.0 (may.others c.if-touched.true)) j h
          (false_from_ne_true (p.moves x j) (λ is. out (c.moved-span.ensures j few (subst (λ (z : g.row.P.Denot). p.moves z j ≡ true) (some_same (sym put ∙ asked)) is))));
    }

pub tell_contacts-contacts-requires : goal.tell_contacts-contacts-requires
tell_contacts-contacts-requires g c =
    let p = g.P.Part in
    let e = c.args.self.now in
    let may = c.requires.may in
    let at = placed p.machine (wiring_of e) p.state c.args.i c.args.first may.before e.parts e.reading.nets may.p may.q may.replaced c.requires.first in
    let nets_are = ap (λ (v : ReadingView). v.nets) c.reading.view_is in
    let contacts = ap (λ (n : NetsView). n.wiring.contacts) c.set_pins-pins.ensures.rest ∙ ap (λ (n : NetsView). n.wiring.contacts) nets_are in
    record {
      within = omega (arith, c.requires.within, ap length c.as_slice-parts.ensures);
      contacts = ap length contacts ∙ at.fits.contacts ∙ ap (λ (l : List g.row.P.Denot). length (contacts_of p.machine (map p.state l))) (sym c.as_slice-parts.ensures);
      few = omega (arith, c.as_slice-contacts.type_inv.0, c.as_slice-contacts.type_inv.1, ap length (c.as_slice-contacts.ensures ∙ ap (λ (w : Wiring). w.contacts) c.wiring-then-touched.ensures), ap length contacts);
      long = ap (λ (n : NetsView). length n.closed) c.set_pins-pins.ensures.rest ∙ ap (λ (n : NetsView). length n.closed) nets_are ∙ may.suits.closed_long ∙ sym (ap length contacts);
    }

pub returns-then-touched : goal.returns-then-touched
returns-then-touched g c =
    let p = g.P.Part in
    let e = c.args.self.now in
    let i = c.args.i in
    let first = c.args.first in
    let may = c.requires.may in
    let parts_are = c.as_slice-parts.ensures in
    let x = c.index-parts-i-then-touched.result in
    let here = item_at c.as_slice-parts.result.now i x (omega (arith, c.requires.within, ap length parts_are)) c.index-parts-i-then-touched.is in
    let there = ap (λ (l : List g.row.P.Denot). slice_get l i) (sym parts_are) ∙ here in
    let inside = c.reading.inside in
    let nets_are = ap (λ (v : ReadingView). v.nets) c.reading.view_is in
    let pins = c.set_pins-pins in
    let ports = c.tell_contacts-contacts in
    let old = inside.nets in
    let mid = pins.new.nets in
    let new = ports.new.nets in
    let drives_are : new.drives ≡ mid.drives = ap (λ (n : NetsView). n.drives) ports.ensures.rest in
    let closed_were : mid.closed ≡ old.closed = ap (λ (n : NetsView). n.closed) pins.ensures.rest in
    let rest : new ≡ record old { drives = new.drives; closed = new.closed } =
    ports.ensures.rest ∙ ap (λ (n : NetsView). let z : NetsView = record n { closed = new.closed } in z) pins.ensures.rest
    ∙ ap (λ (ds : List Drive). let z : NetsView = record old { drives = ds; closed = new.closed } in z) (sym drives_are) in
    let at = told_place p g.met.P.Part.laws e i first old may.before may.p may.q x may.replaced c.requires.first nets_are there in
    record {
      same = ap (λ (n : NetsView). let x : Engine g.row.P.Denot = record e { reading = record { nets = n; on = inside.on.items } } in x) rest
          ∙ ap (λ (v : ReadingView). let x : Engine g.row.P.Denot = record e { reading = retold v new.drives new.closed } in x) c.reading.view_is;
      fits = at.1.fits;
      told = at.1.told new (rw drives_are pins.ensures.put) (rw (parts_are, closed_were) at (ports.ensures.put x here));
      shifted = λ before y z was.
          let of = told_place p g.met.P.Part.laws e i first old before y z x was c.requires.first nets_are there in
          rw of.0 (record {
            same = λ none. let both = or_parts pins.result ports.result none in
                of.1.keeps (pins.ensures.same both.0) (rw (parts_are, closed_were) at (ports.ensures.same x here both.1));
            other = λ one ds cs.
                let has = of.1.has ds cs in
                elim (or_cases pins.result ports.result one) [
                  | inl some ↦ pins.ensures.other some has.0
                  | inr some ↦ ports.ensures.other x here some (rw (parts_are, closed_were) has.1)
                ];
          });
    }

pub returns-else-touched : goal.returns-else-touched
returns-else-touched g c =
    let p = g.P.Part in
    let m = p.machine in
    let e = c.args.self.now in
    let i = c.args.i in
    let may = c.requires.may in
    let at = placed m (wiring_of e) p.state i c.args.first may.before e.parts e.reading.nets may.p may.q may.replaced c.requires.first in
    let still = may.still c.if-touched.false in
    let has = at.has still.0 still.1 in
    record {
      same = refl;
      fits = at.fits;
      told = at.told e.reading.nets (put_there c.args.first (m.drives (p.state may.q)) e.reading.nets.drives has.0) (put_there _ (m.contacts (p.state may.q)) e.reading.nets.closed has.1);
      shifted = λ before y z was.
          let of = placed m (wiring_of e) p.state i c.args.first before e.parts e.reading.nets y z was c.requires.first in
          let same = some_same (sym at.there ∙ of.there) in
          record {
            same = λ _. of.keeps (subst (λ (u : g.row.P.Denot). HasAt c.args.first (m.drives (p.state u)) e.reading.nets.drives) same has.0)
                (subst (λ (u : g.row.P.Denot). HasAt (length (contacts_of m (take i (map p.state e.parts)))) (m.contacts (p.state u)) e.reading.nets.closed) same has.1);
            other = λ (one : false ≡ true). absurd cc;
          };
    }
