use Rattle.std.proofs.Common.{arith, ◌≡◌, ◌-◌, ◌≤◌, ◌∙◌, ℕ, List, length, map, take, drop, refl, sym, ap, subst, Option, Some, None, rules, length-take-le}
use Rattle.board_run.proofs.Common.{slice_set, set_same, Input, input_at, some_map, ReadingView, levels_on, MayTurn, Engine, wiring_of}
use Rattle.board_run.proofs.StepLemmas.{fits_pins}
use Rattle.board_run.proofs.GatherLemmas.{own_levels, length_rest}
use Rattle.board_run.proofs.TurnLemmas.{some_there}
use Rattle.board_run.proofs.engine.Engine.wake_at.Given.{Over}
use Rattle.board_run.proofs.engine.Engine.wake_at.Goals.{After-item_mut-part}
use Rattle.board_run.proofs.engine.Engine.wake_at.Goals as goal

pub slice_bounds-levels-count : goal.slice_bounds-levels-count
slice_bounds-levels-count g c =
    let p = g.P.Part in
    let e = c.args.self.now in
    let may = c.requires.may in
    let x = some_there e.parts c.args.i may.here in
    let room = fits_pins p.machine (wiring_of e) (map p.state e.parts) may.fits c.args.i (p.state x.0) (some_map p.state e.parts c.args.i x.0 x.1) in
    omega (arith, room, c.requires.first, c.pin_levels.ensures.pins, ap (λ (v : ReadingView). length v.nets.wiring.net_of) c.reading.view_is)

pub slice_bounds-levels-start : goal.slice_bounds-levels-start
slice_bounds-levels-start g c = slice_bounds-levels-count g c

-- the levels of its pins are the first of those from its first pin on
own : (g : Over) (c : After-item_mut-part g) → take (length (g.P.Part.machine.drives (g.P.Part.state c.item_mut-part.result.now))) (take (length c.pin_levels.result.now - c.args.first) (drop c.args.first c.pin_levels.result.now))
    ≡ levels_on g.P.Part.machine (wiring_of c.args.self.now) c.args.self.now.reading.nets.levels c.args.i (g.P.Part.state c.item_mut-part.result.now)
own g c =
    let p = g.P.Part in
    let e = c.args.self.now in
    let levels = ap (λ (v : ReadingView). v.nets.levels) c.reading.view_is in
    let net_of = ap (λ (v : ReadingView). v.nets.wiring.net_of) c.reading.view_is in
    own_levels p.machine (wiring_of e) e.reading.nets.levels c.args.i c.args.first (p.state c.item_mut-part.result.now) c.reading.inside.nets c.pin_levels.result.now c.pin_levels.ensures.levels levels net_of c.requires.first

-- and there are as many
room : (g : Over) (c : After-item_mut-part g) → length (g.P.Part.machine.drives (g.P.Part.state c.item_mut-part.result.now)) ≤ length (take (length c.pin_levels.result.now - c.args.first) (drop c.args.first c.pin_levels.result.now))
room g c =
    let p = g.P.Part in
    let e = c.args.self.now in
    let may = c.requires.may in
    let x = c.item_mut-part.result.now in
    let pins = fits_pins p.machine (wiring_of e) (map p.state e.parts) may.fits c.args.i (p.state x) (some_map p.state e.parts c.args.i x c.item_mut-part.ensures.value) in
    let rest = length_rest c.pin_levels.result.now c.args.first in
    omega (arith, pins, rest, c.requires.first, c.pin_levels.ensures.pins, ap (λ (v : ReadingView). length v.nets.wiring.net_of) c.reading.view_is)

pub hear_levels-requires : goal.hear_levels-requires
hear_levels-requires g c =
    let may = c.requires.may in
    let after = (goal.at.hear_levels-requires g c).After-item_mut-part in
    record {
      end = may.end;
      may = may.may c.item_mut-part.result.now c.due-due.result c.item_mut-part.ensures.value c.due-due.ensures;
      pins = room g after;
      differs = λ hears later same. may.differs c.item_mut-part.result.now c.item_mut-part.ensures.value (may.hears hears).0 later (same ∙ own g after);
    }

pub returns-in-Some : goal.returns-in-Some
returns-in-Some g c =
    let p = g.P.Part in
    let asked = c.hear_levels.ensures.asked c.in-Some.touched c.in-Some.is in
    let hears = c.requires.may.hears asked.0 in
    let due = c.due-due.ensures ∙ ap Some asked.1 in
    let own_is = own g (goal.at.returns-in-Some g c).After-item_mut-part in
    record {
      p = c.item_mut-part.result.now;
      q = c.hear_levels.new.part;
      d = None;
      e = None;
      byte = None;
      was = c.item_mut-part.ensures.value;
      due_was = due;
      same = rw (set_same c.args.self.now.dues c.args.i None due, set_same c.args.self.now.answers c.args.i None hears.2) refl;
      sent_is = refl;
      turn = rw (hears.1, hears.0, ← own_is) (c.hear_levels.ensures.turned c.in-Some.touched c.in-Some.is);
    }

pub slice_bounds-take_turn_on-end : goal.slice_bounds-take_turn_on-end
slice_bounds-take_turn_on-end g c =
    let p = g.P.Part in
    let stays = (c.in_default.ensures.stays refl).0 in
    let count : c.pins-pins.result ≡ length (p.machine.drives (p.state c.item_mut-part.result.now)) = c.pins-pins.ensures ∙ ap (λ (z : g.row.P.Denot). length (p.machine.drives (p.state z))) stays in
    let levels = take (length c.pin_levels.result.now - c.args.first) (drop c.args.first c.pin_levels.result.now) in
    sym (length-take-le c.pins-pins.result levels (omega (arith, count, room g (goal.at.slice_bounds-take_turn_on-end g c).After-item_mut-part)))

pub take_turn_on-byte-requires : goal.take_turn_on-byte-requires
take_turn_on-byte-requires g c =
    let p = g.P.Part in
    let m = p.machine in
    let may = c.requires.may in
    let x = c.item_mut-part.result.now in
    let is = c.item_mut-part.ensures.value in
    let stays = (c.in_default.ensures.stays refl).0 in
    let after = (goal.at.take_turn_on-byte-requires g c).After-item_mut-part in
    let levels = take (length c.pin_levels.result.now - c.args.first) (drop c.args.first c.pin_levels.result.now) in
    let count : c.pins-pins.result ≡ length (m.drives (p.state x)) = c.pins-pins.ensures ∙ ap (λ (z : g.row.P.Denot). length (m.drives (p.state z))) stays in
    record {
      end = may.end;
      may = subst (MayTurn m p.state p.now p.wakes c.args.self.now.cycle c.due-due.result) (sym stays) (may.may x c.due-due.result is c.due-due.ensures);
      pins = length-take-le c.pins-pins.result levels (omega (arith, count, room g after)) ∙ c.pins-pins.ensures;
      differs = λ differs later same. may.differs x is (sym c.has-differs.ensures ∙ differs) later
          (ap (λ (z : g.row.P.Denot). m.held (p.state z)) (sym stays) ∙ same ∙ ap (λ (n : ℕ). take n levels) count ∙ own g after);
    }

pub returns : goal.returns
returns g c =
    let p = g.P.Part in
    let m = p.machine in
    let e = c.args.self.now in
    let i = c.args.i in
    let x = c.item_mut-part.result.now in
    let turn = c.take_turn_on-byte in
    let z = turn.new.part in
    let byte = turn.result.0 in
    let stays = c.in_default.ensures.stays refl in
    let own_is = own g (goal.at.returns g c).After-item_mut-part in
    let levels = take (length c.pin_levels.result.now - c.args.first) (drop c.args.first c.pin_levels.result.now) in
    let count : c.pins-pins.result ≡ length (m.drives (p.state x)) = c.pins-pins.ensures ∙ ap (λ (u : g.row.P.Denot). length (m.drives (p.state u))) stays.0 in
    let input = c.find_input-input.ensures ∙ ap (λ (is : List Input). input_at (take (c.args.end - e.input) (drop e.input is)) e.cycle i) c.as_slice.ensures in
    record {
      p = x;
      q = z;
      d = c.due-due.result;
      e = turn.new.due;
      byte = byte;
      was = c.item_mut-part.ensures.value;
      due_was = c.due-due.ensures;
      same = ap (λ (ds : List (Option ℕ)). let a : Engine g.row.P.Denot = record e { parts = slice_set e.parts i z; dues = ds; answers = slice_set e.answers i byte } in a) c.set.ensures;
      sent_is = search rules;
      turn = rw (count, own_is, input, c.has-differs.ensures, stays.0, stays.1) at turn.ensures;
    }
