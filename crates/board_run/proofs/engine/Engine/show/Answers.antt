use Rattle.board_run.proofs.Common.{◌+◌, ◌∙◌, [], ◌∷◌, map, ap, sym, refl, subst, List, ◌==◌, ◌||◌, not, if◌then◌else◌, or_parts, not-false, Row, Handed}
use Rattle.board_run.proofs.Common.{Appends, IsBehind, Level, Drive, ReadingView, reread, Engine, wiring_of}
use Rattle.board_run.proofs.ShowLemmas.{row_is, same_still}
use Rattle.board_run.proofs.engine.Engine.show.Goals as goal

pub hand_row-end-requires-clause-still : goal.hand_row-end-requires-clause-still
hand_row-end-requires-clause-still g c = λ none x ex.
    let p = g.P.Part in
    let e = c.args.self.now in
    let r = c.refresh-same in
    let still = same_still p.machine (wiring_of e) _ e.reading (reread e.reading r.new.self.reading) r.result.0 r.ensures.read.same_is (not-false r.result.0 (or_parts _ _ none).1) r.ensures.read.of in
    subst (λ (ls : List Level). g.W.Watcher.seen c.args.out.now ls) (still ∙ ap (λ (v : ReadingView). v.nets.levels) (sym c.reading.view_is) ∙ sym c.levels.ensures.levels) (c.requires.watches.later x ex).1

pub returns : goal.returns
returns g c =
    let p = g.P.Part in
    let o = g.W.Watcher in
    let e = c.args.self.now in
    let r = c.refresh-same in
    let read = r.ensures.read in
    let hand = c.hand_row-end in
    let levels = c.levels.ensures.levels ∙ ap (λ (v : ReadingView). v.nets.levels) c.reading.view_is in
    let drives = c.drives.ensures.drives ∙ ap (λ (v : ReadingView). v.nets.drives) c.reading.view_is ∙ ap (λ (x : Engine g.row.P.Denot). x.reading.nets.drives) r.ensures.rest in
    let row_of : List Level → List Drive → List Row = λ ls ds. if ((e.cycle == 0) || not r.result.0) then record { cycle = e.cycle; levels = ls; drives = ds } ∷ [] else [] in
    let row = ap (λ (ls : List Level). row_of ls c.drives.result.now) levels ∙ ap (λ (ds : List Drive). row_of r.new.self.reading.nets.levels ds) drives
    ∙ row_is p.machine (wiring_of e) (map p.state e.parts) e.cycle e.reading (reread e.reading r.new.self.reading) ((e.cycle == 0) || not r.result.0) r.result.0 refl read.same_is read.of in
    record {
      same = r.result.0;
      rest = r.ensures.rest;
      read = read;
      ok = λ is. subst (λ (rs : List Row). Handed o.whole o.faults o.stands c.args.out.now hand.new.out rs []) row (hand.ensures.ok is);
      later = λ is. subst (λ (ls : List Level). IsBehind o.last o.seen hand.new.out (e.cycle + 1) ls) levels (hand.ensures.behind is);
      failed = λ is. let f = hand.ensures.failed is in (f.0, subst (λ (rs : List Row). Appends (o.stands c.args.out.now) (o.stopped hand.new.out) rs []) row f.1);
      place = hand.ensures.place;
    }
