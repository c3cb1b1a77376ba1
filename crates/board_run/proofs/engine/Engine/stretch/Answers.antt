use Rattle.board_run.proofs.Common.{◌≡◌, ◌-◌, ◌∙◌, ap, arith, sym, refl, subst, ℕ, ◌≤◌, List, [], ◌∷◌, Option, get_or, length-set, slice_set, Row, Handed}
use Rattle.board_run.proofs.Common.{StopsWithin, sent, glide_drives, glide_contacts, options, retold, glided, kept_of, rows_to, Showed, Engine, wiring_of, Wiring}
use Rattle.board_run.proofs.AloneLemmas.{went_replaces, Goes, alone_goes}
use Rattle.board_run.proofs.TurnLemmas.{turned_others}
use Rattle.board_run.proofs.HandLemmas.{one_byte, stops_whole}
use Rattle.board_run.proofs.EngineLemmas.{fails_here}
use Rattle.board_run.proofs.engine.Engine.stretch.Given.{Over}
use Rattle.board_run.proofs.engine.Engine.stretch.Goals.{After-tell-self}
use Rattle.board_run.proofs.engine.Engine.stretch.Goals as goal

pub go_alone-went-requires-clause-may : goal.go_alone-went-requires-clause-may
go_alone-went-requires-clause-may g c = c.requires.may.lags.may c.args.who c.item_mut.result.now c.due-due.result c.item_mut.ensures.value c.due-due.ensures

pub go_alone-went-requires-clause-valid : goal.go_alone-went-requires-clause-valid
go_alone-went-requires-clause-valid g c = c.requires.may.lags.valid c.args.who c.item_mut.result.now c.item_mut.ensures.value

pub tell-self-requires : goal.tell-self-requires
tell-self-requires g c =
    let p = g.P.Part in
    let m = p.machine in
    let w = c.go_alone-went in
    let e = c.args.self.now in
    let l = c.requires.may.lags in
    let x = c.item_mut.result.now in
    let is = c.item_mut.ensures.value in
    let valid = l.valid c.args.who x is in
    let quiet = (l.may c.args.who x c.due-due.result is c.due-due.ensures).quiet in
    record {
      within = omega (arith, length-set e.parts c.args.who w.new.part, c.requires.alone.alone.here, l.dues_long);
      first = ap (λ (l : List ℕ). get_or l c.args.who 0) (c.as_slice.ensures ∙ ap (λ (w : Wiring). w.first_pin) c.wiring.ensures);
      may = record {
        before = e.parts;
        p = x;
        q = w.new.part;
        replaced = went_replaces m g.met.P.Part.laws (wiring_of e) p.state p.now p.wakes e.cycle (w.result.to - e.cycle) c.args.who e.parts e.reading.nets x w.new.part is l.fits l.told w.ensures.state_is;
        suits = l.suits;
        still = λ none. (
          w.ensures.drives none ∙ glide_drives m g.met.P.Part.laws (p.state x) (p.now x) (e.cycle - p.now x) valid quiet,
          w.ensures.contacts none ∙ glide_contacts m g.met.P.Part.laws (p.state x) (p.now x) (e.cycle - p.now x) valid quiet,
        );
        others = λ _. turned_others m g.met.P.Part.laws p.state p.now p.wakes e.cycle x w.new.part (p.moves w.new.part) valid quiet w.ensures.others;
      };
    }

-- what the stretch did
goes : (g : Over) (c : After-tell-self g) → Goes g.P.Part.machine g.met.P.Part.laws (wiring_of c.args.self.now) g.P.Part.state g.P.Part.now g.P.Part.wakes c.args.self.now.inputs c.args.self.now.cycle c.go_alone-went.result.to
    c.args.self.now.parts (slice_set c.args.self.now.parts c.args.who c.go_alone-went.new.part) (kept_of c.args.self.now)
    (record { input = c.args.self.now.input; changed = c.tell-self.result; dues = slice_set c.args.self.now.dues c.args.who c.go_alone-went.new.due; reading = retold c.args.self.now.reading c.tell-self.new.self.reading.nets.drives c.tell-self.new.self.reading.nets.closed; answers = c.args.self.now.answers })
    c.args.steps.now c.go_alone-went.new.steps (sent g.P.Part.machine (glided g.P.Part.machine g.P.Part.state g.P.Part.now g.P.Part.wakes c.args.self.now.cycle c.item_mut.result.now) c.args.self.now.cycle)
goes g c =
    let p = g.P.Part in
    let w = c.go_alone-went in
    let e = c.args.self.now in
    let x = c.item_mut.result.now in
    let told = c.tell-self.ensures in
    let may = c.requires.may in
    let alone = c.requires.alone in
    let shifted = told.shifted e.parts x w.new.part
    (went_replaces p.machine g.met.P.Part.laws (wiring_of e) p.state p.now p.wakes e.cycle (w.result.to - e.cycle) c.args.who e.parts e.reading.nets x w.new.part c.item_mut.ensures.value may.lags.fits may.lags.told w.ensures.state_is) in
    alone_goes p.machine g.met.P.Part.laws (wiring_of e) p.state p.now p.wakes e.inputs p.moves e.cycle c.args.limit e.parts (kept_of e) c.tell-self.result c.args.steps.now w.new.steps c.args.who x w.new.part w.new.due
    w.result c.tell-self.new.self.reading.nets told.told
    may.lags alone.fresh alone.after may.behind c.requires.end alone.alone c.item_mut.ensures.value w.ensures shifted

pub returns : goal.returns
returns g c =
    let p = g.P.Part in
    let o = g.W.Watcher in
    let e = c.args.self.now in
    let w = c.go_alone-went in
    let hand = c.hand_byte in
    let went = goes g (goal.at.returns g c).After-tell-self in
    let same = c.tell-self.ensures.same ∙ ap (λ (ds : List (Option ℕ)). let y : Engine g.row.P.Denot = record e { parts = slice_set e.parts c.args.who w.new.part; dues = ds; reading = retold e.reading c.tell-self.new.self.reading.nets.drives c.tell-self.new.self.reading.nets.closed } in y) c.set.ensures in
    let row_none = went.row_none (w.result.to - e.cycle) (omega arith) in
    let bytes = one_byte w.result.byte ∙ sym w.ensures.sent_is ∙ sym (went.bytes_are (w.result.to - e.cycle) (omega arith)) in
    let last : w.result.to - 1 - e.cycle ≡ w.result.to - e.cycle - 1 = omega arith in
    let before : w.result.to - 1 - e.cycle ≤ w.result.to - e.cycle = omega arith in
    record {
      further = w.ensures.further;
      within = w.ensures.within;
      silent =
          went.bytes_are (w.result.to - 1 - e.cycle) before
          ∙ ap (λ (n : ℕ). sent p.machine (glided p.machine p.state p.now p.wakes e.cycle c.item_mut.result.now) e.cycle n) last
          ∙ w.ensures.silent;
      steady = went.steady;
      showed = subst (λ (x : Engine g.row.P.Denot). Showed p o hand.result e (record x { changed = c.tell-self.result; cycle = w.result.to }) c.args.steps.now w.new.steps c.args.out.now hand.new.out) (sym same) (record {
        on = record {
          may = record { lags = went.lags; behind = went.behind; order = c.requires.may.order };
          same_wiring = refl;
          same_inputs = refl;
          leg = went.leg;
          tells = λ _. went.tells;
        };
        ok = λ is. (
          subst (λ (bs : List ℕ). Handed o.whole o.faults o.stands c.args.out.now hand.new.out (rows_to p e w.result.to) bs) bytes (subst (λ (rs : List Row). Handed o.whole o.faults o.stands c.args.out.now hand.new.out rs (options (w.result.byte ∷ []))) (sym row_none) (hand.ensures.ok is)),
          λ z ez.
              let was = c.requires.watches.later z (sym (hand.ensures.last is) ∙ ez) in
              let before = was.0 in
              let far = w.ensures.further in
              (omega (arith, far, before), hand.ensures.seen is e.reading.nets.levels was.1),
        );
        failed = λ is.
            let f = hand.ensures.failed is in (
              f.0,
              fails_here p g.met.P.Part.laws o e (w.result.to - 1) w.result.to c.args.out.now hand.new.out c.requires.watches.whole (omega (arith, w.ensures.further)) (omega (arith, w.ensures.further))
                  (went.row_none (w.result.to - 1 - e.cycle) before)
                  (went.bytes_are (w.result.to - 1 - e.cycle) before ∙ ap (λ (n : ℕ). sent p.machine (glided p.machine p.state p.now p.wakes e.cycle c.item_mut.result.now) e.cycle n) last ∙ w.ensures.silent)
                  (subst (λ (bs : List ℕ). StopsWithin (o.stands c.args.out.now) (o.stopped hand.new.out) (rows_to p e w.result.to) bs) bytes (subst (λ (rs : List Row). StopsWithin (o.stands c.args.out.now) (o.stopped hand.new.out) rs (options (w.result.byte ∷ []))) (sym row_none) (stops_whole (o.stands c.args.out.now) (o.stopped hand.new.out) [] _ f.1))),
            );
        place = hand.ensures.place;
      });
    }
