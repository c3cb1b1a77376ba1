use Rattle.board_run.proofs.Common.{◌≡◌, ◌∙◌, List, Bool, map, length, ap, sym, subst, refl, true, false, arith, eq-eqb, ◌&&◌, eqb, Drive, Level, levels_of}
use Rattle.board_run.proofs.Common.{same_list, same_level, same_drive, chip_drives_of, NetsView, flagged, any_at, ReadingView, reread, pin_flags, Engine, wiring_of}
use Rattle.board_run.proofs.GatherLemmas.{flagged_chips}
use Rattle.board_run.proofs.PartLemmas.{differ_is}
use Rattle.board_run.proofs.ShowLemmas.{fresh_same}
use Rattle.board_run.proofs.ReadLemmas.{none_differ}
use Rattle.board_run.proofs.engine.Engine.refresh.Goals as goal

pub read-requires : goal.read-requires
read-requires g c = let s = c.requires.lags.suits in record { on = s.on_long; levels = s.wired.levels_long }

pub returns-then-self : goal.returns-then-self
returns-then-self g c =
    let m = g.P.Part.machine in
    let e = c.args.self.now in
    let w = wiring_of e in
    let ss = map g.P.Part.state e.parts in
    let l = c.requires.lags in
    let old = e.reading.nets in
    let new = c.read.new.self.nets in
    let r = c.read.ensures in
    let nets_are = ap (λ (v : ReadingView). v.nets) r.rest in
    let ds = l.told.drives_are in
    let resolved = ap (λ (x : NetsView). x.levels) nets_are in
    let levels : new.levels ≡ levels_of m w ss = cc in
    let kept : new.kept ≡ chip_drives_of m w.chip ss = ap (λ (x : NetsView). x.kept) nets_are ∙ ap (λ (flags : List Bool). flagged flags old.drives) l.suits.wired.watched
    ∙ ap (flagged (pin_flags w.chip w.first_pin (length w.net_of))) ds ∙ flagged_chips m w ss l.fits in
    let nets = ap (λ (x : NetsView). x.wiring.nets) nets_are in
    let later : length new.levels ≡ w.nets = r.long ∙ nets in
    record {
      rest = subst (λ (v : ReadingView). let x : Engine g.row.P.Denot = record e { reading = v } in x ≡ record e { reading = reread e.reading v }) (sym r.rest) refl;
      read = record {
        suits = record {
          wired = record { wiring = refl; levels_long = later; watched = l.suits.wired.watched };
          drives_long = l.suits.drives_long;
          closed_long = l.suits.closed_long;
          on_long = l.suits.on_long;
          on_are = l.suits.on_are;
        };
        of = record { drives_are = ds; closed_are = l.told.closed_are; levels_are = levels; chips_are = kept };
        changed = λ _. r.changed.others;
        same_is = r.same_is ∙ ap (λ (l : List Level). same_list same_level old.levels l && same_list same_drive old.kept new.kept) levels
            ∙ ap (λ (l : List Drive). same_list same_level old.levels (levels_of m w ss) && same_list same_drive old.kept l) kept;
        differs = λ k s es. r.differs k ∙ differ_is m w ss l.fits old.levels new.levels new.changed e.reading.on l.suits.wired.levels_long later l.suits.on_long l.suits.on_are r.changed
            (λ j n en. let there = r.within n (any_at (eqb n) new.changed j n en (eq-eqb n n refl)) in omega (arith, there, nets)) (record { bits = 0 }) k s es;
      };
    }

pub returns-else-self : goal.returns-else-self
returns-else-self g c =
    let p = g.P.Part in
    let e = c.args.self.now in
    let is = c.requires.lags.fresh c.if-self.false in
    record {
      rest = refl;
      read = record {
        suits = c.requires.lags.suits;
        of = is;
        changed = λ (new : true ≡ false). absurd cc;
        same_is = fresh_same p.machine (wiring_of e) (map p.state e.parts) e.reading is;
        differs = none_differ p.machine (wiring_of e) (map p.state e.parts) e.reading.nets.levels c.none.result c.none.ensures.none;
      };
    }
