use Rattle.net_resolve.proofs.Common.{◌≡◌, ◌<◌, ◌+◌, ◌∙◌, arith, ap, sym, subst, length, get_or, List, slice_get_within, slice_get, Level, get_within}
use Rattle.net_resolve.proofs.Common.{get_set_other}
use Rattle.sim_base.specs.declared.signal.Level.TheVariants as levels
use Rattle.net_resolve.proofs.PlaceLemmas.{Put, put_more}
use Rattle.net_resolve.proofs.MarkLemmas.{moves_then, still_fresh}
use Rattle.net_resolve.proofs.shown.Shown.put_levels.Goals as goal

pub put_level-requires : goal.put_level-requires
put_level-requires c =
    let l = c.loop-j in
    let n = get_or c.args.nets.now l.j 0 in
    let at = get_within c.args.nets.now l.j 0 c.loop-j-test.true in
    let moves = l.invariant.moves in
    record {
      net = omega (arith, c.requires.nets.within l.j n at, moves.long);
      room = record { few = omega (arith, c.requires.room.few, moves.long); room = moves.room ∙ c.requires.room.room ∙ sym moves.long };
      fresh = still_fresh c.args.self.now.levels.items l.self.levels.items c.args.self.now.changed l.self.changed n moves (c.requires.fresh l.j n at)
          (l.invariant.put.others n (λ i less e. let same : i ≡ l.j = c.requires.nets.once i l.j n e at in omega (arith, less, same)));
    }

pub loop-j-preserved : goal.loop-j-preserved
loop-j-preserved c =
    let nets = c.args.nets.now in
    let l = c.loop-j in
    let old = c.args.self.now in
    let n = get_or nets l.j 0 in
    let at = get_within nets l.j 0 c.loop-j-test.true in
    let inside : l.j < length c.args.levels.now = omega (arith, c.requires.each) in
    let put = l.invariant.put in
    record {
      put = subst (λ (x : List Level). Put c.args.levels.now nets (l.j + 1) old.levels.items x) (sym c.put_level.ensures.put)
          (put_more c.args.levels.now nets l.j old.levels.items l.self.levels.items n (get_or c.args.levels.now l.j levels.Low) c.requires.nets.once put at
          (omega (arith, c.requires.nets.within l.j n at, l.invariant.moves.long)) (get_within c.args.levels.now l.j levels.Low inside));
      moves = moves_then old.levels.items l.self.levels.items c.put_level.new.self.levels.items old.changed l.self.changed c.put_level.new.self.changed n l.invariant.moves
          (put.others n (λ i less e. let same : i ≡ l.j = c.requires.nets.once i l.j n e at in omega (arith, less, same)))
          c.put_level.ensures.moves
          (λ k ne. ap (λ (x : List Level). slice_get x k) c.put_level.ensures.put ∙ get_set_other l.self.levels.items n k _ ne);
      pins = c.put_level.ensures.pins ∙ l.invariant.pins;
    }

pub returns-clause-put : goal.returns-clause-put
returns-clause-put c = λ j n e. c.loop-j.invariant.put.there j n (omega (arith, slice_get_within c.args.nets.now j n e)) e
