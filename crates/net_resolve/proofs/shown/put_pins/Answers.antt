use Rattle.net_resolve.proofs.Common.{◌∙◌, ◌+◌, arith, sym, ap, subst, map, length, length-set, get_or, List, slice_get_within, Level, level_at}
use Rattle.net_resolve.proofs.Common.{get_within, some_map}
use Rattle.net_resolve.proofs.PlaceLemmas.{Renewed, renewed_more}
use Rattle.net_resolve.proofs.shown.put_pins.Goals as goal

pub put_pin-requires : goal.put_pin-requires
put_pin-requires c =
    record {
      pin = c.requires.pins c.loop-j.j (get_or c.args.pins.now c.loop-j.j 0) (get_within c.args.pins.now c.loop-j.j 0 c.loop-j-test.true);
      nets = c.requires.nets;
      each = c.loop-j.invariant.long;
    }

pub loop-j-preserved : goal.loop-j-preserved
loop-j-preserved c =
    let pins = c.args.pins.now in
    let net_of = c.args.net_of.now in
    let l = c.loop-j in
    let m = get_or pins l.j 0 in
    let at = get_within pins l.j 0 c.loop-j-test.true in
    let inside = c.requires.pins l.j m at in
    let level = level_at c.args.levels.now in
    record {
      put = subst (λ (x : List Level). Renewed (map level net_of) pins (l.j + 1) c.args.pin_levels.now x) (sym c.put_pin.ensures)
          (renewed_more (map level net_of) pins l.j c.args.pin_levels.now l.pin_levels m _ l.invariant.put at (omega (arith, inside, l.invariant.long))
          (some_map level net_of m _ (get_within net_of m 0 inside)));
      long = ap length c.put_pin.ensures ∙ length-set l.pin_levels m _ ∙ l.invariant.long;
    }

pub returns-clause-put : goal.returns-clause-put
returns-clause-put c = λ j k e. c.loop-j.invariant.put.there j k (omega (arith, slice_get_within c.args.pins.now j k e)) e
