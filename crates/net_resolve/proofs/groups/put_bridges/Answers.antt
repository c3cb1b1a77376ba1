use Rattle.net_resolve.proofs.Common.{◌≤◌, ◌∙◌, sym, ap, arith, length, map, Some, true, ◌&&◌, length-map, slice_get-get_or, slice_get_within, get_within}
use Rattle.net_resolve.proofs.Common.{take_set_more, take_whole, some_map, all_taken, is_loose}
use Rattle.net_resolve.proofs.SumLemmas.{both_same, none_more}
use Rattle.net_resolve.proofs.groups.put_bridges.Goals as goal

pub loop-i-preserved : goal.loop-i-preserved
loop-i-preserved c =
    let at = slice_get-get_or c.args.resistors.now c.loop-i.i (0, 0) c.loop-i-test.true in
    let value = some_map (λ (r : _). is_loose c.args.groups.now c.args.strong.now r.0 && is_loose c.args.groups.now c.args.strong.now r.1) c.args.resistors.now c.loop-i.i _ at in
    record {
      bridges = take_set_more c.loop-i.bridges _ c.loop-i.i _ (omega (arith, c.loop-i.auto.bridges, c.requires.bridges))
          (value ∙ ap Some (sym (both_same c.is_net_loose-one.ensures c.is_net_loose-other.ensures))) c.loop-i.invariant.bridges;
      none = none_more c.loop-i.bridges c.loop-i.i c.loop-i.found (c.is_net_loose-one.result && c.is_net_loose-other.result) (omega (arith, c.loop-i-test.true, c.loop-i.auto.bridges, c.requires.bridges)) c.loop-i.invariant.none;
    }

pub returns : goal.returns
returns c =
    let long : length (map (λ (r : _). is_loose c.args.groups.now c.args.strong.now r.0 && is_loose c.args.groups.now c.args.strong.now r.1) c.args.resistors.now) ≤ c.loop-i.i = simp length-map (omega (arith, c.loop-i-test.false)) in
    record {
      bridges = all_taken c.loop-i.i c.loop-i.bridges _ (omega (arith, c.loop-i.auto.bridges, c.requires.bridges, c.loop-i-test.false)) (c.loop-i.invariant.bridges ∙ take_whole c.loop-i.i _ long);
      none = λ off k e. c.loop-i.invariant.none off k (omega (arith, slice_get_within c.loop-i.bridges k true e, c.loop-i.auto.bridges, c.requires.bridges, c.loop-i-test.false)) e;
    }

pub bounds-resistors-i : goal.bounds-resistors-i
bounds-resistors-i c = c.loop-i-test.true

pub is_net_loose-one-requires : goal.is_net_loose-one-requires
is_net_loose-one-requires c =
    let at = c.requires.resistors c.loop-i.i _ (get_within c.args.resistors.now c.loop-i.i (0, 0) c.loop-i-test.true) in
    record { net = at.0; group = c.requires.groups _ at.0 }

pub is_net_loose-other-requires : goal.is_net_loose-other-requires
is_net_loose-other-requires c =
    let at = c.requires.resistors c.loop-i.i _ (get_within c.args.resistors.now c.loop-i.i (0, 0) c.loop-i-test.true) in
    record { net = at.1; group = c.requires.groups _ at.1 }
