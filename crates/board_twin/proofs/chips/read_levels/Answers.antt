use Rattle.std.proofs.Common.{◌≡◌, ◌+◌, ◌<◌, ◌∙◌, arith, sym, ap, drop, map, length, Bool, Some, get_or, length-set}
use Rattle.std.specs.Prelude.{◌&&◌}
use Rattle.std.proofs.lemmas.Option.{slice_get-get_or}
use Rattle.sim_base.specs.declared.signal.Level.{Level}
use Rattle.board_model.specs.Board.{level_at}
use Rattle.board_model.specs.Rows.{same_list, same_level}
use Rattle.board_model.proofs.Lists.{take_set_more, some_map}
use Rattle.board_twin.proofs.TurnedLemmas.{levels_more}
use Rattle.board_twin.proofs.chips.read_levels.Goals as goal

pub loop-i-preserved : goal.loop-i-preserved
loop-i-preserved c =
    let l = c.loop-i in
    let nets = c.args.nets.now in
    let now = c.args.now.now in
    let before = c.args.before.now in
    let inside : l.i < length nets = c.loop-i-test.true in
    let level = c.level_of_net-level in
    let is : c.is_same_level-same.result ≡ same_level (level_at now (get_or nets l.i 0)) (level_at before (get_or nets l.i 0)) =
    c.is_same_level-same.ensures ∙ ap (λ (x : Level). same_level x c.level_of_net-was.result) level.ensures ∙ ap (same_level (level_at now (get_or nets l.i 0))) c.level_of_net-was.ensures in
    record {
      long = length-set l.own l.i level.result ∙ l.invariant.long;
      own = take_set_more l.own _ l.i level.result (omega (arith, l.invariant.long, c.requires, inside)) (some_map (level_at now) nets l.i (get_or nets l.i 0) (slice_get-get_or nets l.i 0 inside) ∙ ap Some (sym level.ensures)) l.invariant.own;
      same = ap (λ (b : Bool). (l.same && b) && same_list same_level (map (level_at now) (drop (l.i + 1) nets)) (map (level_at before) (drop (l.i + 1) nets))) is
          ∙ levels_more nets l.i now before l.same inside ∙ l.invariant.same;
    }
