use Rattle.std.proofs.Common.{◌≡◌, ◌∙◌, ap, sym, refl, subst, length, map, List, take}
use Rattle.std.specs.Prelude.{not}
use Rattle.std.proofs.lemmas.List.{length-map}
use Rattle.sim_base.specs.declared.signal.Level.{Level}
use Rattle.board_model.specs.Board.{level_at}
use Rattle.board_model.specs.Rows.{same_list, same_level}
use Rattle.board_model.proofs.Lists.{some_same}
use Rattle.board_twin.specs.Beside.{IsBehind}
use Rattle.board_twin.proofs.chips.Chips.turn_chip.Goals as goal

pub take_turn-requires : goal.take_turn-requires
take_turn-requires g c =
    let p = g.P.Part in
    let may = c.requires.may in
    let nets = c.args.nets.now in
    let x = c.item_mut.result.now in
    let same : may.p ≡ x = some_same (sym may.here ∙ c.item_mut.ensures.value) in
    let behind = subst (λ (y : g.row.P.Denot). IsBehind p c.args.t (map (level_at c.args.self.now.levels) nets) y) same may.behind in
    let ls : List Level = map (level_at c.args.now.now) nets in
    let own : c.first_of-own.result.now ≡ ls = c.first_of-own.ensures ∙ ap (take (length nets)) c.as_slice-2.ensures ∙ c.read_levels-differs.ensures.own in
    let long : length ls ≡ length nets = simp length-map refl in
    record {
      end = c.requires.end;
      stands = behind.stands;
      count = behind.count;
      pins = ap length own ∙ long ∙ may.pins ∙ ap (λ (y : g.row.P.Denot). length (p.machine.drives (p.state y))) same;
      differs = λ later.
          c.read_levels-differs.ensures.differs ∙ ap (λ (l : List Level). not (same_list same_level ls (map (level_at l) nets))) c.as_slice.ensures
          ∙ ap (λ (l : List Level). not (same_list same_level ls l)) (sym (behind.holds later)) ∙ ap (λ (l : List Level). not (same_list same_level l (p.machine.held (p.state x)))) (sym own);
    }
