use Rattle.board_run.proofs.Common.{◌≡◌, ◌∙◌, refl, sym, ap, subst, arith, length, List, ℕ, Bool, eq-eqb, get_or, ◌&&◌, ◌==◌, eqb, list_any, Level, same_list}
use Rattle.board_run.proofs.Common.{same_level, same_drive, NetsView, AreChanged, has, any_at, has_part, ReadingView}
use Rattle.net_resolve.specs.NetsView.{levels_by}
use Rattle.board_run.proofs.ReadLemmas.{none_changed}
use Rattle.board_run.proofs.reading.read_all.Goals as goal

pub parts_on-differ-requires : goal.parts_on-differ-requires
parts_on-differ-requires c = λ j n en.
    let nets = ap (λ (x : NetsView). x.wiring.nets) c.resolve_marked.ensures.levels ∙ ap (λ (x : NetsView). x.wiring.nets) c.keep_watched-same_drives.ensures.kept in
    omega (arith, c.changed-2.ensures.nets n (any_at (eqb n) c.changed-2.result.now j n en (eq-eqb n n refl)), nets, c.requires.on)

pub returns : goal.returns
returns c =
    let old = c.args.nets.now in
    let new = c.resolve_marked.new.self in
    let first = c.keep_watched-same_drives in
    let all = c.resolve_marked.ensures.levels
    ∙ ap (λ (x : NetsView). let y : NetsView = record x { levels = levels_by x.wiring x.closed x.drives; changed = new.changed } in y) first.ensures.kept in
    let are : AreChanged old.levels new.levels new.changed = subst (λ (ls : List Level). AreChanged ls new.levels new.changed) (ap (λ (x : NetsView). x.levels) first.ensures.kept) c.resolve_marked.ensures.changed in
    let nets : new.wiring.nets ≡ old.wiring.nets = ap (λ (x : NetsView). x.wiring.nets) all in
    let long : length old.levels ≡ length new.levels = c.requires.levels ∙ sym nets ∙ sym c.levels-levels.ensures.nets ∙ ap length c.levels-levels.ensures.levels in
    let none = none_changed old.levels new.levels new.changed c.is_empty-same_levels.result long are (c.is_empty-same_levels.ensures ∙ ap (λ (ns : List ℕ). length ns == 0) c.changed.ensures.changed) in
    record {
      rest = ap (λ (x : NetsView). let y : ReadingView = record { nets = x; on = c.args.on.now } in y) all;
      changed = are;
      within = λ n h. c.changed-2.ensures.nets n (ap (λ (ns : List ℕ). has ns n) c.changed-2.ensures.changed ∙ h);
      long = sym (ap length c.levels-levels.ensures.levels) ∙ c.levels-levels.ensures.nets;
      same_is = ap (λ (b : Bool). b && first.result) none
          ∙ ap (λ (b : Bool). same_list same_level old.levels new.levels && b) (first.ensures.same ∙ ap (same_list same_drive old.kept) (sym (ap (λ (x : NetsView). x.kept) all)));
      differs = λ k. c.parts_on-differ.ensures k ∙ ap (list_any (λ (n : ℕ). has_part (get_or c.args.on.now n (record { bits = 0 })) k)) c.changed-2.ensures.changed;
    }
