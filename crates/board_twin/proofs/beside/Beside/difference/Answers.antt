use Rattle.std.proofs.Common.{◌∙◌, ap, sym, subst, map, List, ℕ}
use Rattle.std.specs.Option.{option_map}
use Rattle.sim_base.specs.declared.wiring.Wiring.{Wiring}
use Rattle.law_board.specs.FirstDiff.{part_diff}
use Rattle.law_board.specs.Twin.{with_chips}
use Rattle.board_twin.specs.Beside.{AreComparable}
use Rattle.board_twin.specs.Twins.{differs}
use Rattle.board_twin.proofs.AbreastLemmas.{comparable}
use Rattle.board_twin.proofs.beside.Beside.difference.Goals as goal

pub difference-requires : goal.difference-requires
difference-requires g c =
    let b = c.args.self.now in
    let way = c.requires.1 in
    let at = AreComparable g.P.Part in
    subst (λ (v : Wiring). at v c.as_slice-parts.result.now c.as_slice.result.now) (sym c.wiring.ensures)
    (subst (λ (l : List g.row.P.Denot). at b.board.wiring l c.as_slice.result.now) (sym (c.as_slice-parts.ensures ∙ c.parts.ensures))
    (subst (at b.board.wiring b.board.parts) (sym c.as_slice.ensures) (comparable g.P.Part g.met.P.Part.laws way.start b way.steps c.requires.0 way.is)))

pub returns-clause-found : goal.returns-clause-found
returns-clause-found g c =
    let p = g.P.Part in
    let b = c.args.self.now in
    let at = λ (v : Wiring) (t : ℕ) (parts chips : List g.row.P.Denot). option_map differs (part_diff p.machine v t 0 (map p.state parts) (with_chips v (map p.state parts) (map p.state chips))) in
    c.difference.ensures.found
    ∙ ap (λ (v : Wiring). at v c.cycle-t.result c.as_slice-parts.result.now c.as_slice.result.now) c.wiring.ensures
    ∙ ap (λ (t : ℕ). at b.board.wiring t c.as_slice-parts.result.now c.as_slice.result.now) c.cycle-t.ensures.value
    ∙ ap (λ (l : List g.row.P.Denot). at b.board.wiring b.board.cycle l c.as_slice.result.now) (c.as_slice-parts.ensures ∙ c.parts.ensures)
    ∙ ap (at b.board.wiring b.board.cycle b.board.parts) c.as_slice.ensures
