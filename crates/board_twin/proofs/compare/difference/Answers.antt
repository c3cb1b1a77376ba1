use Rattle.std.proofs.Common.{◌≡◌, ◌<◌, ◌+◌, ◌∙◌, ℕ, List, length, map, ap, sym, refl, arith, Bool, true, false, Some, get_or}
use Rattle.std.specs.Prelude.{slice_get}
use Rattle.std.specs.Option.{option_map}
use Rattle.std.proofs.lemmas.Option.{slice_get_read, slice_get_within, unwrap_or-slice_get}
use Rattle.board_model.proofs.Lists.{some_map}
use Rattle.law_board.specs.Twin.{chips_before}
use Rattle.law_board.specs.Worlds.{is_chip}
use Rattle.board_run.proofs.TurnLemmas.{some_there}
use Rattle.board_twin.specs.Twins.{differs}
use Rattle.board_twin.proofs.DifferenceLemmas.{chip_differs, chip_same, from, rest_more}
use Rattle.board_twin.proofs.TurnedLemmas.{before_next}
use Rattle.board_twin.proofs.compare.difference.Goals as goal
use Rattle.board_twin.proofs.compare.difference.Goals.{then-as_slice-k+in_default, else-as_slice-k}

pub returns-in-Some-clause-found : goal.returns-in-Some-clause-found
returns-in-Some-clause-found g c =
    let p = g.P.Part in
    let w = c.args.wiring.now in
    let parts = c.args.parts.now in
    let chips = c.args.chips.now in
    let l = c.loop-k in
    let is : is_chip w l.k ≡ true = unwrap_or-slice_get w.chip l.k false ∙ ap (λ (x : List Bool). get_or x l.k false) (sym c.as_slice.ensures) ∙ c.if-as_slice-k.true in
    let q = c.requires.has l.k is in
    let inside : l.j < length chips = (let h = slice_get_within chips (chips_before w l.k) q.0 q.1 in omega (arith, h, l.invariant.place)) in
    let at : slice_get parts l.k ≡ Some c.index-parts-k.result = slice_get_read parts (length parts) l.k c.index-parts-k.result refl (omega (arith, c.loop-k-test.true)) c.index-parts-k.is in
    let there : slice_get chips l.j ≡ Some c.index-chips-j.result = slice_get_read chips (length chips) l.j c.index-chips-j.result refl inside c.index-chips-j.is in
    let found = chip_differs p.machine w c.args.t (map p.state parts) (map p.state chips) l.k l.j c.in-Some.pin (p.state c.index-parts-k.result) (p.state c.index-chips-j.result) c.in-Some.a c.in-Some.b
    (some_map p.state parts l.k c.index-parts-k.result at) (some_map p.state chips l.j c.index-chips-j.result there) is (sym c.pin_difference.ensures ∙ c.in-Some.is) in
    sym (ap (option_map differs) (sym l.invariant.same ∙ found))

pub loop-k-preserved : goal.loop-k-preserved
loop-k-preserved g c =
    let p = g.P.Part in
    let w = c.args.wiring.now in
    let parts = c.args.parts.now in
    let chips = c.args.chips.now in
    let xs = map p.state parts in
    let zs = map p.state chips in
    let l = c.loop-k in
    let inside : l.k < length parts = omega (arith, c.loop-k-test.true) in
    elim c.if-as_slice-k.branch [
      | then-as_slice-k+in_default b ↦
          let is : is_chip w l.k ≡ true = unwrap_or-slice_get w.chip l.k false ∙ ap (λ (x : List Bool). get_or x l.k false) (sym c.as_slice.ensures) ∙ b.if-as_slice-k.true in
          let q = c.requires.has l.k is in
          let within : l.j < length chips = (let h = slice_get_within chips (chips_before w l.k) q.0 q.1 in omega (arith, h, l.invariant.place)) in
          let at : slice_get parts l.k ≡ Some b.index-parts-k.result = slice_get_read parts (length parts) l.k b.index-parts-k.result refl inside b.index-parts-k.is in
          let there : slice_get chips l.j ≡ Some b.index-chips-j.result = slice_get_read chips (length chips) l.j b.index-chips-j.result refl within b.index-chips-j.is in
          let same = chip_same p.machine w c.args.t xs zs l.k l.j (p.state b.index-parts-k.result) (p.state b.index-chips-j.result)
          (some_map p.state parts l.k b.index-parts-k.result at) (some_map p.state chips l.j b.index-chips-j.result there) is (sym b.pin_difference.ensures ∙ b.in_default.is) in
          record {
            place = b.j-is ∙ ap (λ (i : ℕ). i + 1) l.invariant.place ∙ sym (before_next w l.k true is);
            same = ap (from p.machine w c.args.t xs zs (l.k + 1)) b.j-is ∙ sym same ∙ l.invariant.same;
          }
      | else-as_slice-k b ↦
          let other : is_chip w l.k ≡ false = unwrap_or-slice_get w.chip l.k false ∙ ap (λ (x : List Bool). get_or x l.k false) (sym c.as_slice.ensures) ∙ b.if-as_slice-k.false in
          let x = some_there parts l.k inside in
          let same = rest_more p.machine w c.args.t xs zs l.k l.j (p.state x.0) (some_map p.state parts l.k x.0 x.1) other in
          record {
            place = b.j-is ∙ l.invariant.place ∙ (let e : chips_before w l.k ≡ chips_before w l.k + 0 = omega arith in e) ∙ sym (before_next w l.k false other);
            same = ap (from p.machine w c.args.t xs zs (l.k + 1)) b.j-is ∙ sym same ∙ l.invariant.same;
          }
    ]
