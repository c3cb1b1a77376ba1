use Rattle.std.proofs.Common.{◌≡◌, ◌<◌, ◌≤◌, ◌∙◌, ◌+◌, ◌++◌, [], ◌∷◌, ℕ, List, length, take, slice_set, refl, ap, sym, add-one, arith}
use Rattle.std.proofs.lemmas.List.{length-set, take_all, take_more_set}
use Rattle.part_oled.specs.Picture.{Picture, cell, cells_below, page_cells}
use Rattle.part_oled.proofs.picture.Picture.page.Goals as goal

more : (p : Picture) (page n : ℕ) → cells_below p page n ++ cell p page n ∷ [] ≡ cells_below p page (n + 1)
unfolding cells_below
more p page n = rw (add-one n) refl

whole : (p : Picture) (page : ℕ) → cells_below p page 128 ≡ page_cells p page
unfolding page_cells
whole p page = refl

pub loop-column-init : goal.loop-column-init
unfolding cells_below
loop-column-init c = record { done = refl; long = refl }

pub loop-column-preserved : goal.loop-column-preserved
loop-column-preserved c =
    let l = c.loop-column in
    let p : Picture = c.args.self.now in
    let page : ℕ = c.args.page in
    let shown : ℕ = cell p page l.column in
    let at : c.from.result ≡ l.column = omega arith in
    let is : c.cell.result ≡ cell p page l.column = c.cell.ensures in
    let inside : l.column < length l.cells = omega (arith, l.invariant.long, c.loop-column-test.true) in
    record {
      done =
          ap (λ (i : ℕ). take (l.column + 1) (slice_set l.cells i c.cell.result)) at
          ∙ ap (λ (x : ℕ). take (l.column + 1) (slice_set l.cells l.column x)) is
          ∙ take_more_set l.cells l.column shown inside
          ∙ ap (λ (xs : List ℕ). xs ++ shown ∷ []) l.invariant.done
          ∙ more p page l.column;
      long = length-set l.cells c.from.result c.cell.result ∙ l.invariant.long;
    }

pub returns : goal.returns
returns c =
    let l = c.loop-column in
    let p : Picture = c.args.self.now in
    let page : ℕ = c.args.page in
    let all : l.column ≡ 128 = omega (arith, c.loop-column-test.false, l.auto.column-end) in
    let few : length l.cells ≤ l.column = omega (arith, l.invariant.long, all) in
    sym (take_all l.column l.cells few) ∙ l.invariant.done ∙ ap (λ (n : ℕ). cells_below p page n) all ∙ whole p page
