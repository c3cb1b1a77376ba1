use Rattle.part_played.proofs.Common.{◌≡◌, ◌∙◌, ◌++◌, ◌∷◌, [], ◌+◌, ap, sym, List, Some, drop, slice_get, DriveRows}
use Rattle.part_played.proofs.PlayLemmas.{get_behind, one_more}
use Rattle.part_played.proofs.loading.rows_from.Goals as goal

pub loop-k-preserved : goal.loop-k-preserved
loop-k-preserved c =
    let l = c.loop-k in
    let rows : List DriveRows = c.args.rows.now in
    let first = c.args.first in
    let pin : DriveRows = c.in_ok-pin.pin in
    let at : slice_get rows (first + l.k) ≡ Some pin = c.rows.ensures ∙ ap Some (sym c.in_ok-pin.ensures) in
    c.in_ok-push.ensures.ok ∙ ap (λ (pins : List DriveRows). pins ++ pin ∷ []) l.invariant ∙ one_more (drop first rows) l.k pin (get_behind first rows l.k pin at)
