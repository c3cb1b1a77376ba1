use Rattle.board_run.proofs.Common.{◌∙◌, ap, length, List, ℕ, Option, None, refl, sym, true, length-replicate, slice_get, Kept}
use Rattle.board_run.proofs.ShowLemmas.{get_all}
use Rattle.board_run.proofs.LegLemmas.{lags_start}
use Rattle.board_run.proofs.start.begin.Goals as goal

pub returns : goal.returns
returns g c =
    let p = g.P.Part in
    let dues = c.in_ok-dues.ensures in
    let kept : Kept = record { input = 0; changed = true; dues = c.in_ok-dues.dues; reading = c.in_ok-reading.reading; answers = c.in_ok-answers.answers } in
    lags_start p.machine c.args.wiring p.state p.now p.wakes c.args.parts.now kept refl c.requires.few c.requires.fresh dues.dues dues.due
    (ap length c.in_ok-answers.ensures ∙ length-replicate (length c.args.parts.now) None)
    (λ k a e. get_all (length c.args.parts.now) k None a (ap (λ (xs : List (Option ℕ)). slice_get xs k) (sym c.in_ok-answers.ensures) ∙ e))
    c.in_ok-reading.ensures.told c.requires.fits c.in_ok-reading.ensures.suits
