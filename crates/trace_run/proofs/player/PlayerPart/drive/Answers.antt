use Rattle.std.proofs.Common.{◌≡◌, ◌<◌, ◌≤◌, ◌∙◌, List, ℕ, length, map, get_or, Some, refl, ap, sym, subst, arith}
use Rattle.std.specs.Prelude.{slice_get, slice_index, option_map}
use Rattle.std.proofs.lemmas.List.{length-map}
use Rattle.std.proofs.lemmas.Option.{slice_get_read, slice_get-map}
use Rattle.sim_base.specs.declared.signal.Drive.{Drive}
use Rattle.law_board.specs.Player.{DriveRows, player, drive_at}
use Rattle.trace_run.specs.PlayerAt.{PlayerAt}
use Rattle.trace_run.specs.Rows.{IsCount}
use Rattle.trace_run.proofs.CountLemmas.{count_of}
use Rattle.trace_run.proofs.player.PlayerPart.drive.Goals as goal

pub drive_of-requires : goal.drive_of-requires
drive_of-requires c =
    let own = c.self.inside in
    let i = c.from-pin.result in
    let rows : DriveRows = c.index-as_slice-pin.result in
    let long : length own.rows ≡ length c.args.self.now.player.rows = ap (λ (p : PlayerAt). length p.player.rows) c.self.view_is in
    let less : i < length own.rows = omega (arith, c.requires, length-map c.args.self.now.player.rows (λ (r : DriveRows). drive_at r c.args.self.now.player.cycle), long, c.from-pin.ensures) in
    let is : rows ≡ get_or own.rows i rows = subst (λ (l : List DriveRows). rows ≡ get_or l i rows) c.as_slice.ensures c.index-as_slice-pin.is in
    let count : IsCount rows own.cycle (slice_index own.counts i) = count_of own.rows own.cycle i own.counts rows c.self.invariant.counts less is in
    subst (λ (r : DriveRows). slice_index own.counts i ≤ length r) (sym c.as_slice-rows.ensures) count.past.bound

pub returns : goal.returns
returns c =
    let own = c.self.inside in
    let i = c.from-pin.result in
    let rows : DriveRows = c.index-as_slice-pin.result in
    let long : length own.rows ≡ length c.args.self.now.player.rows = ap (λ (p : PlayerAt). length p.player.rows) c.self.view_is in
    let less : i < length own.rows = omega (arith, c.requires, length-map c.args.self.now.player.rows (λ (r : DriveRows). drive_at r c.args.self.now.player.cycle), long, c.from-pin.ensures) in
    let is : rows ≡ get_or own.rows i rows = subst (λ (l : List DriveRows). rows ≡ get_or l i rows) c.as_slice.ensures c.index-as_slice-pin.is in
    let at : slice_get own.rows i ≡ Some rows = slice_get_read own.rows (length own.rows) i rows refl less is in
    let count : IsCount rows own.cycle (slice_index own.counts i) = c.self.invariant.counts i rows at in
    let drive : c.drive_of.result ≡ drive_at rows own.cycle =
    c.drive_of.ensures own.cycle (subst (λ (r : DriveRows). IsCount r own.cycle (slice_index own.counts i)) (sym c.as_slice-rows.ensures) count)
    ∙ ap (λ (r : DriveRows). drive_at r own.cycle) c.as_slice-rows.ensures in
    sym (ap (λ (p : PlayerAt). slice_get (player.drives p.player) c.args.pin) c.self.view_is)
    ∙ ap (λ (n : ℕ). slice_get (map (λ (r : DriveRows). drive_at r own.cycle) own.rows) n) (sym c.from-pin.ensures)
    ∙ slice_get-map (λ (r : DriveRows). drive_at r own.cycle) own.rows i
    ∙ ap (option_map (λ (r : DriveRows). drive_at r own.cycle)) at
    ∙ ap (λ (d : Drive). Some d) (sym drive)
