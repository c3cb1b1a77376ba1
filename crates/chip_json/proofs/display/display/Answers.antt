use Rattle.std.proofs.Common.{ℕ, Bool, Option, Some, None, sym, ap}
use Rattle.std.specs.Prelude.{if◌then◌else◌}
use Rattle.sim_base.specs.Display.{DisplaySize}
use Rattle.chip_json.proofs.DisplayLemmas.{too_wide, too_high}
use Rattle.chip_json.proofs.display.display.Goals as goal

abbrev by_test : ℕ → ℕ → Bool → Option DisplaySize
by_test w h b = if b then Some (record { width = w; height = h }) else None

pub returns-then-width-gt65536 : goal.returns-then-width-gt65536
returns-then-width-gt65536 c = ap (by_test c.args.width c.args.height) (sym (too_wide c.args.width c.args.height c.if-width-gt65536.true))

pub returns-then-height-gt65536 : goal.returns-then-height-gt65536
returns-then-height-gt65536 c = ap (by_test c.args.width c.args.height) (sym (too_high c.args.width c.args.height c.if-height-gt65536.true))
