use Rattle.std.proofs.Common.{◌≡◌, length, ap, sym, ◌∙◌, arith}
use Rattle.chip_host.specs.Inventory.{Given}
use Rattle.chip_host.specs.Chip.{Chip}
use Rattle.chip_host.specs.ChipLaws.{start_given}
use Rattle.chip_host.proofs.chip.Chip.new.Goals as goal

pub invariant_of-result : goal.invariant_of-result
invariant_of-result c =
    let a = c.args in
    let given : Given = record { table = a.map; names = a.pins; attrs = a.attrs; display = a.display } in
    let names : length c.in_ok-turns.turns.chip.given.names ≡ length a.pins =
    ap (λ (s : Chip). length s.given.names) c.in_ok-turns.ensures.state ∙ ap (λ (g : Given). length g.names) (start_given a.valid.wasm a.valid.init given a.budget) in
    let count : length c.show-moved.new.shown.items ≡ length a.pins = c.show-moved.ensures.room ∙ c.in-Ok.ensures.len ∙ c.len-count.ensures in
    record {
      shown = c.show-moved.ensures.shown;
      room = count ∙ sym names;
      few = omega (arith, count, c.requires.few);
    }
