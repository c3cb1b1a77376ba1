use Rattle.std.proofs.Common.{◌∙◌, Bool, ap, sym, Some, arith}
use Rattle.parts_logic.specs.Shift595.{q}
use Rattle.parts_logic.proofs.Outputs.{shows}
use Rattle.parts_logic.proofs.shift595.Shift595Behaviour.drive.Goals as goal

pub returns-in-5-to-12 : goal.returns-in-5-to-12
returns-in-5-to-12 c =
    shows c.args.self.now (record { stages = c.self.inside.stages; storage = c.self.inside.storage; off = c.self.inside.off }) c.args.pin c.self.view_is (omega arith) (omega arith)
    ∙ ap (λ (high : Bool). Some (q c.self.inside.off high)) (sym c.bit-in-5-to-12.ensures)
    ∙ ap Some (sym c.q.ensures)
