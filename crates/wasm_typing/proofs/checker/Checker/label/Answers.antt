use Rattle.std.proofs.Common.{arith, sym, ◌∙◌}
use Rattle.wasm_typing.proofs.OperandLemmas.{label_past, label_here, loop_label, block_label}
use Rattle.wasm_typing.specs.Views.{frame_of}
use Rattle.wasm_typing.proofs.checker.Checker.label.Goals as goal

pub returns-then-l-count : goal.returns-then-l-count
returns-then-l-count c = let a = c.args.self.now.around in label_past a.items c.args.l (omega (arith, a.ok.0))

pub returns-then-is_loop : goal.returns-then-is_loop
returns-then-is_loop c =
    let a = c.args.self.now.around in
    let o = c.index-open.result.now in
    label_here a.items o c.args.l c.len-count.result _ (omega (arith, a.ok.0)) (omega arith) c.index-open.ensures (loop_label (frame_of o.frame) o.result (sym c.is_loop.ensures ∙ c.if-is_loop.true))

pub returns-else-is_loop : goal.returns-else-is_loop
returns-else-is_loop c =
    let a = c.args.self.now.around in
    let o = c.index-open.result.now in
    label_here a.items o c.args.l c.len-count.result _ (omega (arith, a.ok.0)) (omega arith) c.index-open.ensures (block_label (frame_of o.frame) o.result (sym c.is_loop.ensures ∙ c.if-is_loop.false))
