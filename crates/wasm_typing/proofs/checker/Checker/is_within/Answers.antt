use Rattle.std.proofs.Common.{◌≡◌, ◌+◌, ◌-◌, ◌<◌, List, length, get_or, take, arith, sym, ap, ◌∙◌}
use Rattle.std.specs.Prelude.{reverse}
use Rattle.std.proofs.lemmas.List.{length-reverse}
use Rattle.wasm_typing.specs.declared.open.Open.{Open}
use Rattle.wasm_typing.proofs.OperandLemmas.{sum_of, sum_next, not_within, within_is}
use Rattle.wasm_typing.proofs.checker.Checker.is_within.Goals as goal

pub returns-then-count-room : goal.returns-then-count-room
returns-then-count-room c =
    let xs = c.args.self.now.around.items in
    let i = c.loop-open.open-index in
    let o = c.open-item.result in
    let v = c.deref-open-items.ensures.value in
    let e : o ≡ get_or xs i o = c.open-item.is ∙ ap (λ (ys : List Open). get_or ys i o) v in
    sym (not_within (reverse c.args.self.now.known.items) xs i c.loop-open.room o (omega (arith, c.loop-open-test.true, ap length v)) e c.loop-open.invariant (omega (arith, o.known.ok.0)))

pub loop-open-preserved : goal.loop-open-preserved
loop-open-preserved c =
    let xs = c.args.self.now.around.items in
    let i = c.loop-open.open-index in
    let o = c.open-item.result in
    let v = c.deref-open-items.ensures.value in
    let e : o ≡ get_or xs i o = c.open-item.is ∙ ap (λ (ys : List Open). get_or ys i o) v in
    let lt : i < length xs = omega (arith, c.loop-open-test.true, ap length v) in
    let g : c.loop-open.room - c.len-count.result + sum_of (take (i + 1) xs) ≡ 1024 = omega (arith, sum_next xs i o lt e, c.loop-open.invariant, o.known.ok.0) in
    g

pub returns : goal.returns
returns c =
    let k = c.args.self.now.known in
    let xs = c.args.self.now.around.items in
    let v = c.deref-open-items.ensures.value in
    within_is (reverse k.items) c.len.result xs c.loop-open.open-index c.loop-open.room (omega (arith, length-reverse k.items, k.ok.0)) (omega (arith, ap length v)) c.loop-open.invariant
