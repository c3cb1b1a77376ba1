use Rattle.std.proofs.Common.{◌≡◌, length, arith, sym, ◌∙◌}
use Rattle.wasm_typing.specs.Contexts.{context_of}
use Rattle.wasm_typing.specs.Views.{state_of}
use Rattle.wasm_typing.proofs.BodyLemmas.{at_start, goes_on, fails_70, fails_71, fails_79, typed, le_of, one_at_most}
use Rattle.wasm_typing.proofs.OperandLemmas.{arounds_long, yes_follows, no_follows}
use Rattle.wasm_typing.specs.Checking.{total}
use Rattle.wasm_typing.proofs.body.failing.Goals as goal

pub loop-i-init : goal.loop-i-init
loop-i-init c = at_start (context_of c.args.context.now) c.args.code.now _ c.in_ok-checker.ensures

pub returns-then-not-exists : goal.returns-then-not-exists
returns-then-not-exists c =
    let k = context_of c.args.context.now in
    let code = c.args.code.now in
    let s = state_of c.loop-i.checker in
    let a = c.loop-i.checker.around in
    let x = c.index-code-i.result in
    let n : c.len.result ≡ length s.around = omega (arith, arounds_long a.items, a.ok.0) in
    fails_70 k code c.loop-i.i s c.loop-i.invariant x c.loop-i-test.true c.index-code-i.is c.requires c.len.result n (sym c.exists.ensures ∙ c.if-not-exists.true)

pub returns-then-not-branch : goal.returns-then-not-branch
returns-then-not-branch c =
    let k = context_of c.args.context.now in
    let code = c.args.code.now in
    let s = state_of c.loop-i.checker in
    let a = c.loop-i.checker.around in
    let x = c.index-code-i.result in
    let n : c.len.result ≡ length s.around = omega (arith, arounds_long a.items, a.ok.0) in
    fails_71 k code c.loop-i.i s c.loop-i.invariant x c.loop-i-test.true c.index-code-i.is c.requires c.len.result n (sym c.exists.ensures ∙ c.if-not-exists.false) (no_follows _ _ _ c.if-not-branch.true c.in_ok-step.ensures)

pub returns-then-not-is_within : goal.returns-then-not-is_within
returns-then-not-is_within c =
    let k = context_of c.args.context.now in
    let code = c.args.code.now in
    let s = state_of c.loop-i.checker in
    let a = c.loop-i.checker.around in
    let x = c.index-code-i.result in
    let n : c.len.result ≡ length s.around = omega (arith, arounds_long a.items, a.ok.0) in
    fails_79 k code c.loop-i.i s (state_of c.step.new.checker) c.loop-i.invariant x c.loop-i-test.true c.index-code-i.is c.requires (one_at_most c.args.context.now.returns) c.len.result n (sym c.exists.ensures ∙ c.if-not-exists.false) (yes_follows _ _ _ c.if-not-branch.false c.in_ok-step.ensures) (sym c.is_within.ensures ∙ c.if-not-is_within.true)

pub loop-i-preserved : goal.loop-i-preserved
loop-i-preserved c =
    let k = context_of c.args.context.now in
    let code = c.args.code.now in
    let s = state_of c.loop-i.checker in
    let x = c.index-code-i.result in
    let t = state_of c.step.new.checker in
    goes_on k code c.loop-i.i s c.loop-i.invariant x c.loop-i-test.true c.index-code-i.is c.requires t (yes_follows _ _ _ c.if-not-branch.false c.in_ok-step.ensures) (le_of (total t) 1024 (sym c.is_within.ensures ∙ c.if-not-is_within.false))

pub returns : goal.returns
returns c = typed (context_of c.args.context.now) c.args.code.now c.loop-i.i _ c.loop-i.invariant c.requires (omega arith)
