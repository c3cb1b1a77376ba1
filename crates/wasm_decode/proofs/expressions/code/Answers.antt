use Rattle.std.proofs.Common.{List, Bool, subst}
use Rattle.std.specs.Prelude.{reverse}
use Rattle.std.proofs.lemmas.Result.{err_from_is_err_and}
use Rattle.wasm_binary.specs.Reads.{Reads, Fails}
use Rattle.wasm_decode.specs.InstrText.{instr}
use Rattle.wasm_decode.specs.ExprViews.{state_of}
use Rattle.wasm_decode.proofs.ExprLemmas.{expr_goes, expr_fails, expr_ends, instr_some}
use Rattle.wasm_decode.proofs.expressions.code.Goals as goal

pub returns-in_err-instr : goal.returns-in_err-instr
returns-in_err-instr c =
    let p = err_from_is_err_and c.from_residual.result c.from_residual.ensures.1 in
    let f = subst (λ (o : List Bool). Fails (instr (reverse o)) c.loop-opened.reader c.in_err-instr.field-0.0) c.deref.ensures.value c.in_err-instr.ensures in
    rw (p.1, p.2) (expr_fails _ _ _ _ _ c.loop-opened.invariant c.loop-opened-test.true f)

pub loop-opened-preserved : goal.loop-opened-preserved
loop-opened-preserved c =
    let r = subst (λ (o : List Bool). Reads (instr (reverse o)) c.loop-opened.reader c.instruction.new.reader c.in_ok-instr.instr) c.deref.ensures.value c.in_ok-instr.ensures in
    expr_goes c.args.reader.now c.loop-opened.reader c.instruction.new.reader c.loop-opened.code c.push.new.self (state_of c.loop-opened.opened) (state_of c.pass.new.self) c.in_ok-instr.instr c.loop-opened.invariant c.loop-opened-test.true r c.in_ok-pass.ensures c.in_ok-push.ensures.ok

pub loop-opened-smaller : goal.loop-opened-smaller
loop-opened-smaller c = instr_some _ _ _ _ c.in_ok-instr.ensures

pub returns : goal.returns
returns c = expr_ends _ _ _ _ c.loop-opened.invariant c.loop-opened-test.false
