use Rattle.std.proofs.Common.{sym, ◌∙◌}
use Rattle.std.proofs.lemmas.Result.{err_from_is_err_and}
use Rattle.std.specs.Prelude.{reverse}
use Rattle.wasm_decode.proofs.InstrLemmas.{instr_ends, instr_faulty, instr_goes}
use Rattle.wasm_decode.proofs.instructions.instruction.Goals as goal

pub returns-in_err-op : goal.returns-in_err-op
returns-in_err-op c =
    let p = err_from_is_err_and c.from_residual.result c.from_residual.ensures.1 in
    rw (p.1, p.2) (instr_ends (reverse c.args.opened.now) c.args.reader.now _ c.in_err-op.ensures)

pub returns-in-Ok : goal.returns-in-Ok
returns-in-Ok c = instr_goes (reverse c.args.opened.now) c.args.reader.now c.byte.new.self c.immediates.new.reader c.in_ok-op.op c.in-Ok.op c.immediates.result c.in_ok-op.ensures (sym c.in-Ok.is ∙ c.judge.ensures) c.immediates.ensures

pub returns-in-Err : goal.returns-in-Err
returns-in-Err c = instr_faulty (reverse c.args.opened.now) c.args.reader.now c.byte.new.self c.in_ok-op.op c.in-Err.number c.refused.result c.in_ok-op.ensures (sym c.in-Err.is ∙ c.judge.ensures) c.refused.ensures
