use Rattle.std.proofs.Common.{ℕ, List, ap}
use Rattle.std.proofs.lemmas.Result.{err_from_is_err_and}
use Rattle.wasm_decode.proofs.InstrLemmas.{br_table_stops_2, br_table_done}
use Rattle.wasm_code.specs.declared.instr.Instr.TheVariants as instrs
use Rattle.wasm_decode.proofs.instructions.br_table.Goals as goal

pub returns-in_err-default : goal.returns-in_err-default
returns-in_err-default c =
    let p = err_from_is_err_and c.from_residual-in_err-default.result c.from_residual-in_err-default.ensures.1 in
    rw (p.1, p.2) (br_table_stops_2 _ _ _ _ c.in_ok-labels.ensures c.in_err-default.ensures)

pub returns : goal.returns
returns c = br_table_done _ _ _ _ _ (instrs.BrTable c.in_ok-labels-2.labels c.in_ok-default.default) (ap (λ (l : List ℕ). instrs.BrTable l c.in_ok-default.default) c.in_ok-labels-2.ensures) c.in_ok-labels.ensures c.in_ok-default.ensures
