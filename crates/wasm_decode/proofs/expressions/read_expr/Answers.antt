use Rattle.wasm_decode.proofs.ExprLemmas.{expr_nested}
use Rattle.wasm_decode.proofs.expressions.read_expr.Goals as goal

pub new-requires : goal.new-requires
new-requires c = expr_nested c.in_ok-code.ensures.0 c.in_ok-code.code c.in_ok-code.ensures.1
