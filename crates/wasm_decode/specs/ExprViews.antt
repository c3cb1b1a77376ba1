-- What the reader of expressions keeps. No public clause cites it.
use Rattle.std.specs.Prelude.{reverse}
use Rattle.wasm_decode.specs.declared.expressions.Opened.{Opened}
use Rattle.wasm_decode.specs.InstrText.{InExpr}

abbrev pub state_of : Opened → InExpr
state_of o = record { opened = reverse o.blocks.items; ended = o.ended }
