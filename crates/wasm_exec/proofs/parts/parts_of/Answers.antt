use Rattle.std.proofs.Common.{sym, ◌∙◌}
use Rattle.wasm_exec.proofs.ValidLemmas.{whole_of}
use Rattle.wasm_exec.proofs.parts.parts_of.Goals as goal

pub whole_parts-requires-clause-whole : goal.whole_parts-requires-clause-whole
whole_parts-requires-clause-whole c = whole_of c.args.module.now c.requires.valid.0 c.requires.valid.1 (sym c.len.ensures ∙ c.if-len.false ∙ c.len-2.ensures)
