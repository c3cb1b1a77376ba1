use Rattle.wasm_decode.proofs.SectionLemmas.{bodies_read, bodies_fail}
use Rattle.wasm_decode.proofs.sections.content.Goals as goal

pub returns-in-Ok-bodies : goal.returns-in-Ok-bodies
returns-in-Ok-bodies c = bodies_read c.args.known.now c.args.id _ _ _ c.in-10.is (rw (c.as_slice.ensures, c.as_slice-in-10.ensures) at c.in-Ok-bodies.ensures)

pub returns-in-Err-bodies : goal.returns-in-Err-bodies
returns-in-Err-bodies c = bodies_fail c.args.known.now c.args.id c.args.reader.now _ c.in-10.is (rw (c.as_slice.ensures, c.as_slice-in-10.ensures) at c.in-Err-bodies.ensures)
