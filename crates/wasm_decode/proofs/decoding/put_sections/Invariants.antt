use Rattle.std.proofs.Common.{length}
use Rattle.wasm_decode.proofs.ModuleLemmas.{SectionRun}
use Rattle.wasm_decode.proofs.decoding.put_sections.Given as goal

abbrev pub invariant-loop-reader : goal.invariant-loop-reader
invariant-loop-reader l = SectionRun l.fn.reader l.reader l.progress

abbrev pub decreases-loop-reader : goal.decreases-loop-reader
decreases-loop-reader l = length l.reader.rest.now
