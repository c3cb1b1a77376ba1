use Rattle.std.proofs.Common.{sym, ◌∙◌}
use Rattle.std.proofs.lemmas.Result.{err_from_is_err_and}
use Rattle.wasm_decode.proofs.SectionLemmas.{section_shrinks}
use Rattle.wasm_decode.proofs.ModuleLemmas.{sections_begin, sections_go, section_breaks, sections_end}
use Rattle.wasm_decode.proofs.decoding.put_sections.Goals as goal

pub loop-reader-init : goal.loop-reader-init
loop-reader-init c = sections_begin _ _ c.requires

pub returns-in_err-section : goal.returns-in_err-section
returns-in_err-section c =
    let p = err_from_is_err_and c.from_residual.result c.from_residual.ensures.1 in
    rw (p.1, p.2) (section_breaks _ _ _ _ c.loop-reader.invariant c.loop-reader-test.true c.in_err-section.ensures)

pub loop-reader-preserved : goal.loop-reader-preserved
loop-reader-preserved c = sections_go _ _ _ _ _ c.in_ok-section.section c.loop-reader.invariant c.in_ok-section.ensures c.put.ensures

pub loop-reader-smaller : goal.loop-reader-smaller
loop-reader-smaller c = section_shrinks _ _ _ _ c.in_ok-section.ensures

pub returns : goal.returns
returns c = sections_end _ _ _ c.loop-reader.invariant c.loop-reader-test.false (sym c.wants_bodies.ensures ∙ c.if-wants_bodies.false)
