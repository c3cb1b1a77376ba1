use Rattle.std.proofs.Common.{◌≡◌, ◌+◌, ℕ, List, ap, drop, length, sym, arith, ◌∙◌}
use Rattle.wasm_code.specs.declared.instr.Instr.{Instr}
use Rattle.wasm_decode.specs.declared.module.DataSegment.{DataSegment}
use Rattle.wasm_num.specs.Mem.{put}
use Rattle.wasm_validate.specs.Rules.{offset_of}
use Rattle.wasm_exec.specs.Programs.{with_segments}
use Rattle.wasm_exec.proofs.ListLemmas.{drop_item, get_item, length_put}
use Rattle.wasm_exec.proofs.first.put_segments.Goals as goal

pub loop-segment-preserved : goal.loop-segment-preserved
loop-segment-preserved c =
    let l = c.loop-segment in
    let i = l.segment-index in
    let ss = c.args.segments.now in
    let s = c.segment-item.result in
    let at = offset_of s.offset in
    let placed = c.offset-at.ensures ∙ ap (λ (is : List Instr). offset_of is) c.as_slice.ensures.code in
    let bytes : c.fill_from.new.self.bytes ≡ put at s.bytes l.memory.bytes =
    c.fill_from.ensures.bytes ∙ ap (λ (n : ℕ). put n c.as_slice-in-loop-segment.result.now l.memory.bytes) placed ∙ ap (λ (bs : List ℕ). put at bs l.memory.bytes) c.as_slice-in-loop-segment.ensures in
    let fits = c.requires i s (get_item ss i s _ c.loop-segment-test.true c.segment-item.is) in
    record {
      bytes = ap (λ (bs : List ℕ). with_segments (drop (i + 1) ss) bs) bytes ∙ sym (ap (λ (xs : List DataSegment). with_segments xs l.memory.bytes) (drop_item ss i s _ c.loop-segment-test.true c.segment-item.is)) ∙ l.invariant.bytes;
      size = ap length bytes ∙ length_put at s.bytes l.memory.bytes (omega (arith, fits, l.invariant.size)) ∙ l.invariant.size;
      limit = c.fill_from.ensures.limit ∙ l.invariant.limit;
    }
