use Rattle.std.proofs.Common.{◌≡◌, ◌<◌, ◌+◌, ◌-◌, ℕ, Some, None, Option, length, refl, sym, subst, arith}
use Rattle.std.specs.Prelude.{slice_get, slice_index, slice_set}
use Rattle.std.proofs.lemmas.Option.{slice_get_read}
use Rattle.part_law.specs.declared.span.Span.{Span}
use Rattle.law_board.specs.Player.{DriveRows, has_row}
use Rattle.trace_run.specs.Rows.{ArePast, IsCount, IsNext}
use Rattle.trace_run.proofs.CountLemmas.{Counted, counted_more, counted_none}
use Rattle.trace_run.proofs.rows.count_all.Goals as goal

pub loop-i-init : goal.loop-i-init
loop-i-init c =
    subst (λ (m : Span). Counted c.args.pins.now c.args.cycle c.args.counts.now c.args.counts.now None m (length c.args.pins.now)) (sym c.none-moved.ensures)
    (counted_none c.args.pins.now c.args.cycle c.args.counts.now c.told-counts)

pub count_on-count-requires-clause-past : goal.count_on-count-requires-clause-past
count_on-count-requires-clause-past c =
    let pins = c.args.pins.now in
    let i = c.loop-i.i - 1 in
    let inv = c.loop-i.invariant in
    let rows = c.index-pins-i.result in
    let less : i < length pins = omega (arith, inv.within, c.loop-i-test.true) in
    let at : slice_get pins i ≡ Some rows = slice_get_read pins (length pins) i rows refl less c.index-pins-i.is in
    let same : slice_index c.loop-i.counts i ≡ slice_index c.args.counts.now i = inv.rest i (omega (arith, c.loop-i-test.true)) in
    subst (λ (r : DriveRows). ArePast r c.args.cycle (slice_index c.loop-i.counts i)) (sym c.as_slice-rows.ensures)
    (subst (λ (n : ℕ). ArePast rows c.args.cycle n) (sym same) (c.requires.past i rows at))

pub loop-i-preserved : goal.loop-i-preserved
loop-i-preserved c =
    let pins = c.args.pins.now in
    let i = c.loop-i.i - 1 in
    let inv = c.loop-i.invariant in
    let counts = c.loop-i.counts in
    let rows = c.index-pins-i.result in
    let n = c.count_on-count.result in
    let less : i < length pins = omega (arith, inv.within, c.loop-i-test.true) in
    let up : c.loop-i.i ≡ i + 1 = omega (arith, c.loop-i-test.true) in
    let at : slice_get pins i ≡ Some rows = slice_get_read pins (length pins) i rows refl less c.index-pins-i.is in
    let count : IsCount rows c.args.cycle n = subst (λ (r : DriveRows). IsCount r c.args.cycle n) c.as_slice-rows.ensures c.count_on-count.ensures in
    let own : IsNext (has_row rows) c.args.cycle c.next_row.result = subst (λ (r : DriveRows). IsNext (has_row r) c.args.cycle c.next_row.result) c.as_slice-rows.ensures (c.next_row.ensures c.args.cycle c.count_on-count.ensures) in
    subst (λ (next : Option ℕ). Counted pins c.args.cycle c.args.counts.now (slice_set counts i n) next c.with_moved-moved.result i) (sym c.earlier-next.ensures)
    (counted_more pins c.args.cycle c.args.counts.now counts c.loop-i.next c.next_row.result c.loop-i.moved c.with_moved-moved.result i n rows c.requires.few
    (subst (λ (m : ℕ). Counted pins c.args.cycle c.args.counts.now counts c.loop-i.next c.loop-i.moved m) up inv) at count own c.with_moved-moved.ensures)

pub returns-clause-counts : goal.returns-clause-counts
returns-clause-counts c = λ k rows at. c.loop-i.invariant.done k rows (omega (arith, c.loop-i-test.false)) at

pub returns-clause-next : goal.returns-clause-next
returns-clause-next c =
    let start : c.loop-i.i ≡ 0 = omega (arith, c.loop-i-test.false) in
    (subst (λ (m : ℕ). Counted c.args.pins.now c.args.cycle c.args.counts.now c.loop-i.counts c.loop-i.next c.loop-i.moved m) start c.loop-i.invariant).next_is

pub returns-clause-moved : goal.returns-clause-moved
returns-clause-moved c = λ pin out. c.loop-i.invariant.same pin out
