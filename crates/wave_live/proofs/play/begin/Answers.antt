use Rattle.std.proofs.Common.{◌∙◌, ap, sym}
use Rattle.vcd_text.specs.Heads.{HeadState}
use Rattle.vcd_text.specs.Writers.{Tied, state_of, marked}
use Rattle.wave_live.proofs.PlayLemmas.{written_first, written_as}
use Rattle.wave_live.proofs.play.begin.Goals as goal

-- The writer still holds the head and the bench that it was lent, so they end as it left them.
pub returns-clause-plays : goal.returns-clause-plays
returns-clause-plays g c =
    let outside = g.B.Bench.outside in
    let w = c.new-writer.result in
    let e = c.new-writer.ensures in
    let bench = c.bench-1.given.1 (sym (ap (λ (t : Tied). t.reference) e.place)) in
    let head = c.head-2-1.given.1 (sym (ap (λ (t : Tied). t.keeps) e.place)) in
    let mark = c.mark-mark.result in
    written_as g.P.Part c.args.live (marked c.head-2-1.given.0 mark) (state_of w) (outside c.args.start.now.value) (outside c.bench-1.given.0) (outside w.start.now.value) (outside w.bench.now)
    (ap (λ (h : HeadState). marked h mark) head ∙ c.mark-mark.ensures)
    (ap outside c.requires.lent ∙ sym (ap (λ (t : Tied). t.start) e.place))
    (ap outside bench)
    (written_first g.P.Part c.args.live (state_of w) (outside w.start.now.value) (outside w.bench.now) c.requires.cycle e.whole e.last e.stands)
