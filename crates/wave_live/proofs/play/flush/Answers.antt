use Rattle.std.proofs.Common.{◌∙◌, ap, sym, refl}
use Rattle.vcd_text.specs.Heads.{HeadState}
use Rattle.vcd_text.specs.Writers.{Tied, state_of}
use Rattle.board_live.specs.LiveView.{rows_by, bytes_by}
use Rattle.wave_live.specs.Plays.{HasWritten, writer_of}
use Rattle.wave_live.proofs.PlayLemmas.{written_as, all_written, broke_here}
use Rattle.wave_live.proofs.play.flush.Given.{Over}
use Rattle.wave_live.proofs.play.flush.Goals.{After-flush}
use Rattle.wave_live.proofs.play.flush.Goals as goal

-- the writer that was made again has written what was written
written : (g : Over) (c : After-flush g) → HasWritten g.P.Part c.args.play.now.live (state_of c.again-writer.result) (g.B.Bench.outside c.again-writer.result.start.now.value) (g.B.Bench.outside c.again-writer.result.bench.now)
written g c =
    let outside = g.B.Bench.outside in
    let w = c.again-writer.result in
    written_as g.P.Part c.args.play.now.live (state_of w) (writer_of c.args.play.now) (outside w.start.now.value) (outside w.bench.now) (outside c.args.start.now.value) (outside c.args.bench.now)
    c.again-writer.ensures.state (ap (λ (t : Tied). t.start) c.again-writer.ensures.place) c.again-writer.ensures.outside c.requires

pub returns-in-Ok-clause-wrote : goal.returns-in-Ok-clause-wrote
returns-in-Ok-clause-wrote g c = λ _.
    let outside = g.B.Bench.outside in
    let s = c.args.play.now.live in
    let made = rows_by g.P.Part s s.cycle in
    let sent = bytes_by g.P.Part s s.cycle in
    let w = c.flush.new.self in
    let place = c.flush.ensures.place ∙ c.again-writer.ensures.place in
    let final = c.bench-1.given.1 (sym (ap (λ (t : Tied). t.reference) place)) in
    let before = written g (goal.at.returns-in-Ok-clause-wrote g c).After-flush in
    rw final (all_written outside w _ made sent place (ap (λ (h : HeadState). h.text) c.flush.ensures.none_kept) ((c.in-Ok.ensures.ok refl).appended made sent before.stands))

pub returns-in-Failed-clause-broke : goal.returns-in-Failed-clause-broke
returns-in-Failed-clause-broke g c = λ _.
    let outside = g.B.Bench.outside in
    let s = c.args.play.now.live in
    let made = rows_by g.P.Part s s.cycle in
    let sent = bytes_by g.P.Part s s.cycle in
    let w = c.flush.new.self in
    let place = c.flush.ensures.place ∙ c.again-writer.ensures.place in
    let final = c.bench-in-Failed-1.given.1 (sym (ap (λ (t : Tied). t.reference) place)) in
    let before = written g (goal.at.returns-in-Failed-clause-broke g c).After-flush in
    rw final (broke_here outside w _ made sent place ((c.in-Failed.ensures.failed refl).1 made sent before.stands))
