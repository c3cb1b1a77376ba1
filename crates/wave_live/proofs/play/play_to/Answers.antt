use Rattle.std.proofs.Common.{◌∙◌, ap, sym, refl}
use Rattle.vcd_text.specs.Writers.{Tied}
use Rattle.board_live.specs.LiveView.{rows_by, bytes_by}
use Rattle.wave_live.proofs.PlayLemmas.{broke_off}
use Rattle.wave_live.proofs.play.play_to.Goals as goal

pub returns-in-WriteFault-clause-broke : goal.returns-in-WriteFault-clause-broke
returns-in-WriteFault-clause-broke g c = λ _.
    let outside = g.B.Bench.outside in
    let w = c.run_to.new.out in
    let s = c.args.play.now.live in
    let n = c.args.n in
    let place = c.run_to.ensures.place ∙ c.again-writer.ensures.place in
    let final = c.bench-in-WriteFault-1.given.1 (sym (ap (λ (t : Tied). t.reference) place)) in
    let stopped = c.in-WriteFault.ensures.stopped refl in
    rw final (broke_off outside w _ (rows_by g.P.Part s n) (bytes_by g.P.Part s n) n stopped.front_rows stopped.front_bytes place stopped.are_fronts stopped.stopped)
