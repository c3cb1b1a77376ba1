use Rattle.std.proofs.Common.{◌≡◌, ◌∙◌, ◌-◌, ◌+◌, [], List, ℕ, map, ap, sym, subst, refl}
use Rattle.sim_base.specs.Rows.{Row}
use Rattle.sim_base.specs.declared.bench.WriteEnd.TheVariants as writes
use Rattle.board_model.specs.Board.{bytes, states}
use Rattle.law_board.specs.Active.{active_pairs}
use Rattle.board_model.specs.Rows.{rows}
use Rattle.text_model.specs.Wave.{wave_text}
use Rattle.vcd_text.specs.Ports.{Writes, BreaksOff}
use Rattle.vcd_text.specs.Writers.{Tied, texts_of}
use Rattle.vcd_text.proofs.CallerLemmas.{stopped_within}
use Rattle.board_outputs.proofs.PlayLemmas.{from_start, from_zero}
use Rattle.board_outputs.proofs.playing.play.Goals as goal

-- The writer still holds the bench that it was lent, so the bench ends as the writer left it.
pub returns-in-Done-clause-wrote : goal.returns-in-Done-clause-wrote
returns-in-Done-clause-wrote g c =
    let outside = g.B.Bench.outside in
    let v = c.args.board.now in
    let made : List Row = rows g.P.Part.machine v.wiring v.inputs v.before (map g.P.Part.state v.parts) v.cycle (c.args.n - v.cycle) in
    let sent : List ℕ = bytes g.P.Part.machine v.wiring v.inputs (map g.P.Part.state v.parts) v.cycle (c.args.n - v.cycle) in
    let place = c.run.ensures.place ∙ c.new-writer.ensures.place in
    let final = c.bench-1.given.1 (sym (ap (λ (t : Tied). t.reference) (c.end.ensures.place ∙ place))) in
    let stood = (c.in-Done.ensures.handed refl).appended [] [] c.new-writer.ensures.stands in
    let P : Tied → Type 0 = λ tied. Writes c.end.result (texts_of tied (wave_text tied.variables made c.args.n) sent) tied.start (outside c.bench-1.given.0) in
    from_start g.P.Part.machine g.P.Part.state c.end.result c.args.wave c.args.serial c.args.head.now.variables v c.args.n (outside c.args.bench.now) (outside c.bench-1.given.0) c.requires.start.cycle c.requires.start.before
    (subst P place (rw final (c.end.ensures.ends made sent stood)))

pub returns-clause-wrote : goal.returns-clause-wrote
returns-clause-wrote g c =
    let outside = g.B.Bench.outside in
    let v = c.args.board.now in
    let made : List Row = rows g.P.Part.machine v.wiring v.inputs v.before (map g.P.Part.state v.parts) v.cycle (c.args.n - v.cycle) in
    let sent : List ℕ = bytes g.P.Part.machine v.wiring v.inputs (map g.P.Part.state v.parts) v.cycle (c.args.n - v.cycle) in
    let place = c.run.ensures.place ∙ c.new-writer.ensures.place in
    let final = c.bench-in-WriteFault-1.given.1 (sym (ap (λ (t : Tied). t.reference) place)) in
    let P : Tied → Type 0 = λ tied. BreaksOff (texts_of tied (wave_text tied.variables made c.args.n) sent) tied.start (outside c.bench-in-WriteFault-1.given.0) in
    from_start g.P.Part.machine g.P.Part.state writes.Failed c.args.wave c.args.serial c.args.head.now.variables v c.args.n (outside c.args.bench.now) (outside c.bench-in-WriteFault-1.given.0) c.requires.start.cycle c.requires.start.before
    (subst P c.new-writer.ensures.place (rw final (stopped_within outside c.new-writer.result c.run.new.out made sent c.args.n c.new-writer.ensures.stands c.run.ensures.place (c.in-WriteFault.ensures.failed refl).1)))

pub returns-in-Done-clause-ran : goal.returns-in-Done-clause-ran
returns-in-Done-clause-ran g c =
    let v = c.args.board.now in
    let start = c.requires.start in
    λ e. record {
      alive = c.in-Done.ensures.alive refl;
      parts =
          from_zero (λ before t k. map g.P.Part.state c.run.new.self.parts ≡ states g.P.Part.machine v.wiring v.inputs (map g.P.Part.state v.parts) t k)
          v.cycle c.args.n v.before start.cycle start.before (c.in-Done.ensures.states refl);
      wakes =
          from_zero (λ before t k. c.run.new.steps ≡ c.args.steps.now + active_pairs g.P.Part.machine v.wiring v.inputs (map g.P.Part.state v.parts) t k)
          v.cycle c.args.n v.before start.cycle start.before (c.in-Done.ensures.steps refl);
    }
