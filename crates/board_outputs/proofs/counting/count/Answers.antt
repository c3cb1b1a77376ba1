use Rattle.std.proofs.Common.{◌≡◌, ◌∙◌, ◌-◌, ◌+◌, ℕ, List, Option, [], length, map, ap, sym, subst, refl}
use Rattle.sim_base.specs.Rows.{Row}
use Rattle.text_model.specs.Wave.{wave_count, wave_text}
use Rattle.board_model.specs.Board.{bytes}
use Rattle.board_model.specs.Rows.{Shown, rows}
use Rattle.law_board.specs.Active.{active_pairs}
use Rattle.vcd_text.specs.Ports.{Leaves, BreaksOff}
use Rattle.vcd_text.specs.Writers.{Tied, texts_of, capped}
use Rattle.vcd_text.proofs.CallerLemmas.{stopped_within}
use Rattle.board_outputs.proofs.CountLemmas.{unwritten, unread, unbroken}
use Rattle.board_outputs.proofs.PlayLemmas.{from_zero}
use Rattle.board_outputs.proofs.counting.count.Goals as goal

pub returns-clause-changes : goal.returns-clause-changes
returns-clause-changes g c =
    let v = c.args.board.now in
    let made : List Row = rows g.P.Part.machine v.wiring v.inputs v.before (map g.P.Part.state v.parts) v.cycle (c.args.n - v.cycle) in
    let sent : List ℕ = bytes g.P.Part.machine v.wiring v.inputs (map g.P.Part.state v.parts) v.cycle (c.args.n - v.cycle) in
    let place = c.run.ensures.place ∙ c.new-writer.ensures.place in
    let stood = (c.in-Done.ensures.handed refl).appended [] [] c.new-writer.ensures.stands in
    from_zero (λ (before : Option Shown) t k. c.counts.result.0 ≡
    capped (wave_count c.args.head.now.variables (rows g.P.Part.machine v.wiring v.inputs before (map g.P.Part.state v.parts) t k)))
    v.cycle c.args.n v.before c.requires.start.cycle c.requires.start.before
    ((c.counts.ensures made sent stood).0 ∙ ap (λ (t : Tied). capped (wave_count t.variables made)) place)

pub returns-clause-sent : goal.returns-clause-sent
returns-clause-sent g c =
    let v = c.args.board.now in
    let made : List Row = rows g.P.Part.machine v.wiring v.inputs v.before (map g.P.Part.state v.parts) v.cycle (c.args.n - v.cycle) in
    let sent : List ℕ = bytes g.P.Part.machine v.wiring v.inputs (map g.P.Part.state v.parts) v.cycle (c.args.n - v.cycle) in
    let stood = (c.in-Done.ensures.handed refl).appended [] [] c.new-writer.ensures.stands in
    from_zero (λ (before : Option Shown) t k. c.counts.result.1 ≡ capped (length (bytes g.P.Part.machine v.wiring v.inputs (map g.P.Part.state v.parts) t k)))
    v.cycle c.args.n v.before c.requires.start.cycle c.requires.start.before (c.counts.ensures made sent stood).1

pub returns-clause-ports : goal.returns-clause-ports
returns-clause-ports g c =
    let outside = g.B.Bench.outside in
    let v = c.args.board.now in
    let sent : List ℕ = bytes g.P.Part.machine v.wiring v.inputs (map g.P.Part.state v.parts) v.cycle (c.args.n - v.cycle) in
    let place = c.run.ensures.place ∙ c.new-writer.ensures.place in
    let final = c.bench-1.given.1 (sym (ap (λ (t : Tied). t.reference) place)) in
    let stood = (c.in-Done.ensures.handed refl).appended [] [] c.new-writer.ensures.stands in
    let P : Tied → Type 0 = λ tied. Leaves (texts_of tied stood.gone sent) tied.start (outside c.bench-1.given.0) in
    let requests : (outside c.bench-1.given.0).requests ≡ (outside c.args.bench.now).requests = rw final (ap (λ (t : Tied). t.requests) place) in
    unwritten stood.gone sent (outside c.args.bench.now) (outside c.bench-1.given.0) requests (subst P place (rw final stood.leaves))

pub returns-clause-reads : goal.returns-clause-reads
returns-clause-reads g c =
    let outside = g.B.Bench.outside in
    let v = c.args.board.now in
    let sent : List ℕ = bytes g.P.Part.machine v.wiring v.inputs (map g.P.Part.state v.parts) v.cycle (c.args.n - v.cycle) in
    let place = c.run.ensures.place ∙ c.new-writer.ensures.place in
    let final = c.bench-1.given.1 (sym (ap (λ (t : Tied). t.reference) place)) in
    let stood = (c.in-Done.ensures.handed refl).appended [] [] c.new-writer.ensures.stands in
    let P : Tied → Type 0 = λ tied. Leaves (texts_of tied stood.gone sent) tied.start (outside c.bench-1.given.0) in
    unread stood.gone sent (outside c.args.bench.now) (outside c.bench-1.given.0) (subst P place (rw final stood.leaves))

pub returns-clause-steps : goal.returns-clause-steps
returns-clause-steps g c =
    let v = c.args.board.now in
    from_zero (λ (before : Option Shown) t k. c.run.new.steps ≡ c.args.steps.now + active_pairs g.P.Part.machine v.wiring v.inputs (map g.P.Part.state v.parts) t k)
    v.cycle c.args.n v.before c.requires.start.cycle c.requires.start.before (c.in-Done.ensures.steps refl)

pub unreachable-requires : goal.unreachable-requires
unreachable-requires g c =
    let outside = g.B.Bench.outside in
    let v = c.args.board.now in
    let made : List Row = rows g.P.Part.machine v.wiring v.inputs v.before (map g.P.Part.state v.parts) v.cycle (c.args.n - v.cycle) in
    let sent : List ℕ = bytes g.P.Part.machine v.wiring v.inputs (map g.P.Part.state v.parts) v.cycle (c.args.n - v.cycle) in
    let P : Tied → Type 0 = λ tied. BreaksOff (texts_of tied (wave_text tied.variables made c.args.n) sent) tied.start (outside c.run.new.out.bench.now) in
    unbroken (wave_text c.args.head.now.variables made c.args.n) sent (outside c.args.bench.now) (outside c.run.new.out.bench.now)
    (subst P c.new-writer.ensures.place
    (stopped_within outside c.new-writer.result c.run.new.out made sent c.args.n c.new-writer.ensures.stands c.run.ensures.place
    (c.in-WriteFault.ensures.failed refl).1))
