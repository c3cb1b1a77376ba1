use Rattle.std.proofs.Common.{◌≡◌, ◌∙◌, ℕ, List, Bool, None, Bor, map, subst}
use Rattle.std.specs.Prelude.{is_some}
use Rattle.sim_base.specs.Outside.{Outside}
use Rattle.text_model.specs.Wave.{wave_text}
use Rattle.board_model.specs.Board.{bytes}
use Rattle.board_model.specs.Rows.{rows}
use Rattle.law_board.specs.Active.{active_pairs}
use Rattle.vcd_text.specs.Ports.{texts, Writes}
use Rattle.board_outputs.specs.Outputs.{outputs_of}
use Rattle.board_outputs.specs.Run.{Outputs}
use Rattle.board_outputs.proofs.StageLemmas.{opened_wave, opened_both, wave_unopened, report_unopened, play_ends, is_named, still_opened}
use Rattle.board_outputs.proofs.playing.open_and_play.Goals as goal

pub returns-in-Failed-clause-wrote : goal.returns-in-Failed-clause-wrote
returns-in-Failed-clause-wrote g c = λ report.
    wave_unopened (outputs_of c.args.outputs) _ _ report _ (g.B.Bench.outside c.args.bench.now) (g.B.Bench.outside c.open_named.new.bench) c.in-Failed.ensures

pub returns-in-Failed-open_named-clause-wrote : goal.returns-in-Failed-open_named-clause-wrote
returns-in-Failed-open_named-clause-wrote g c = λ report.
    let a : Outside = g.B.Bench.outside c.args.bench.now in
    let out : Outputs = outputs_of c.args.outputs in
    let m : Outside = g.B.Bench.outside c.open_named.new.bench in
    report_unopened out _ _ report _ a m (g.B.Bench.outside c.open_named-2.new.bench) (opened_wave out _ a m c.in-Ok.ensures) c.in-Failed-open_named.ensures

pub returns-clause-wrote : goal.returns-clause-wrote
returns-clause-wrote g c =
    let a : Outside = g.B.Bench.outside c.args.bench.now in
    let out : Outputs = outputs_of c.args.outputs in
    let v = c.args.board.now in
    let n : ℕ = c.args.n in
    let ss : List g.P.Part.State = map g.P.Part.state v.parts in
    let text : List ℕ = wave_text c.args.head.now.variables (rows g.P.Part.machine v.wiring v.inputs None ss 0 n) n in
    let sent : List ℕ = bytes g.P.Part.machine v.wiring v.inputs ss 0 n in
    let wakes : ℕ = active_pairs g.P.Part.machine v.wiring v.inputs ss 0 n in
    let m : Outside = g.B.Bench.outside c.open_named.new.bench in
    let o : Outside = g.B.Bench.outside c.open_named-2.new.bench in
    let p : Outside = g.B.Bench.outside c.play.new.bench in
    let named = c.is_some-wave.ensures ∙ is_named (λ (f : Bor (List ℕ)). f.now) c.args.outputs.wave in
    let opened = opened_both out wakes a m o (opened_wave out wakes a m c.in-Ok.ensures) c.in-Ok-open_named.ensures in
    play_ends out text sent wakes a o p c.play.result opened (subst (λ (w : Bool). Writes c.play.result (texts w out.serial text sent) o p) named c.play.ensures.wrote)

pub returns-clause-opened : goal.returns-clause-opened
returns-clause-opened g c =
    still_opened (λ (f : Bor (List ℕ)). f.now) c.args.outputs.report _ _ _ (g.B.Bench.outside c.play.new.bench) c.play.result c.in-Ok-open_named.ensures c.play.ensures.wrote
