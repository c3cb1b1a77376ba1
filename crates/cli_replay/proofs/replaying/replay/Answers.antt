use Rattle.std.proofs.Common.{◌*◌, ℕ, List, Option}
use Rattle.sim_base.specs.Outside.{Outside}
use Rattle.sim_outcome_model.specs.Stop.{Texts}
use Rattle.sim_outcome_model.proofs.EndLemmas.{stops_counts}
use Rattle.sim_io.specs.Outcomes.{outcome_of}
use Rattle.cli_project.specs.Works.{script_path}
use Rattle.board_outputs.specs.Outputs.{outputs_of}
use Rattle.board_outputs.proofs.RanLemmas.{ran_ends, ran_said, ran_counts}
use Rattle.cli_replay.specs.Answer.{Play, PlayIn, RepeatAnswer, ReplayAnswer, replay_texts}
use Rattle.cli_replay.specs.Plays.{play_of}
use Rattle.cli_replay.proofs.RepeatLemmas.{repeat_answer, repeat_stops}
use Rattle.cli_replay.proofs.ReplayLemmas.{replay_answer, replay_stops}
use Rattle.cli_replay.proofs.replaying.replay.Goals as goal

pub returns-in-Ok : goal.returns-in-Ok
returns-in-Ok g c =
    let a : Outside = g.B.Bench.outside c.args.bench.now in
    let m : Outside = g.B.Bench.outside c.read_play.new.bench in
    let b : Outside = g.B.Bench.outside c.play_board.new.bench in
    let folder : List ℕ = c.args.scripted.folder.now in
    let wave : List ℕ = c.args.wave.now in
    let us : ℕ = c.args.micros in
    let script : Option (List ℕ) = script_path c.args.scripted in
    let out = outputs_of c.args.outputs in
    let play : Play = play_of c.in-Ok.play in
    let texts : Texts = replay_texts out (16 * us) play in
    let o = outcome_of c.play_board.result in
    let reads = c.in-Ok.ensures.got.1 in
    let same = c.in-Ok.ensures.ports in
    let ran = c.play_board.ensures.ran in
    let is = replay_answer folder wave us script out a.files play c.in-Ok.ensures.got.0 in
    let again = repeat_answer folder wave us script out a.files play c.in-Ok.ensures.repeated.0 in
    record {
      ends = ran_ends (ReplayAnswer folder wave us script out) texts a m b reads same o is ran;
      repeated = ran_ends (RepeatAnswer folder wave us script out) texts a m b reads same o again ran;
      counts = ran_counts (ReplayAnswer folder wave us script out) texts o a c.args.steps.now c.play_board.new.steps is c.play_board.ensures.steps;
      silent = ran_said (ReplayAnswer folder wave us script out) texts a m b reads same o ran;
    }

pub returns-in-Err-clause-ends : goal.returns-in-Err-clause-ends
returns-in-Err-clause-ends g c =
    let script : Option (List ℕ) = script_path c.args.scripted in
    replay_stops c.args.scripted.folder.now c.args.wave.now c.args.micros script (outputs_of c.args.outputs) (outcome_of c.in-Err.outcome) _ _ c.in-Err.ensures.got c.in-Err.ensures.ports

pub returns-in-Err-clause-repeated : goal.returns-in-Err-clause-repeated
returns-in-Err-clause-repeated g c =
    let script : Option (List ℕ) = script_path c.args.scripted in
    repeat_stops c.args.scripted.folder.now c.args.wave.now c.args.micros script (outputs_of c.args.outputs) (outcome_of c.in-Err.outcome) _ _ c.in-Err.ensures.repeated c.in-Err.ensures.ports

pub returns-in-Err-clause-counts : goal.returns-in-Err-clause-counts
returns-in-Err-clause-counts g c =
    let script : Option (List ℕ) = script_path c.args.scripted in
    stops_counts (ReplayAnswer c.args.scripted.folder.now c.args.wave.now c.args.micros script (outputs_of c.args.outputs)) (PlayIn c.args.scripted.folder.now c.args.wave.now script (16 * c.args.micros))
    (outcome_of c.in-Err.outcome) (g.B.Bench.outside c.args.bench.now) (g.B.Bench.outside c.read_play.new.bench) c.args.steps.now c.args.steps.now c.in-Err.ensures.got
