use Rattle.std.proofs.Common.{ℕ, List, Option, Ok, IfSome}
use Rattle.std.specs.Option.{option_map}
use Rattle.std.specs.Borrow.{Bor}
use Rattle.sim_outcome_model.specs.Stop.{printed}
use Rattle.sim_outcome_model.proofs.EndLemmas.{alone_ran}
use Rattle.sim_io.specs.Outcomes.{outcome_of}
use Rattle.wave_decode.specs.Frames.{frames_text}
use Rattle.cli_decode.specs.Answer.{DecodeAnswer, texts_by}
use Rattle.cli_decode.proofs.AnswerLemmas.{decode_answer, decode_stops}
use Rattle.cli_decode.proofs.decoding.decode.Goals as goal

pub returns-in-Ok-clause-ends : goal.returns-in-Ok-clause-ends
returns-in-Ok-clause-ends g c =
    let a = g.B.Bench.outside c.args.bench.now in
    let wave : List ℕ = c.args.wave.now in
    let first : List ℕ = c.args.first.now in
    let second : Option (List ℕ) = option_map (λ (s : Bor (List ℕ)). s.now) c.args.second in
    let is : IfSome a.files (λ files. DecodeAnswer wave first second c.args.bus files (Ok (texts_by c.args.bus c.in-Ok.levels))) =
    decode_answer wave first second c.args.bus a.files c.in-Ok.levels c.in-Ok.ensures.got.0 in
    alone_ran (DecodeAnswer wave first second c.args.bus) a (g.B.Bench.outside c.read_wave_lines.new.bench) (g.B.Bench.outside c.write_frames.new.bench) c.in-Ok.ensures.got.1 c.in-Ok.ensures.ports (outcome_of c.write_frames.result) (printed (frames_text c.args.bus c.in-Ok.levels)) is c.write_frames.ensures.ran c.write_frames.ensures.others

pub returns-in-Err-clause-ends : goal.returns-in-Err-clause-ends
returns-in-Err-clause-ends g c = decode_stops c.args.wave.now c.args.first.now (option_map (λ (s : Bor (List ℕ)). s.now) c.args.second) c.args.bus (outcome_of c.in-Err.outcome) _ _ c.in-Err.ensures.got c.in-Err.ensures.ports
