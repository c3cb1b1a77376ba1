use Rattle.cli_twin.proofs.Common.{◌∙◌, ℕ, List, append-nil, subst, string_bytes, Outside, printed, RanOn, outcome_of, pair_of}
use Rattle.sim_base.specs.declared.bench.Port.TheVariants as ports
use Rattle.cli_twin.proofs.AnswerLemmas.{twin_counts, twin_ends, twin_stops}
use Rattle.cli_twin.proofs.running.twin.Goals as goal

pub returns-in-Ok-found_line-clause-ends : goal.returns-in-Ok-found_line-clause-ends
returns-in-Ok-found_line-clause-ends g c =
    let a : Outside = g.B.Bench.outside c.args.bench.now in
    let m : Outside = g.B.Bench.outside c.read_pair.new.bench in
    let b : Outside = g.B.Bench.outside c.write_text.new.bench in
    let o = outcome_of c.write_text.result in
    let said = append-nil c.as_bytes.result.now ∙ c.as_bytes.ensures.value in
    twin_ends c.args.folder.now c.args.other.now c.args.micros c.args.budget (pair_of c.in-Ok.pair) c.in-Ok.ensures.ready.sound_one.each c.in-Ok.ensures.ready.sound_other.each
    (string_bytes c.in-Ok-found_line.line) c.args.steps.now c.found_line.new.steps c.in-Ok-found_line.ensures.found o a m b c.in-Ok.ensures.got.0 c.in-Ok.ensures.got.1 c.in-Ok.ensures.ports
    (subst (λ (t : List ℕ). RanOn ports.Report o (printed t) m b) said c.write_text.ensures.ran) c.write_text.ensures.others

pub returns-in-Ok-found_line-clause-counts : goal.returns-in-Ok-found_line-clause-counts
returns-in-Ok-found_line-clause-counts g c =
    twin_counts c.args.folder.now c.args.other.now c.args.micros c.args.budget (pair_of c.in-Ok.pair) c.in-Ok.ensures.ready.sound_one.each c.in-Ok.ensures.ready.sound_other.each
    (string_bytes c.in-Ok-found_line.line) c.args.steps.now c.found_line.new.steps c.in-Ok-found_line.ensures.found (outcome_of c.write_text.result) (g.B.Bench.outside c.args.bench.now)
    c.in-Ok.ensures.got.0

pub returns-in-Err-clause-ends : goal.returns-in-Err-clause-ends
returns-in-Err-clause-ends g c =
    twin_stops c.args.folder.now c.args.other.now c.args.micros c.args.budget (outcome_of c.in-Err.end) (g.B.Bench.outside c.args.bench.now) (g.B.Bench.outside c.read_pair.new.bench)
    c.in-Err.ensures.got c.in-Err.ensures.ports
