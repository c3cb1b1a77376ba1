use Rattle.std.proofs.Common.{◌≡◌, ◌∙◌, ◌<◌, ◌≤◌, List, ℕ, Result, Ok, Err, map, ap, sym, refl, arith}
use Rattle.std.specs.Prelude.{min}
use Rattle.std.specs.Fmt.{decimal}
use Rattle.sim_base.specs.declared.limits.TheConstants.{MOST_CYCLES}
use Rattle.sim_refusals.specs.Refusals.{RequestPast}
use Rattle.text_model.specs.Wave.{Variable}
use Rattle.board_live.specs.LiveView.{bytes_by}
use Rattle.live_request.specs.Views.{condition_of}
use Rattle.live_probe.specs.Levels.{value_in}
use Rattle.live_model.specs.Leg.{Wait, waits_for, leg_end}
use Rattle.live_model.specs.Talk.{Answer, ran_to, run}
use Rattle.live_talk.specs.Waiting.{wait_of}
use Rattle.live_talk.specs.Answers.{standing_of}
use Rattle.live_talk.proofs.AnswerLemmas.{refused, run_refused, run_past, run_ends, ran, broke_off}
use Rattle.live_talk.proofs.requests.run.Goals as goal

pub returns-in-Err-clause-answers : goal.returns-in-Err-clause-answers
returns-in-Err-clause-answers g c =
    let outside = g.B.Bench.outside in
    let old = c.args.talk.now in
    let s = standing_of old.live in
    let value = value_in g.P.Part old.live in
    let sent = bytes_by g.P.Part old.live in
    let vars = old.head.variables in
    let conds = map condition_of c.args.conditions.now in
    let a = outside c.args.start.now.value in
    let b = outside c.args.bench.now in
    let found : Err c.in-Err.number ≡ waits_for vars conds = c.in-Err.ensures ∙ ap (λ (vs : List Variable). waits_for vs conds) c.variables.ensures in
    refused g.P.Part (run value sent vars s c.args.until conds) old c.say_no.new.talk a b (outside c.say_no.new.bench) c.args.steps.now c.in-Err.number c.say_no.result
    (run_refused value sent vars s c.args.until conds c.in-Err.number found) c.say_no.ensures.says

pub returns-then-until-cycle-clause-answers : goal.returns-then-until-cycle-clause-answers
returns-then-until-cycle-clause-answers g c =
    let outside = g.B.Bench.outside in
    let old = c.args.talk.now in
    let s = standing_of old.live in
    let value = value_in g.P.Part old.live in
    let sent = bytes_by g.P.Part old.live in
    let vars = old.head.variables in
    let conds = map condition_of c.args.conditions.now in
    let a = outside c.args.start.now.value in
    let b = outside c.args.bench.now in
    let ws = map wait_of c.in-Ok.waits.items in
    let found : Ok ws ≡ waits_for vars conds = c.in-Ok.ensures ∙ ap (λ (vs : List Variable). waits_for vs conds) c.variables.ensures in
    let cap : c.min-until.result ≡ min c.args.until MOST_CYCLES = c.min-until.ensures in
    let here = c.cycle.ensures.value in
    let test = c.if-until-cycle.true in
    refused g.P.Part (run value sent vars s c.args.until conds) old c.say_no-then-until-cycle.new.talk a b (outside c.say_no-then-until-cycle.new.bench) c.args.steps.now RequestPast c.say_no-then-until-cycle.result
    (run_past value sent vars s c.args.until conds ws found (omega (arith, test, cap, here))) c.say_no-then-until-cycle.ensures.says

pub returns-in-Some-clause-answers : goal.returns-in-Some-clause-answers
returns-in-Some-clause-answers g c =
    let outside = g.B.Bench.outside in
    let old = c.args.talk.now in
    let s = standing_of old.live in
    let value = value_in g.P.Part old.live in
    let sent = bytes_by g.P.Part old.live in
    let vars = old.head.variables in
    let conds = map condition_of c.args.conditions.now in
    let a = outside c.args.start.now.value in
    let b = outside c.args.bench.now in
    let ws = map wait_of c.in-Ok.waits.items in
    let found : Ok ws ≡ waits_for vars conds = c.in-Ok.ensures ∙ ap (λ (vs : List Variable). waits_for vs conds) c.variables.ensures in
    let cap : c.min-until.result ≡ min c.args.until MOST_CYCLES = c.min-until.ensures in
    let here = c.cycle.ensures.value in
    let test = c.if-until-cycle.false in
    let slice = c.as_slice.ensures.value in
    let Ran : ℕ → List Wait → Result Answer ℕ = λ n l. Ok (ran_to value sent vars s l (leg_end value sent s.cycle n l)) in
    let is = run_ends value sent vars s c.args.until conds ws found (omega (arith, test, cap, here)) ∙ ap (λ (n : ℕ). Ran n ws) (sym cap) ∙ ap (λ (l : List _). Ran c.min-until.result (map wait_of l)) (sym slice) in
    ran g.P.Part old (map wait_of c.as_slice.result.now) c.min-until.result vars c.leg.new.talk c.say_leg.new.talk (run value sent vars s c.args.until conds) c.in-Some.number c.as_slice-in-Some.result.now
    a b (outside c.leg.new.bench) (outside c.say_leg.new.bench) c.args.steps.now c.leg.new.steps c.say_leg.result is (c.in-Some.ensures.ran _ refl)
    (c.as_slice-in-Some.ensures ∙ c.number_line.ensures.text ∙ ap decimal c.from.ensures) c.say_leg.ensures.says

pub returns-in-None-clause-answers : goal.returns-in-None-clause-answers
returns-in-None-clause-answers g c =
    let outside = g.B.Bench.outside in
    let old = c.args.talk.now in
    let s = standing_of old.live in
    let value = value_in g.P.Part old.live in
    let sent = bytes_by g.P.Part old.live in
    let vars = old.head.variables in
    let conds = map condition_of c.args.conditions.now in
    let a = outside c.args.start.now.value in
    let b = outside c.args.bench.now in
    let ws = map wait_of c.in-Ok.waits.items in
    let found : Ok ws ≡ waits_for vars conds = c.in-Ok.ensures ∙ ap (λ (vs : List Variable). waits_for vs conds) c.variables.ensures in
    let cap : c.min-until.result ≡ min c.args.until MOST_CYCLES = c.min-until.ensures in
    let here = c.cycle.ensures.value in
    let test = c.if-until-cycle.false in
    let slice = c.as_slice.ensures.value in
    let Ran : ℕ → List Wait → Result Answer ℕ = λ n l. Ok (ran_to value sent vars s l (leg_end value sent s.cycle n l)) in
    let is = run_ends value sent vars s c.args.until conds ws found (omega (arith, test, cap, here)) ∙ ap (λ (n : ℕ). Ran n ws) (sym cap) ∙ ap (λ (l : List _). Ran c.min-until.result (map wait_of l)) (sym slice) in
    broke_off g.P.Part old (map wait_of c.as_slice.result.now) c.min-until.result vars (run value sent vars s c.args.until conds) c.leg.new.talk a b (outside c.leg.new.bench) is (c.in-None.ensures.broke refl)
