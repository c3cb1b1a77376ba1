use Rattle.std.proofs.Common.{◌≡◌, ◌∙◌, ◌+◌, ◌≤◌, [], List, ℕ, Ok, Err, true, false, None, map, ap, sym, subst, refl, arith, ◌++◌, Result}
use Rattle.sim_base.specs.declared.wiring.Input.{Input}
use Rattle.law_board.specs.Active.{active_pairs}
use Rattle.law_board.specs.Scripts.{with_input}
use Rattle.board_live.specs.LiveView.{LiveView, wakes_by}
use Rattle.live_request.specs.Views.{act_of}
use Rattle.live_text.specs.declared.answer.TheConstants.{OUT_OF_MEMORY}
use Rattle.live_text.specs.Answer.{ok_text, no_text, block_text}
use Rattle.live_talk.specs.Says.{Says}
use Rattle.live_leg.specs.Talks.{tied_of}
use Rattle.live_leg.specs.declared.talk.Talk.{Talk}
use Rattle.live_model.specs.Standing.{input_of}
use Rattle.live_model.specs.Talk.{Answer, acts, lacking, standing_after, text_of}
use Rattle.live_talk.specs.Answers.{standing_of, live_at}
use Rattle.live_talk.proofs.AnswerLemmas.{answered, refused, act_refused, act_lacks, act_given}
use Rattle.live_talk.proofs.requests.act.Goals as goal

pub returns-in-Err-clause-answers : goal.returns-in-Err-clause-answers
returns-in-Err-clause-answers g c =
    let outside = g.B.Bench.outside in
    let old = c.args.talk.now in
    let s = standing_of old.live in
    let found : Err c.in-Err.number ≡ input_of c.args.parts.now s.cycle (act_of c.args.act) =
    c.in-Err.ensures.gives ∙ ap (λ (n : ℕ). input_of c.args.parts.now n (act_of c.args.act)) c.cycle.ensures.value in (
      false,
      λ steps. refused g.P.Part (lacking false (acts c.args.parts.now s (act_of c.args.act))) old c.say_no.new.talk (outside c.args.start.now.value) (outside c.args.bench.now) (outside c.say_no.new.bench)
          steps c.in-Err.number c.say_no.result (act_refused c.args.parts.now s (act_of c.args.act) false c.in-Err.number found) c.say_no.ensures.says,
    )

pub returns-in-Ok-give-clause-answers : goal.returns-in-Ok-give-clause-answers
returns-in-Ok-give-clause-answers g c =
    let outside = g.B.Bench.outside in
    let old = c.args.talk.now in
    let mid = c.give.new.talk in
    let s = standing_of old.live in
    let act = act_of c.args.act in
    let x = lacking false (acts c.args.parts.now s act) in
    let found : Ok c.in-Ok.input ≡ input_of c.args.parts.now s.cycle act = c.in-Ok.ensures.gives ∙ ap (λ (n : ℕ). input_of c.args.parts.now n act) c.cycle.ensures.value in
    let is = act_given c.args.parts.now s act c.in-Ok.input found in
    let given = c.in-Ok-give.ensures.ok in
    let live : mid.live ≡ record old.live { inputs = with_input old.live.inputs c.in-Ok.input } = ap (λ (t : Talk _). t.live) given in
    let at : mid.live.cycle ≡ old.live.cycle = ap (λ (l : LiveView _). l.cycle) live in
    let pairs : List Input → ℕ = λ xs. active_pairs g.P.Part.machine old.live.wiring xs (map g.P.Part.state old.live.start) 0 old.live.cycle in
    let past = c.give.ensures.past old.live.cycle (omega arith) in
    let wakes : wakes_by g.P.Part mid.live mid.live.cycle ≡ wakes_by g.P.Part old.live old.live.cycle =
    ap (λ (l : LiveView _). wakes_by g.P.Part l l.cycle) live ∙ ap pairs (sym (ap (λ (l : LiveView _). l.inputs) live)) ∙ past.same_pairs in (
      false,
      λ steps. answered g.P.Part x old mid c.say_answer.new.talk (outside c.args.start.now.value) (outside c.args.bench.now) (outside c.args.bench.now) (outside c.say_answer.new.bench) steps steps
          (ok_text mid.live.cycle 0 [] ++ block_text []) c.say_answer.result
          (live ∙ ap (λ (r : Result Answer ℕ). live_at old.live (standing_after s r)) (sym is))
          (ap (λ (t : Talk _). tied_of t) given)
          (ap (λ (n : ℕ). ok_text n 0 [] ++ block_text []) at ∙ ap (text_of old.live.cycle) (sym is))
          refl (ap (λ (n : ℕ). steps + n) (sym wakes)) c.say_answer.ensures.says,
    )

pub returns-in-Err-give-clause-answers : goal.returns-in-Err-give-clause-answers
returns-in-Err-give-clause-answers g c =
    let outside = g.B.Bench.outside in
    let old = c.args.talk.now in
    let mid = c.give.new.talk in
    let s = standing_of old.live in
    let act = act_of c.args.act in
    let x = lacking true (acts c.args.parts.now s act) in
    let found : Ok c.in-Ok.input ≡ input_of c.args.parts.now s.cycle act = c.in-Ok.ensures.gives ∙ ap (λ (n : ℕ). input_of c.args.parts.now n act) c.cycle.ensures.value in
    let same = c.in-Err-give.ensures.err in
    let d = outside c.say_no-in-Err-give.new.bench in (
      true,
      λ steps. refused g.P.Part x old c.say_no-in-Err-give.new.talk (outside c.args.start.now.value) (outside c.args.bench.now) d steps OUT_OF_MEMORY c.say_no-in-Err-give.result
          (act_lacks c.args.parts.now s act c.in-Ok.input found)
          (subst (λ (t : Talk _). Says g.P.Part (no_text t.live.cycle OUT_OF_MEMORY) c.say_no-in-Err-give.result t c.say_no-in-Err-give.new.talk (outside c.args.start.now.value) (outside c.args.bench.now) d) same c.say_no-in-Err-give.ensures.says),
    )
