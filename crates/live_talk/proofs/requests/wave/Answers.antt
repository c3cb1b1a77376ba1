use Rattle.std.proofs.Common.{◌≡◌, ◌∙◌, ◌≤◌, ◌++◌, [], List, ℕ, Bool, true, false, length, Result, Ok, Err, ap, sym, refl, arith, ◌+◌}
use Rattle.std.specs.Prelude.{if◌then◌else◌}
use Rattle.std.specs.Fmt.{decimal}
use Rattle.sim_refusals.specs.Refusals.{RequestWave}
use Rattle.text_model.specs.Wave.{Variable, begun_text}
use Rattle.vcd_text.specs.Writers.{capped}
use Rattle.board_live.specs.LiveView.{LiveView, rows_by, wakes_by}
use Rattle.live_text.specs.Answer.{ok_text, block_text}
use Rattle.live_leg.specs.Talks.{TalkTied, tied_of}
use Rattle.live_model.specs.Standing.{Standing}
use Rattle.live_model.specs.Talk.{Answer, wave_length, worded, standing_after, text_of}
use Rattle.live_talk.specs.Answers.{standing_of, live_at}
use Rattle.live_talk.proofs.AnswerLemmas.{answered, failed, refused}
use Rattle.live_talk.proofs.requests.wave.Goals as goal

-- what is answered, where a wave is wanted or not
answer_is : (wanted : Bool) (text : List ℕ) (s : Standing) (b : Bool) → wanted ≡ b →
    wave_length wanted text s ≡ (if b then Ok (s, worded (decimal (capped (length text)))) else Err RequestWave)
answer_is wanted text s b e = ap (λ (x : Bool). if x then Ok (s, worded (decimal (capped (length text)))) else Err RequestWave) e

pub returns-then-not-wanted-clause-answers : goal.returns-then-not-wanted-clause-answers
returns-then-not-wanted-clause-answers g c = λ steps.
    let outside = g.B.Bench.outside in
    let old = c.args.talk.now in
    let text = begun_text old.head.variables (rows_by g.P.Part old.live old.live.cycle) in
    refused g.P.Part (wave_length c.args.wanted text (standing_of old.live)) old c.say_no.new.talk (outside c.args.start.now.value) (outside c.args.bench.now) (outside c.say_no.new.bench) steps RequestWave c.say_no.result
    (answer_is c.args.wanted text (standing_of old.live) false c.if-not-wanted.true) c.say_no.ensures.says

pub returns-in-Failed-clause-answers : goal.returns-in-Failed-clause-answers
returns-in-Failed-clause-answers g c = λ steps.
    let outside = g.B.Bench.outside in
    let old = c.args.talk.now in
    let text = begun_text old.head.variables (rows_by g.P.Part old.live old.live.cycle) in
    let x = wave_length c.args.wanted text (standing_of old.live) in
    let is = answer_is c.args.wanted text (standing_of old.live) true c.if-not-wanted.false in
    let same = ap (λ (r : Result Answer ℕ). standing_after (standing_of old.live) r) is in
    let at : (standing_after (standing_of old.live) x).cycle ≡ old.live.cycle = ap (λ (s : Standing). s.cycle) same in
    failed g.P.Part x old old.live.cycle (outside c.args.start.now.value) (outside c.args.bench.now) (outside c.flush.new.bench) (omega (arith, at)) (ap (λ (s : Standing). s.inputs) same)
    (c.in-Failed.ensures.broke refl)

pub returns-clause-answers : goal.returns-clause-answers
returns-clause-answers g c = λ steps.
    let outside = g.B.Bench.outside in
    let old = c.args.talk.now in
    let mid = c.flush.new.talk in
    let s = standing_of old.live in
    let a = outside c.args.start.now.value in
    let b = outside c.args.bench.now in
    let m = outside c.flush.new.bench in
    let text = begun_text old.head.variables (rows_by g.P.Part old.live old.live.cycle) in
    let x = wave_length c.args.wanted text s in
    let want = c.if-not-wanted.false in
    let is = answer_is c.args.wanted text s true want in
    let live = c.flush.ensures.live in
    let tied = c.in-Ok.ensures.tied refl in
    let shown : begun_text mid.head.variables (rows_by g.P.Part mid.live mid.live.cycle) ≡ text =
    ap (λ (l : LiveView _). begun_text mid.head.variables (rows_by g.P.Part l l.cycle)) live ∙ ap (λ (t : TalkTied). begun_text t.variables (rows_by g.P.Part old.live old.live.cycle)) tied in
    let wanted : (tied_of mid).wave ≡ true = ap (λ (t : TalkTied). t.wave) tied ∙ sym c.requires.wanted ∙ want in
    let long : c.wave_length.result ≡ capped (length text) = c.wave_length.ensures a m (c.in-Ok.ensures.talks refl) wanted ∙ ap (λ (l : List ℕ). capped (length l)) shown in
    let words : c.as_slice.result.now ≡ decimal (capped (length text)) = c.as_slice.ensures ∙ c.number_line.ensures.text ∙ ap decimal long in
    answered g.P.Part x old mid c.say_answer.new.talk a b m (outside c.say_answer.new.bench) steps steps
    (ok_text mid.live.cycle 0 c.as_slice.result.now ++ block_text []) c.say_answer.result
    (live ∙ ap (λ (r : Result Answer ℕ). live_at old.live (standing_after s r)) (sym is)) tied
    (ap (λ (l : LiveView _). ok_text l.cycle 0 c.as_slice.result.now ++ block_text []) live
    ∙ ap (λ (w : List ℕ). ok_text old.live.cycle 0 w ++ block_text []) words ∙ ap (text_of old.live.cycle) (sym is))
    (c.in-Ok.ensures.said refl) (ap (λ (l : LiveView _). steps + wakes_by g.P.Part l l.cycle) (sym live)) c.say_answer.ensures.says
