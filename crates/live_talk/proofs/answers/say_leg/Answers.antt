use Rattle.std.proofs.Common.{◌≡◌, ◌∙◌, ◌++◌, List, ℕ, length, ap, subst}
use Rattle.sim_base.specs.declared.bench.WriteEnd.TheVariants as writes
use Rattle.live_leg.specs.SentView.{SentView}
use Rattle.live_text.specs.Answer.{ok_text, block_text}
use Rattle.live_talk.specs.Says.{HasSpoken, HasFallenSilent, Says}
use Rattle.live_talk.proofs.SayLemmas.{then_said, silent_within}
use Rattle.live_talk.proofs.answers.say_leg.Goals as goal

pub returns-in-Ok-clause-says : goal.returns-in-Ok-clause-says
returns-in-Ok-clause-says g c =
    let outside = g.B.Bench.outside in
    let old = c.args.talk.now in
    let block = old.sent.bytes in
    let text = ok_text old.live.cycle (length block) c.args.words.now in
    let a = outside c.args.start.now.value in
    let b = outside c.args.bench.now in
    let m = outside c.tell.new.bench in
    let line : c.as_slice.result.now ≡ text = c.as_slice.ensures ∙ c.ok_line-line.ensures ∙ ap (λ (n : ℕ). ok_text n (length c.bytes.result.now) c.args.words.now) c.cycle.ensures.value ∙ ap (λ (n : ℕ). ok_text old.live.cycle n c.args.words.now) (ap (λ (l : List ℕ). length l) c.bytes.ensures) in
    then_said g.P.Part text (block_text block) c.say_sent_block.result old c.tell.new.talk c.say_sent_block.new.talk a b m (outside c.say_sent_block.new.bench)
    (subst (λ (l : List ℕ). HasSpoken g.P.Part l old c.tell.new.talk a b m) line c.in-Ok.ensures.says)
    (let spoken = c.in-Ok.ensures.says in subst (λ (l : List ℕ). Says g.P.Part (block_text l) c.say_sent_block.result c.tell.new.talk c.say_sent_block.new.talk a m (outside c.say_sent_block.new.bench)) (ap (λ (x : SentView). x.bytes) spoken.sent) c.say_sent_block.ensures.says)

pub returns-in-Failed-clause-says : goal.returns-in-Failed-clause-says
returns-in-Failed-clause-says g c =
    let outside = g.B.Bench.outside in
    let old = c.args.talk.now in
    let block = old.sent.bytes in
    let text = ok_text old.live.cycle (length block) c.args.words.now in
    let a = outside c.args.start.now.value in
    let b = outside c.args.bench.now in
    let m = outside c.tell.new.bench in
    let line : c.as_slice.result.now ≡ text = c.as_slice.ensures ∙ c.ok_line-line.ensures ∙ ap (λ (n : ℕ). ok_text n (length c.bytes.result.now) c.args.words.now) c.cycle.ensures.value ∙ ap (λ (n : ℕ). ok_text old.live.cycle n c.args.words.now) (ap (λ (l : List ℕ). length l) c.bytes.ensures) in
    silent_within g.P.Part old text (block_text block) a b m (subst (λ (l : List ℕ). HasFallenSilent g.P.Part l old a b m) line c.in-Failed.ensures.says)
