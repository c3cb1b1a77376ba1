use Rattle.std.proofs.Common.{◌≡◌, ◌<◌, ◌++◌, ◌∙◌, List, ℕ, length, arith, ap, sym}
use Rattle.std.specs.Prelude.{codes, Bool}
use Rattle.std.proofs.lemmas.Grind.{common_steps}
use Rattle.sim_base.specs.declared.bench.WriteEnd.TheVariants as writes
use Rattle.live_talk.proofs.SayLemmas.{then_said, silent_within, block_said}
use Rattle.live_talk.proofs.answers.say_sent_block.Goals as goal

pub returns-in-Ok-clause-says : goal.returns-in-Ok-clause-says
returns-in-Ok-clause-says g c =
    let outside = g.B.Bench.outside in
    let block = c.args.talk.now.sent.bytes in
    let a = outside c.args.start.now.value in
    let b = outside c.args.bench.now in
    let d = outside c.tell.new.bench in
    let here : length c.bytes.result.now ≡ length block = ap (λ (l : List ℕ). length l) c.bytes.ensures in
    let some : 0 < length block = grind (arith, common_steps, c.is_empty.ensures, c.if-is_empty.false, here) in
    block_said g.P.Part block c.tell.result c.args.talk.now c.tell.new.talk a b d some
    (then_said g.P.Part block (codes "\n") c.tell.result c.args.talk.now c.tell_sent.new.talk c.tell.new.talk a b (outside c.tell_sent.new.bench) d c.in-Ok.ensures.says c.tell.ensures.says)

pub returns-in-Failed-clause-says : goal.returns-in-Failed-clause-says
returns-in-Failed-clause-says g c =
    let outside = g.B.Bench.outside in
    let block = c.args.talk.now.sent.bytes in
    let a = outside c.args.start.now.value in
    let b = outside c.args.bench.now in
    let d = outside c.tell_sent.new.bench in
    let here : length c.bytes.result.now ≡ length block = ap (λ (l : List ℕ). length l) c.bytes.ensures in
    let some : 0 < length block = grind (arith, common_steps, c.is_empty.ensures, c.if-is_empty.false, here) in
    block_said g.P.Part block writes.Failed c.args.talk.now c.tell_sent.new.talk a b d some
    (silent_within g.P.Part c.args.talk.now block (codes "\n") a b d c.in-Failed.ensures.says)
