use Rattle.std.proofs.Common.{◌<◌, ◌++◌, length, arith}
use Rattle.std.specs.Prelude.{codes}
use Rattle.std.proofs.lemmas.Grind.{common_steps}
use Rattle.sim_base.specs.declared.bench.WriteEnd.TheVariants as writes
use Rattle.live_talk.proofs.SayLemmas.{then_said, silent_within, block_said}
use Rattle.live_talk.proofs.answers.say_block.Goals as goal

pub returns-in-Ok-clause-says : goal.returns-in-Ok-clause-says
returns-in-Ok-clause-says g c =
    let outside = g.B.Bench.outside in
    let block = c.args.block.now in
    let a = outside c.args.start.now.value in
    let b = outside c.args.bench.now in
    let d = outside c.tell-in-Ok.new.bench in
    let some : 0 < length block = grind (arith, common_steps, c.is_empty.ensures, c.if-is_empty.false) in
    block_said g.P.Part block c.tell-in-Ok.result c.args.talk.now c.tell-in-Ok.new.talk a b d some
    (then_said g.P.Part block (codes "\n") c.tell-in-Ok.result c.args.talk.now c.tell.new.talk c.tell-in-Ok.new.talk a b (outside c.tell.new.bench) d c.in-Ok.ensures.says c.tell-in-Ok.ensures.says)

pub returns-in-Failed-clause-says : goal.returns-in-Failed-clause-says
returns-in-Failed-clause-says g c =
    let outside = g.B.Bench.outside in
    let block = c.args.block.now in
    let a = outside c.args.start.now.value in
    let b = outside c.args.bench.now in
    let d = outside c.tell.new.bench in
    let some : 0 < length block = grind (arith, common_steps, c.is_empty.ensures, c.if-is_empty.false) in
    block_said g.P.Part block writes.Failed c.args.talk.now c.tell.new.talk a b d some
    (silent_within g.P.Part c.args.talk.now block (codes "\n") a b d c.in-Failed.ensures.says)
