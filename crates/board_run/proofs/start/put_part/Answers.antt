use Rattle.board_run.proofs.Common.{◌<◌, ◌∙◌, arith, ap, refl, get_or, length, ℕ, List, length-set, ◌||◌, ◌&&◌, ◌==◌, eqb, list_any, take_all, get_within}
use Rattle.board_run.proofs.Common.{has_part}
use Rattle.board_run.proofs.PartLemmas.{put_more}
use Rattle.board_run.proofs.start.put_part.Goals as goal

pub loop-j-preserved : goal.loop-j-preserved
loop-j-preserved c =
    let inv = c.loop-j.invariant in
    let j = c.loop-j.j in
    let n0 = get_or c.args.nets.now j 0 in
    let within : n0 < length c.loop-j.on = omega (arith, c.requires.nets j n0 (get_within c.args.nets.now j 0 c.loop-j-test.true), inv.long) in
    let was = get_or c.loop-j.on n0 (record { bits = 0 }) in
    record {
      long = length-set c.loop-j.on n0 c.with.result ∙ inv.long;
      on = λ n k a b ea eb. put_more c.loop-j.on c.args.nets.now c.args.i j n0 n k a b was c.with.result c.loop-j-test.true refl (get_within c.loop-j.on n0 (record { bits = 0 }) within) (c.with.ensures k) (λ x ex. inv.on n k a x ea ex) eb;
    }

pub returns : goal.returns
returns c = record {
  on = λ n k a b ea eb.
      c.loop-j.invariant.on n k a b ea eb ∙ ap (λ (l : List ℕ). has_part a k || ((k == c.args.i) && list_any (eqb n) l)) (take_all c.loop-j.j c.args.nets.now c.loop-j-test.false);
}
