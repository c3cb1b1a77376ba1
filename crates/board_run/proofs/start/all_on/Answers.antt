use Rattle.board_run.proofs.Common.{◌∙◌, sym, ap, length, subst, List, length-replicate, lent_whole, PartSet, AreOn}
use Rattle.board_run.proofs.start.all_on.Goals as goal

pub returns : goal.returns
returns c =
    let long = c.put_parts.auto.on ∙ ap length c.as_mut_slice.ensures.value in
    let whole = lent_whole c.in_ok-on.on.len c.in_ok-on.on.items c.put_parts.new.on c.in_ok-on.on.ok.0 long in
    record {
      long = ap length whole ∙ long ∙ ap length c.in_ok-on.ensures ∙ length-replicate c.args.wiring.now.nets _;
      on = subst (λ (l : List PartSet). AreOn c.args.wiring.now l) (sym whole) c.put_parts.ensures.on;
    }
