use Rattle.std.proofs.Common.{◌∙◌, ◌<◌, ◌+◌, ap, arith, length, take, get_or, length-set, false}
use Rattle.std.proofs.lemmas.Option.{slice_get-get_or}
use Rattle.board_model.proofs.Lists.{take_set_more}
use Rattle.net_resolve.specs.NetsView.{NetsView}
use Rattle.live_probe.proofs.NetsLemmas.{more_closed}
use Rattle.live_probe.proofs.probe.set_contacts.Goals as goal

pub loop-contact-preserved : goal.loop-contact-preserved
loop-contact-preserved c =
    let l = c.loop-contact in
    let told = c.args.closed.now in
    let e = c.set_contact.ensures in
    let x = get_or told l.contact false in
    let inside : l.contact < length told = omega (arith, c.loop-contact-test.true, c.closed-contact-end.ensures.contacts, c.requires) in
    let there : l.contact < length l.nets.closed = omega (arith, c.loop-contact-test.true, l.invariant.long, ap length c.closed-contact-end.ensures.closed) in
    let now = ap (λ (v : NetsView). v.closed) e in
    record {
      rest = more_closed c.args.nets.now l.nets c.set_contact.new.self _ l.invariant.rest e;
      long = ap length now ∙ length-set l.nets.closed l.contact x ∙ l.invariant.long;
      filled = ap (take (l.contact + 1)) now ∙ take_set_more l.nets.closed told l.contact x there (slice_get-get_or told l.contact false inside) l.invariant.filled;
    }
