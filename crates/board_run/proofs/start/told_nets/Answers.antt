use Rattle.board_run.proofs.Common.{◌∙◌, sym, ap, arith, length, length-replicate, NetsView}
use Rattle.board_run.proofs.start.told_nets.Goals as goal

pub watch-requires : goal.watch-requires
watch-requires g c = c.in_ok-chips.ensures.each ∙ sym (ap (λ (x : NetsView). length x.wiring.net_of) c.tell_all.ensures.rest ∙ ap (λ (x : NetsView). length x.wiring.net_of) c.in_ok-nets.ensures)

pub tell_all-requires : goal.tell_all-requires
tell_all-requires g c =
    let fresh = c.in_ok-nets.ensures in
    let pins = ap (λ (x : NetsView). length x.wiring.net_of) fresh in
    let contacts = ap (λ (x : NetsView). length x.wiring.contacts) fresh in
    record {
      pins = pins ∙ c.requires.fits.pins;
      contacts = contacts ∙ c.requires.fits.contacts;
      few = (
        omega (arith, c.as_slice-net_of.type_inv.0, c.as_slice-net_of.type_inv.1, ap length c.as_slice-net_of.ensures, pins),
        omega (arith, c.as_slice-contacts.type_inv.0, c.as_slice-contacts.type_inv.1, ap length c.as_slice-contacts.ensures, contacts),
      );
      drives_long = ap (λ (x : NetsView). length x.drives) fresh ∙ length-replicate (length c.args.wiring.net_of) _ ∙ sym pins;
      closed_long = ap (λ (x : NetsView). length x.closed) fresh ∙ length-replicate (length c.args.wiring.contacts) _ ∙ sym contacts;
    }

pub returns : goal.returns
returns g c =
    let told = c.tell_all.ensures in
    let watched = c.watch.ensures in
    let fresh = c.in_ok-nets.ensures in
    record {
      told = record { drives_are = ap (λ (x : NetsView). x.drives) watched ∙ told.drives; closed_are = ap (λ (x : NetsView). x.closed) watched ∙ told.closed };
      wired = record {
        wiring = ap (λ (x : NetsView). x.wiring) watched ∙ ap (λ (x : NetsView). x.wiring) told.rest ∙ ap (λ (x : NetsView). x.wiring) fresh;
        levels_long = ap (λ (x : NetsView). length x.levels) watched ∙ ap (λ (x : NetsView). length x.levels) told.rest ∙ ap (λ (x : NetsView). length x.levels) fresh ∙ length-replicate c.args.wiring.nets _;
        watched = ap (λ (x : NetsView). x.watched) watched ∙ c.in_ok-chips.ensures.flags;
      };
    }
