use Rattle.net_resolve.proofs.Common.{◌∙◌, length, arith, ap, sym, refl, lent_whole}
use Rattle.net_resolve.proofs.WholeLemmas.{pairs_moved, groups_moved}
use Rattle.net_resolve.proofs.whole.Whole.new.Goals as goal

pub group_nets-requires : goal.group_nets-requires
group_nets-requires c =
    let closed = c.in_ok-closed in
    let long = sym (ap length c.deref_mut.ensures.value ∙ sym c.in_ok-groups.groups.ok.0 ∙ c.in_ok-groups.ensures) in
    record {
      contacts = pairs_moved (sym c.deref.ensures.value) long c.requires.contacts;
      closed = omega (arith, ap length c.deref-2.ensures.value, closed.closed.ok.0, closed.ensures.len, c.len.ensures, c.args.contacts.ok.0, ap length c.deref.ensures.value);
      few = omega (arith, long, c.requires.few);
    }

pub invariant_of-result : goal.invariant_of-result
invariant_of-result c =
    let groups = c.in_ok-groups.groups in
    let long = c.in_ok-groups.ensures in
    let lent = lent_whole groups.len groups.items c.group_nets.new.groups groups.ok.0 (c.group_nets.auto.groups ∙ ap length c.deref_mut.ensures.value) in
    record {
      few = omega (arith, c.requires.few, long);
      pins_within = λ k n e. omega (arith, c.requires.pins k n e, long);
      contacts_within = pairs_moved refl (sym long) c.requires.contacts;
      resistors_within = pairs_moved refl (sym long) c.requires.resistors;
      grouped = groups_moved c.deref.ensures.value c.deref-2.ensures.value (sym lent) c.group_nets.ensures;
      closed_long = omega (arith, c.in_ok-closed.ensures.len, c.len.ensures, c.args.contacts.ok.0);
      room = record {
        strong = c.in_ok-room.ensures.strong ∙ sym long;
        bridges = omega (arith, c.in_ok-room.ensures.bridges, c.len-2.ensures, c.args.resistors.ok.0);
        areas = c.in_ok-room.ensures.areas ∙ sym long;
        sums = c.in_ok-room.ensures.sums ∙ sym long;
      };
    }
