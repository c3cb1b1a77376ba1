use Rattle.net_resolve.proofs.Common.{◌∙◌, ap, sym, subst, length, WholeView, IsResolution}
use Rattle.net_resolve.proofs.subcircuit.Subcircuit.new.Goals as goal

pub invariant_of-result : goal.invariant_of-result
invariant_of-result c =
    let late = sym c.first_resolution-2.ensures.same in
    let same = sym c.first_resolution.ensures.same ∙ late in
    record {
      nets_long = c.in_ok-nets.nets.ok.0 ∙ ap length c.in_ok-nets.ensures.items ∙ c.requires.nets ∙ ap (λ (x : WholeView). x.nets) same;
      pins_long = c.in_ok-pins.pins.ok.0 ∙ ap length c.in_ok-pins.ensures.items ∙ c.requires.pins ∙ ap (λ (x : WholeView). length x.net_of) same;
      contacts_long = c.in_ok-contacts.contacts.ok.0 ∙ ap length c.in_ok-contacts.ensures.items ∙ c.requires.contacts ∙ ap (λ (x : WholeView). length x.contacts) same;
      kept = record {
        first = subst (λ (w : WholeView). IsResolution w c.in_ok-first.first) same c.in_ok-first.ensures.found;
        second = subst (λ (w : WholeView). IsResolution w c.in_ok-second.second) late c.in_ok-second.ensures.found;
      };
    }
