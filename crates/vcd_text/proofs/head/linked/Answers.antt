use Rattle.std.proofs.Common.{◌≡◌, ◌<◌, ◌∙◌, ℕ, ap, refl, sym, subst, length}
use Rattle.std.proofs.lemmas.List.{length-replicate}
use Rattle.vcd_text.proofs.HeadLemmas.{lent, all_same, chains_moved}
use Rattle.vcd_text.proofs.head.linked.Goals as goal

pub link_all-requires : goal.link_all-requires
link_all-requires c =
    let first = c.deref_mut.ensures.value ∙ c.in_ok-first.ensures in
    let count : length c.deref_mut.result.now ≡ c.count_nets.result = ap length first ∙ length-replicate c.count_nets.result (length c.args.variables.now) in
    record {
      few = c.requires;
      long = ap length (c.deref_mut-2.ensures.value ∙ c.in_ok-next.ensures) ∙ length-replicate (length c.args.variables.now) 0;
      nets = λ k n e. subst (λ (m : ℕ). n < m) (sym count) (c.count_nets.ensures k n e);
      blank = λ n less. all_same c.deref_mut.result.now c.count_nets.result n (length c.args.variables.now) first (subst (λ (m : ℕ). n < m) count less);
    }

pub returns-clause-chains : goal.returns-clause-chains
returns-clause-chains c =
    let f = c.in_ok-first.first in
    let n = c.in_ok-next.next in
    chains_moved refl (sym (lent f.len f.items c.link_all.new.first f.ok.0 (c.link_all.auto.first ∙ ap length c.deref_mut.ensures.value)))
    (sym (lent n.len n.items c.link_all.new.next n.ok.0 (c.link_all.auto.next ∙ ap length c.deref_mut-2.ensures.value))) c.link_all.ensures
