use Rattle.net_resolve.proofs.Common.{◌≡◌, ◌∙◌, ℕ, List, sym, subst, IsCut, AreSubcircuits, whole_of}
use Rattle.net_resolve.proofs.nets.cut_wiring.Goals as goal

pub returns : goal.returns
returns c =
    let w = whole_of c.args.wiring.now in
    let same : c.in_ok-sorted.sorted.labels ≡ c.in_ok-labels.labels.items = sym (c.in_ok-labels.ensures.items ∙ c.as_slice.ensures) in
    record {
      cut = subst (λ (ls : List ℕ). IsCut w ls) same c.in_ok-sorted.ensures.cut;
      long = c.in_ok-subcircuits.ensures.long;
      subcircuits = subst (λ (ls : List ℕ). AreSubcircuits w ls c.in_ok-subcircuits.subcircuits.items) same c.in_ok-subcircuits.ensures.subcircuits;
    }
