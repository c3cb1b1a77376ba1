use Rattle.net_resolve.proofs.Common.{◌≡◌, ◌∙◌, ℕ, List, length, arith, sym, ap, subst, Some, slice_get, joined_by, lent_whole, joined_is, joins_is, IsCut}
use Rattle.net_resolve.proofs.Common.{whole_of}
use Rattle.net_union_find.proofs.ClassLemmas.{joins_keep, joins_same}
use Rattle.net_resolve.proofs.WholeLemmas.{pairs_moved}
use Rattle.net_resolve.proofs.cut.sort.Goals as goal

pub label_pairs-requires-clause-pairs : goal.label_pairs-requires-clause-pairs
label_pairs-requires-clause-pairs c =
    let long : length c.as_mut_slice-places.result.now ≡ c.args.wiring.now.nets = omega (arith, c.as_mut_slice-places.ensures.len, c.in_ok-labels.ensures) in
    pairs_moved (sym c.as_slice.ensures) (sym long) c.requires.contacts

pub join_pairs-requires-clause-labels : goal.join_pairs-requires-clause-labels
join_pairs-requires-clause-labels c = c.label_pairs.ensures.labels

pub join_pairs-requires-clause-pairs : goal.join_pairs-requires-clause-pairs
join_pairs-requires-clause-pairs c =
    let long : length c.label_pairs.new.labels ≡ c.args.wiring.now.nets = omega (arith, c.label_pairs.auto.labels, c.as_mut_slice-places.ensures.len, c.in_ok-labels.ensures) in
    pairs_moved (sym c.as_slice-2.ensures) (sym long) c.requires.resistors

pub sort_by-requires : goal.sort_by-requires
sort_by-requires c =
    let w = whole_of c.args.wiring.now in
    let first = c.label_pairs in
    let last = c.join_pairs in
    let long : length first.new.labels ≡ w.nets = omega (arith, first.auto.labels, c.as_mut_slice-places.ensures.len, c.in_ok-labels.ensures) in
    let it : IsCut w last.new.labels = record {
      long = last.auto.labels ∙ long;
      below = last.ensures.labels.forest;
      pins_within = c.requires.pins;
      contacts_within = c.requires.contacts;
      resistors_within = c.requires.resistors;
      contacts_joined = λ k d e.
          let at = c.requires.contacts k d e in
          let there = subst (λ (l : List (ℕ × ℕ)). slice_get l k ≡ Some d) (sym c.as_slice.ensures) e in
          joins_keep (joined_by c.as_slice-2.result.now) first.new.labels last.new.labels last.auto.labels first.ensures.labels last.ensures.labels last.ensures.joins
          d.0 d.1 (omega (arith, at.0, long)) (omega (arith, at.1, long)) (first.ensures.same d.0 d.1 (joined_is c.as_slice.result.now k d d.0 d.1 there (joins_is d)));
      resistors_joined = λ k d e.
          let at = c.requires.resistors k d e in
          let there = subst (λ (l : List (ℕ × ℕ)). slice_get l k ≡ Some d) (sym c.as_slice-2.ensures) e in
          joins_same (joined_by c.as_slice-2.result.now) first.new.labels last.new.labels last.auto.labels first.ensures.labels last.ensures.labels last.ensures.joins
          d.0 d.1 (omega (arith, at.0, long)) (omega (arith, at.1, long)) (joined_is c.as_slice-2.result.now k d d.0 d.1 there (joins_is d));
    } in
    let items = c.in_ok-labels.labels.items in
    let lent = lent_whole c.in_ok-labels.labels.len items last.new.labels (omega (arith, c.as_mut_slice-places.ensures.len, ap length c.as_mut_slice-places.ensures.value))
    (omega (arith, last.auto.labels, first.auto.labels, ap length c.as_mut_slice-places.ensures.value)) in
    subst (λ (l : List ℕ). IsCut w l) (sym (c.from_vec.ensures ∙ lent)) it
