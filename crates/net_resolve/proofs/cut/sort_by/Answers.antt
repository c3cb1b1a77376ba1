use Rattle.net_resolve.proofs.Common.{◌≡◌, ◌∙◌, ap, arith, sym, subst, ℕ, List, map, length, Some, slice_get, slice_index, ArePicked, labels_of, whole_of}
use Rattle.net_resolve.proofs.CutLemmas.{labels_below, net_labels_below, pair_labels_below}
use Rattle.net_resolve.proofs.WholeLemmas.{pairs_moved}
use Rattle.net_resolve.proofs.cut.sort_by.Goals as goal

pub sort_places-requires : goal.sort_places-requires
sort_places-requires c = labels_below c.args.labels c.requires.long c.requires.below c.as_slice-keys.result.now c.as_slice-keys.ensures

pub pin_labels-requires : goal.pin_labels-requires
pin_labels-requires c = λ k n e.
    omega (arith, c.requires.pins_within k n (subst (λ (ns : List ℕ). slice_get ns k ≡ Some n) c.as_slice.ensures e), ap length c.as_slice-keys.ensures, c.requires.long)

pub sort_places-requires-2 : goal.sort_places-requires-2
sort_places-requires-2 c =
    net_labels_below (whole_of c.args.wiring.now) c.args.labels c.requires c.deref.result.now
    (c.deref.ensures.value ∙ c.in_ok-pin_keys.ensures ∙ ap (λ (ns : List ℕ). map (slice_index c.as_slice-keys.result.now) ns) c.as_slice.ensures
    ∙ ap (λ (ls : List ℕ). map (slice_index ls) c.args.wiring.now.net_of) c.as_slice-keys.ensures)

pub pair_labels-requires : goal.pair_labels-requires
pair_labels-requires c = pairs_moved (sym c.as_slice-2.ensures) (sym (ap length c.as_slice-keys.ensures ∙ c.requires.long)) c.requires.contacts_within

pub sort_places-requires-3 : goal.sort_places-requires-3
sort_places-requires-3 c =
    let w = c.args.wiring.now in
    pair_labels_below c.args.labels c.requires.below w.contacts w.nets c.requires.contacts_within c.deref-2.result.now
    (c.deref-2.ensures.value ∙ c.in_ok-contact_keys.ensures ∙ ap (labels_of c.as_slice-keys.result.now) c.as_slice-2.ensures ∙ ap (λ (ls : List ℕ). labels_of ls w.contacts) c.as_slice-keys.ensures)

pub pair_labels-requires-2 : goal.pair_labels-requires-2
pair_labels-requires-2 c = pairs_moved (sym c.as_slice-3.ensures) (sym (ap length c.as_slice-keys.ensures ∙ c.requires.long)) c.requires.resistors_within

pub sort_places-requires-4 : goal.sort_places-requires-4
sort_places-requires-4 c =
    let w = c.args.wiring.now in
    pair_labels_below c.args.labels c.requires.below w.resistors w.nets c.requires.resistors_within c.deref-3.result.now
    (c.deref-3.ensures.value ∙ c.in_ok-resistor_keys.ensures ∙ ap (labels_of c.as_slice-keys.result.now) c.as_slice-3.ensures ∙ ap (λ (ls : List ℕ). labels_of ls w.resistors) c.as_slice-keys.ensures)

pub returns : goal.returns
returns c =
    let w = c.args.wiring.now in
    let same = c.as_slice-keys.ensures in
    let keys = c.as_slice-keys.result.now in
    record {
      cut = c.requires;
      nets = subst (λ (ks : List ℕ). ArePicked w.nets ks c.in_ok-nets.nets) same c.in_ok-nets.ensures;
      pins = subst (λ (ks : List ℕ). ArePicked w.nets ks c.in_ok-pins.pins)
          (c.deref.ensures.value ∙ c.in_ok-pin_keys.ensures ∙ ap (λ (ns : List ℕ). map (slice_index keys) ns) c.as_slice.ensures ∙ ap (λ (ls : List ℕ). map (slice_index ls) w.net_of) same) c.in_ok-pins.ensures;
      contacts = subst (λ (ks : List ℕ). ArePicked w.nets ks c.in_ok-contacts.contacts)
          (c.deref-2.ensures.value ∙ c.in_ok-contact_keys.ensures ∙ ap (labels_of keys) c.as_slice-2.ensures ∙ ap (λ (ls : List ℕ). labels_of ls w.contacts) same) c.in_ok-contacts.ensures;
      resistors = subst (λ (ks : List ℕ). ArePicked w.nets ks c.in_ok-resistors.resistors)
          (c.deref-3.ensures.value ∙ c.in_ok-resistor_keys.ensures ∙ ap (labels_of keys) c.as_slice-3.ensures ∙ ap (λ (ls : List ℕ). labels_of ls w.resistors) same) c.in_ok-resistors.ensures;
    }
