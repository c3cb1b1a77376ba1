use Rattle.net_resolve.proofs.Common.{◌≡◌, ◌∙◌, ℕ, List, length, map, arith, sym, ap, subst, Some, length-map, slice_get_within, slice_get, slice_index}
use Rattle.net_resolve.proofs.Common.{SubcircuitView, IsSubcircuit, AreOwn, own_pair, whole_of, WholeView}
use Rattle.std.proofs.lemmas.Result.{IfOk-weaker}
use Rattle.net_resolve.proofs.SubcircuitLemmas.{nets_once, net_labelled}
use Rattle.net_resolve.proofs.CutLemmas.{mapped_below, pairs_below, picked_length, places_within, own_nets_are, own_net_below, own_pairs_are, own_pair_below}
use Rattle.net_resolve.proofs.WholeLemmas.{pairs_moved}
use Rattle.net_resolve.proofs.cut.cut_out.Goals as goal

pub number-requires : goal.number-requires
number-requires c =
    let labels = c.args.sorted.now.labels in
    let are = c.requires.sorted.nets.each c.args.q c.list_at-nets.result.now c.list_at-nets.ensures in
    record {
      few = omega (arith, ap length are, picked_length c.args.q 0 labels, c.requires.sorted.cut.long, c.requires.few);
      within = λ i n e. let l = slice_get_within labels n c.args.q (net_labelled labels c.args.q c.list_at-nets.result.now are i n e) in
          omega (arith, l, c.requires.sorted.cut.long, c.requires.numbers);
      once = nets_once labels c.args.q c.list_at-nets.result.now are;
    }

pub own_nets-requires : goal.own_nets-requires
own_nets-requires c =
    let w = c.args.wiring.now in
    let are = c.requires.sorted.pins.each c.args.q c.list_at-pins.result.now c.list_at-pins.ensures in
    record {
      pins = λ j k e. omega (arith, places_within (slice_index c.args.sorted.now.labels) w.net_of c.args.q c.list_at-pins.result.now are j k e, ap length c.as_slice.ensures);
      nets = λ k n e. omega (arith, c.requires.wiring.pins k n (subst (λ (ns : List ℕ). slice_get ns k ≡ Some n) c.as_slice.ensures e), c.number.auto.numbers, c.requires.numbers);
    }

pub own_pairs-requires : goal.own_pairs-requires
own_pairs-requires c =
    let w = c.args.wiring.now in
    let are = c.requires.sorted.contacts.each c.args.q c.list_at-contacts.result.now c.list_at-contacts.ensures in
    record {
      places = λ j k e. omega (arith, places_within (λ (x : ℕ × ℕ). slice_index c.args.sorted.now.labels x.0) w.contacts c.args.q c.list_at-contacts.result.now are j k e, ap length c.as_slice-2.ensures);
      nets = pairs_moved (sym c.as_slice-2.ensures) (sym (c.number.auto.numbers ∙ c.requires.numbers)) c.requires.wiring.contacts;
    }

pub own_pairs-requires-2 : goal.own_pairs-requires-2
own_pairs-requires-2 c =
    let w = c.args.wiring.now in
    let are = c.requires.sorted.resistors.each c.args.q c.list_at-resistors.result.now c.list_at-resistors.ensures in
    record {
      places = λ j k e. omega (arith, places_within (λ (x : ℕ × ℕ). slice_index c.args.sorted.now.labels x.0) w.resistors c.args.q c.list_at-resistors.result.now are j k e, ap length c.as_slice-3.ensures);
      nets = pairs_moved (sym c.as_slice-3.ensures) (sym (c.number.auto.numbers ∙ c.requires.numbers)) c.requires.wiring.resistors;
    }

pub new-requires : goal.new-requires
new-requires c =
    let w = whole_of c.args.wiring.now in
    let labels = c.args.sorted.now.labels in
    let s = c.requires.sorted in
    let q = c.args.q in
    let nets = c.list_at-nets.result.now in
    let pins = c.list_at-pins.result.now in
    let contacts = c.list_at-contacts.result.now in
    let resistors = c.list_at-resistors.result.now in
    let numbers = c.number.new.numbers in
    let are = s.nets.each q nets c.list_at-nets.ensures in
    let long : length numbers ≡ w.nets = c.number.auto.numbers ∙ c.requires.numbers in
    record {
      few = omega (arith, ap length are, picked_length q 0 labels, s.cut.long, c.requires.few);
      pins = mapped_below (λ (k : ℕ). slice_index numbers (slice_index w.net_of k)) pins c.in_ok-net_of.net_of.items (length nets)
          (c.in_ok-net_of.ensures ∙ ap (λ (ns : List ℕ). map (λ (k : ℕ). slice_index numbers (slice_index ns k)) pins) c.as_slice.ensures)
          (own_net_below w labels s.cut q nets are numbers long c.number.ensures pins (s.pins.each q pins c.list_at-pins.ensures));
      contacts = pairs_below (own_pair numbers w.contacts) contacts c.in_ok-own_contacts.own_contacts.items (length nets)
          (c.in_ok-own_contacts.ensures ∙ ap (λ (ps : List (ℕ × ℕ)). map (own_pair numbers ps) contacts) c.as_slice-2.ensures)
          (own_pair_below w labels s.cut q nets are numbers long c.number.ensures w.contacts s.cut.contacts_within s.cut.contacts_joined contacts (s.contacts.each q contacts c.list_at-contacts.ensures));
      resistors = pairs_below (own_pair numbers w.resistors) resistors c.in_ok-own_resistors.own_resistors.items (length nets)
          (c.in_ok-own_resistors.ensures ∙ ap (λ (ps : List (ℕ × ℕ)). map (own_pair numbers ps) resistors) c.as_slice-3.ensures)
          (own_pair_below w labels s.cut q nets are numbers long c.number.ensures w.resistors s.cut.resistors_within s.cut.resistors_joined resistors (s.resistors.each q resistors c.list_at-resistors.ensures));
    }

pub new-requires-2 : goal.new-requires-2
new-requires-2 c =
    let made = c.in_ok-whole.ensures in
    record {
      nets = sym (ap (λ (w : WholeView). w.nets) made);
      pins = sym (ap (λ (w : WholeView). length w.net_of) made ∙ ap length c.in_ok-net_of.ensures ∙ length-map c.list_at-pins.result.now _);
      contacts = sym (ap (λ (w : WholeView). length w.contacts) made ∙ ap length c.in_ok-own_contacts.ensures ∙ length-map c.list_at-contacts.result.now _);
    }

pub returns : goal.returns
returns c =
    let w = whole_of c.args.wiring.now in
    let labels = c.args.sorted.now.labels in
    let s = c.requires.sorted in
    let q = c.args.q in
    let nets = c.list_at-nets.result.now in
    let pins = c.list_at-pins.result.now in
    let contacts = c.list_at-contacts.result.now in
    let resistors = c.list_at-resistors.result.now in
    let numbers = c.number.new.numbers in
    let nets_are = s.nets.each q nets c.list_at-nets.ensures in
    let pins_are = s.pins.each q pins c.list_at-pins.ensures in
    let contacts_are = s.contacts.each q contacts c.list_at-contacts.ensures in
    let resistors_are = s.resistors.each q resistors c.list_at-resistors.ensures in
    let long : length numbers ≡ w.nets = c.number.auto.numbers ∙ c.requires.numbers in
    let whole = c.in_ok-whole.whole in
    let made = c.in_ok-whole.ensures in
    let own_net_of : whole.net_of ≡ map (λ (k : ℕ). slice_index numbers (slice_index w.net_of k)) pins =
    ap (λ (x : WholeView). x.net_of) made ∙ c.in_ok-net_of.ensures ∙ ap (λ (ns : List ℕ). map (λ (k : ℕ). slice_index numbers (slice_index ns k)) pins) c.as_slice.ensures in
    let own_contacts : whole.contacts ≡ map (own_pair numbers w.contacts) contacts =
    ap (λ (x : WholeView). x.contacts) made ∙ c.in_ok-own_contacts.ensures ∙ ap (λ (ps : List (ℕ × ℕ)). map (own_pair numbers ps) contacts) c.as_slice-2.ensures in
    let own_resistors : whole.resistors ≡ map (own_pair numbers w.resistors) resistors =
    ap (λ (x : WholeView). x.resistors) made ∙ c.in_ok-own_resistors.ensures ∙ ap (λ (ps : List (ℕ × ℕ)). map (own_pair numbers ps) resistors) c.as_slice-3.ensures in
    let view : SubcircuitView = record { nets = nets; pins = pins; contacts = contacts; own_nets = whole.net_of; own_contacts = whole.contacts; own_resistors = whole.resistors } in
    let mine_resistors : AreOwn nets w.resistors resistors whole.resistors = subst (λ (l : List (ℕ × ℕ)). AreOwn nets w.resistors resistors l) (sym own_resistors)
    (own_pairs_are w labels s.cut q nets nets_are numbers long c.number.ensures w.resistors s.cut.resistors_within s.cut.resistors_joined resistors resistors_are) in
    let it : IsSubcircuit w labels q view = record {
      nets_are = nets_are;
      pins_are = pins_are;
      contacts_are = contacts_are;
      own_nets_are = ap (map (slice_get nets)) own_net_of ∙ own_nets_are w labels s.cut q nets nets_are numbers long c.number.ensures pins pins_are;
      own_contacts_are = subst (λ (l : List (ℕ × ℕ)). AreOwn nets w.contacts contacts l) (sym own_contacts)
          (own_pairs_are w labels s.cut q nets nets_are numbers long c.number.ensures w.contacts s.cut.contacts_within s.cut.contacts_joined contacts contacts_are);
      own_resistors_are = subst (λ (l : List ℕ). AreOwn nets w.resistors l whole.resistors) resistors_are mine_resistors;
    } in
    IfOk-weaker c.new-2.result _ _ (λ (v : SubcircuitView) e. subst (λ (x : SubcircuitView). IsSubcircuit w labels q x) (sym e) it) c.new-2.ensures

pub list_at-nets-requires : goal.list_at-nets-requires
list_at-nets-requires c = omega (arith, c.requires.q, c.requires.sorted.nets.long)

pub list_at-pins-requires : goal.list_at-pins-requires
list_at-pins-requires c = omega (arith, c.requires.q, c.requires.sorted.pins.long)

pub list_at-contacts-requires : goal.list_at-contacts-requires
list_at-contacts-requires c = omega (arith, c.requires.q, c.requires.sorted.contacts.long)

pub list_at-resistors-requires : goal.list_at-resistors-requires
list_at-resistors-requires c = omega (arith, c.requires.q, c.requires.sorted.resistors.long)
