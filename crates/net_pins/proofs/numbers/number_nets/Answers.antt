use Rattle.std.proofs.Common.{◌≡◌, ℕ, length, refl, ap, ◌∙◌, arith}
use Rattle.board_model.specs.Walks.{below}
use Rattle.board_model.proofs.Lists.{length-below, lent_whole}
use Rattle.net_pins.specs.Numbering.{net_numbers, net_count}
use Rattle.net_pins.proofs.numbers.number_nets.Goals as goal

pub label_and_number-nets-requires-clause-few : goal.label_and_number-nets-requires-clause-few
label_and_number-nets-requires-clause-few c =
    let own : c.as_mut_slice.result.now ≡ below c.args.count = c.as_mut_slice.ensures.value ∙ c.in_ok-labels.ensures in
    let len = length-below c.args.count in
    rw own (omega arith)

pub label_and_number-nets-requires-clause-below : goal.label_and_number-nets-requires-clause-below
label_and_number-nets-requires-clause-below c =
    let own : c.as_mut_slice.result.now ≡ below c.args.count = c.as_mut_slice.ensures.value ∙ c.in_ok-labels.ensures in
    rw (own, length-below c.args.count) c.requires

pub returns : goal.returns
returns c =
    let pairs = c.args.pairs.now in
    let labels = c.in_ok-labels.labels in
    let numbers = c.label_and_number-nets.new.labels in
    let own : c.as_mut_slice.result.now ≡ below c.args.count = c.as_mut_slice.ensures.value ∙ c.in_ok-labels.ensures in
    let len : length c.as_mut_slice.result.now ≡ c.args.count = ap length own ∙ length-below c.args.count in
    let kept : length numbers ≡ length labels = c.label_and_number-nets.auto.labels ∙ ap length c.as_mut_slice.ensures.value in
    record {
      numbers = lent_whole (length labels) labels numbers refl kept ∙ c.label_and_number-nets.ensures.numbers ∙ ap (λ (n : ℕ). net_numbers pairs n) len;
      count = c.label_and_number-nets.ensures.count ∙ ap (λ (n : ℕ). net_count pairs n) len;
    }
