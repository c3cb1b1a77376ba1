use Rattle.std.proofs.Common.{ℕ, length, sym, ap, ◌∙◌, arith, subst}
use Rattle.std.specs.List.{All}
use Rattle.net_pins.specs.Labels.{IsBelow}
use Rattle.net_pins.specs.Numbering.{net_numbers, net_count}
use Rattle.net_pins.proofs.NumberLemmas.{numbers_own, count_own, pairs_below}
use Rattle.net_pins.proofs.numbers.label_and_number.Goals as goal

pub label_pairs-requires-clause-pairs : goal.label_pairs-requires-clause-pairs
label_pairs-requires-clause-pairs c = pairs_below (length c.args.labels.now) c.args.pairs.now c.requires.below

pub returns : goal.returns
returns c =
    let labels = c.label_pairs.new.labels in
    let pairs = c.args.pairs.now in
    let inside = subst (λ (n : ℕ). All (IsBelow n) pairs) (sym c.label_pairs.auto.labels) c.requires.below in
    record {
      numbers = c.number.ensures.numbers ∙ sym (numbers_own pairs labels inside c.label_pairs.ensures) ∙ ap (λ (n : ℕ). net_numbers pairs n) c.label_pairs.auto.labels;
      count = c.number.ensures.count ∙ sym (count_own pairs labels inside c.label_pairs.ensures) ∙ ap (λ (n : ℕ). net_count pairs n) c.label_pairs.auto.labels;
    }

pub number-requires : goal.number-requires
number-requires c = record { few = omega (arith, c.requires.few, c.label_pairs.auto.labels); least = c.label_pairs.ensures.labels }
