use Rattle.std.proofs.Common.{◌≡◌, ◌∙◌, ap, refl, length, List, ℕ}
use Rattle.net_pins.proofs.BoundLemmas.{length-net_numbers}
use Rattle.board_build.proofs.wiring.wiring.Goals as goal

pub nets_inside-requires-clause-below : goal.nets_inside-requires-clause-below
nets_inside-requires-clause-below c =
    let long : length c.as_slice-net_of.result.now ≡ c.args.count =
    ap (λ (l : List ℕ). length l) (c.as_slice-net_of.ensures ∙ c.in_ok-numbers.ensures.numbers) ∙ length-net_numbers c.as_slice-2.result.now c.args.count in
    rw (c.as_slice-3.ensures, long) c.requires.contacts

pub nets_inside-requires-2-clause-below : goal.nets_inside-requires-2-clause-below
nets_inside-requires-2-clause-below c =
    let long : length c.as_slice-net_of.result.now ≡ c.args.count =
    ap (λ (l : List ℕ). length l) (c.as_slice-net_of.ensures ∙ c.in_ok-numbers.ensures.numbers) ∙ length-net_numbers c.as_slice-2.result.now c.args.count in
    rw (c.as_slice-4.ensures, long) c.requires.resistors

pub returns : goal.returns
returns c =
    rw (
      c.in_ok-contacts.ensures,
      c.in_ok-resistors.ensures,
      c.in_ok-chip.ensures,
      c.as_slice-net_of.ensures,
      c.in_ok-numbers.ensures.numbers,
      c.in_ok-numbers.ensures.count,
      c.as_slice-2.ensures,
      c.in_ok-add_inside.ensures,
      c.as_slice.ensures,
      c.as_slice-3.ensures,
      c.as_slice-4.ensures,
    ) refl
