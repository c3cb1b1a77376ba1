-- No chip of two boards has contacts.
use Rattle.cli_twin.proofs.Common.{Plan, IsPlan, pins_of, any, Contents, starts, HaveNoContacts}
use Rattle.law_isolation.proofs.ChipLemmas.{quiet_chips, chips_begin}

pub free_of_contacts : (one two : Contents) (plan : Plan) → IsPlan (pins_of one.chips) plan → IsPlan (pins_of two.chips) plan →
    HaveNoContacts any plan.wiring (starts one plan.parts) (starts two plan.parts)
free_of_contacts one two plan is also = record {
  one = λ k s here at. quiet_chips.no_contacts s (chips_begin one plan is k s here at);
  other = λ k s here at. quiet_chips.no_contacts s (chips_begin two plan also k s here at);
}
