use Rattle.std.proofs.Common.{◌∙◌}
use Rattle.avr_unit.proofs.PadLemmas.{below, joined_none}
use Rattle.avr_mcu.proofs.asking.pad_of.Goals as goal

pub returns : goal.returns
returns g c = λ l t h. c.asked.ensures l t h ∙ below _ c.untouched.ensures ∙ joined_none _
