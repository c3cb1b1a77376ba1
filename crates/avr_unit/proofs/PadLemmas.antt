-- What units ask of a pin together.
use Rattle.std.proofs.Common.{◌≡◌, refl, ap, sym}
use Rattle.std.proofs.Math.Bool.{or-false, or_assoc}
use Rattle.avr_unit.specs.Pad.{joined, untouched}
use Rattle.avr_unit.specs.declared.pad.Pad.{Pad}

-- with nothing it is what a unit asks
pub joined_none : (a : Pad) → joined a untouched ≡ a
joined_none a = rw (or-false a.ddr, or-false a.port, or-false a.ddoe, or-false a.ddov, or-false a.pvoe, or-false a.pvov) refl

-- one after another or two together
pub joined_more : (a b c : Pad) → joined a (joined b c) ≡ joined (joined a b) c
joined_more a b c =
    rw (sym (or_assoc a.ddr b.ddr c.ddr), sym (or_assoc a.port b.port c.port), sym (or_assoc a.ddoe b.ddoe c.ddoe), sym (or_assoc a.ddov b.ddov c.ddov), sym (or_assoc a.pvoe b.pvoe c.pvoe), sym (or_assoc a.pvov b.pvov c.pvov)) refl

pub below : (a : Pad) {c d : Pad} → c ≡ d → joined a c ≡ joined a d
below a e = ap (joined a) e
