use Rattle.std.proofs.Common.{◌∙◌, ℕ, Bool, ap}
use Rattle.avr_unit.specs.UnitMachine.{At}
use Rattle.avr_spi.specs.Spi.{Spi}
use Rattle.avr_spi.specs.SpiReach.{moved_since, moved_is}
use Rattle.avr_spi.proofs.spi.Spi.write_register.Goals as goal

pub returns-clause-moved : goal.returns-clause-moved
returns-clause-moved c =
    let a = c.args in
    let u = a.self.now.unit in
    let n = c.set_register.new.self.unit in
    c.moved_since.ensures
    ∙ ap (λ (k : ℕ). moved_since a.reg k c.mosi-mosi.result c.mosi.result) c.spcr.ensures
    ∙ ap (λ (b : Bool). moved_since a.reg n.spcr b c.mosi.result) c.mosi-mosi.ensures
    ∙ ap (λ (b : Bool). moved_since a.reg n.spcr u.shifter.mosi b) c.mosi.ensures
    ∙ ap (λ (y : At Spi). moved_since a.reg y.unit.spcr u.shifter.mosi y.unit.shifter.mosi) c.set_register.ensures
    ∙ moved_is u a.self.now.cycle a.value a.reg
