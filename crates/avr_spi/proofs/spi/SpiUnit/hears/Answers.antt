use Rattle.std.proofs.Common.{◌∙◌, ◌&&◌, Bool, not, ap, sym}
use Rattle.avr_spi.specs.Spi.{watches, ss_low}
use Rattle.avr_spi.proofs.UnheardLemmas.{spi_unheard}
use Rattle.avr_spi.proofs.spi.SpiUnit.hears.Goals as goal

pub returns : goal.returns
returns c = λ none.
    let s = c.args.self.now in
    let before = c.args.before.now in
    let now = c.args.now.now in
    spi_unheard s.unit s.cycle before now
    (sym (ap (λ (b : Bool). b && (c.ss_low.result && not c.ss_low-2.result)) c.watches.ensures ∙ ap (λ (b : Bool). watches s.unit && (b && not c.ss_low-2.result)) c.ss_low.ensures
    ∙ ap (λ (b : Bool). watches s.unit && (ss_low now && not b)) c.ss_low-2.ensures) ∙ none)
