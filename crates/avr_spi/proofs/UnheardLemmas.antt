-- A change of levels of which the SPI takes no notice: SS does not fall, or is not watched.
use Rattle.std.proofs.Common.{◌≡◌, ◌∙◌, ℕ, List, [], false, ◌&&◌, not, sym, refl}
use Rattle.std.proofs.lemmas.Bool.{or_parts}
use Rattle.sim_base.specs.declared.signal.Level.{Level}
use Rattle.avr_unit.specs.Coming.{comes}
use Rattle.avr_unit.specs.Unheard.{UnheardFrom}
use Rattle.avr_unit.proofs.UnheardLemmas.{still_unheard}
use Rattle.avr_spi.specs.Shifter.{next_event}
use Rattle.avr_spi.specs.Spi.{Spi, spi, watches, ss_low, miso}
use Rattle.avr_spi.specs.SpiLaws.{quiet, quiet_by}

pub spi_unheard : (u : Spi) (t : ℕ) (before now : List Level) → (watches u && (ss_low now && not (ss_low before))) ≡ false → UnheardFrom spi u t before now
spi_unheard u t before now none =
    still_unheard spi (λ s t due. quiet s t [] due) u t before now (λ k. record {
      steps = λ due. let d = or_parts (comes (next_event u.shifter.transfer) k) (comes u.look k) due in
          quiet_by u k (ss_low before) (ss_low now) (miso now) d.0 d.1 none ∙ sym (quiet u k now due);
      requests = refl;
      rouses = refl;
    })
