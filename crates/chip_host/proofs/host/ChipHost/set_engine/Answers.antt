use Rattle.std.proofs.Common.{◌∙◌, Some, arith}
use Rattle.chip_engines.proofs.EngineLemmas as engines
use Rattle.chip_engines.proofs.PlaceLemmas.{none_before, none_behind}
use Rattle.chip_host.proofs.HostLemmas.{length_set}
use Rattle.chip_host.proofs.host.ChipHost.set_engine.Goals as goal

pub invariant_of-self : goal.invariant_of-self
invariant_of-self c =
    let i = c.self.invariant in
    record {
      few = i.few;
      levels = i.levels;
      pins = i.pins;
      watches = i.watches;
      timer_room = i.timer_room;
      attribute_room = i.attribute_room;
      places = length_set c.self.inside.engines.items c.args.place (Some c.args.engine) ∙ i.places;
      sound = engines.set_engine c.self.inside.engines.items c.args.place (Some c.args.engine) i.sound c.requires.sound;
      order = omega (arith, c.first_with-self-inside.ensures.within, c.max-self-inside.ensures);
      within = omega (arith, i.within, c.requires.within, c.max-self-inside.ensures);
      before = none_before c.self.inside.engines.items c.self.inside.first c.self.inside.end i.before i.behind c.args.place (Some c.args.engine) _ c.first_with-self-inside.ensures.within c.first_with-self-inside.ensures.far;
      behind = none_behind c.self.inside.engines.items c.self.inside.first c.self.inside.end i.before i.behind c.args.place (Some c.args.engine) _ (omega (arith, c.max-self-inside.ensures)) (omega (arith, c.max-self-inside.ensures));
      unwatched = i.unwatched;
      end = i.end;
    }
