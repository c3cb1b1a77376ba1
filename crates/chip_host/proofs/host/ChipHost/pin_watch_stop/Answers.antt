use Rattle.std.proofs.Common.{◌∙◌, None, refl}
use Rattle.chip_engines.proofs.PlaceLemmas.{none_kept}
use Rattle.chip_host.proofs.HostLemmas.{length_set}
use Rattle.chip_host.proofs.host.ChipHost.pin_watch_stop.Goals as goal

pub invariant_of-self : goal.invariant_of-self
invariant_of-self c =
    let i = c.self.invariant in
    let ws = c.self.inside.watches.items in
    record {
      few = i.few;
      levels = i.levels;
      pins = i.pins;
      watches = length_set ws c.args.i None ∙ i.watches;
      timer_room = i.timer_room;
      attribute_room = i.attribute_room;
      places = i.places;
      sound = i.sound;
      order = i.order;
      within = i.within;
      before = i.before;
      behind = i.behind;
      unwatched = λ e k. none_kept ws c.args.i k None (λ _. refl) (i.unwatched e k);
      end = i.end;
    }
