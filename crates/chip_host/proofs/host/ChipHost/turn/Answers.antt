use Rattle.std.proofs.Common.{◌≡◌, ◌<◌, Some, None, List, Option, length, ap, sym, subst, ◌∙◌, arith}
use Rattle.std.specs.Prelude.{slice_get, slice_set}
use Rattle.std.proofs.lemmas.Option.{slice_get-get_or}
use Rattle.sim_base.specs.declared.signal.Level.{Level}
use Rattle.chip_engines.specs.declared.engine.Engine.{Engine}
use Rattle.chip_engines.specs.Engine.{HasNone}
use Rattle.chip_engines.specs.Turned.{HasTurnedAt}
use Rattle.chip_engines.proofs.EngineLemmas as engines
use Rattle.chip_engines.proofs.PlaceLemmas.{none_kept, none_turned}
use Rattle.chip_host.specs.Inventory.{HostState, left}
use Rattle.chip_host.specs.Turned.{HasTurned}
use Rattle.chip_host.proofs.HostLemmas.{length_set}
use Rattle.chip_host.proofs.TurnLemmas.{turned_at}
use Rattle.chip_host.proofs.host.ChipHost.turn.Goals as goal

pub turn_at-requires-clause-sound : goal.turn_at-requires-clause-sound
turn_at-requires-clause-sound c =
    let os = c.self.inside.engines.items in
    let o = c.index_mut.result.now in
    let less : c.args.place < length c.self.inside.engines.items = omega (arith, c.requires.within, c.self.invariant.places) in
    let at : slice_get c.self.inside.engines.items c.args.place ≡ Some c.index_mut.result.now = slice_get-get_or os c.args.place o less ∙ ap (λ (x : Option Engine). Some x) (sym c.index_mut.ensures.value) in
    engines.engine_at os c.args.place o c.self.invariant.sound at

pub invariant_of-self : goal.invariant_of-self
invariant_of-self c =
    let i = c.self.invariant in
    let os = c.self.inside.engines.items in
    let o = c.index_mut.result.now in
    let p = c.turn_at.new.place in
    let less : c.args.place < length c.self.inside.engines.items = omega (arith, c.requires.within, i.places) in
    let at : slice_get c.self.inside.engines.items c.args.place ≡ Some c.index_mut.result.now = slice_get-get_or os c.args.place o less ∙ ap (λ (x : Option Engine). Some x) (sym c.index_mut.ensures.value) in
    let empty : HasNone c.self.inside.engines.items c.args.place → c.turn_at.new.place ≡ None =
    none_turned os c.args.place c.self.inside.cycle c.args.before.now c.as_slice.result.now o p c.turn_at.result at c.turn_at.ensures.turned in
    record {
      few = i.few;
      levels = i.levels;
      pins = i.pins;
      watches = i.watches;
      timer_room = i.timer_room;
      attribute_room = i.attribute_room;
      places = length_set os c.args.place p ∙ i.places;
      sound = engines.set_engine os c.args.place p i.sound c.turn_at.ensures.sound;
      order = i.order;
      within = i.within;
      before = λ k l. none_kept os c.args.place k p empty (i.before k l);
      behind = λ k l. none_kept os c.args.place k p empty (i.behind k l);
      unwatched = i.unwatched;
      end = i.end;
    }

pub returns : goal.returns
returns c =
    let os = c.self.inside.engines.items in
    let o = c.index_mut.result.now in
    let p = c.turn_at.new.place in
    let less : c.args.place < length c.self.inside.engines.items = omega (arith, c.requires.within, c.self.invariant.places) in
    let at : slice_get c.self.inside.engines.items c.args.place ≡ Some c.index_mut.result.now = slice_get-get_or os c.args.place o less ∙ ap (λ (x : Option Engine). Some x) (sym c.index_mut.ensures.value) in
    let turned = subst (λ (ls : List Level). HasTurnedAt c.self.inside.cycle c.args.before.now ls o p c.turn_at.result) c.as_slice.ensures.value c.turn_at.ensures.turned in
    let h = c.args.self.now in
    let there : slice_get c.args.self.now.inventory.engines c.args.place ≡ Some c.index_mut.result.now = subst (λ (x : HostState). slice_get x.inventory.engines c.args.place ≡ Some o) c.self.view_is at in
    let gone = subst (λ (x : HostState). HasTurnedAt x.moment.now c.args.before.now x.moment.levels o p c.turn_at.result) c.self.view_is turned in
    subst (λ (r : HostState). HasTurned c.args.place c.args.before.now h r c.turn_at.result)
    (sym (ap (λ (x : HostState). left x (record x.inventory { engines = slice_set x.inventory.engines c.args.place p })) c.self.view_is)) (turned_at h c.args.place c.args.before.now o p c.turn_at.result there gone)
