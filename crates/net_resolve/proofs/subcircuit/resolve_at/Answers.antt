use Rattle.net_resolve.proofs.Common.{◌∙◌, ap, sym, length, map, Some, List, Bool, lent_whole, Drive}
use Rattle.net_resolve.proofs.ResolutionLemmas.{levels_same}
use Rattle.net_resolve.proofs.subcircuit.resolve_at.Goals as goal

pub gather-requires-clause-room : goal.gather-requires-clause-room
gather-requires-clause-room c =
    ap length c.deref_mut.ensures.value ∙ sym c.args.found.now.drives.ok.0 ∙ c.requires.found.drives_long ∙ sym c.requires.places.pins_long

pub gather-requires-2-clause-room : goal.gather-requires-2-clause-room
gather-requires-2-clause-room c =
    ap length c.deref_mut-2.ensures.value ∙ sym c.args.found.now.closed.ok.0 ∙ c.requires.found.closed_long ∙ sym c.requires.places.contacts_long

pub resolve-requires : goal.resolve-requires
resolve-requires c =
    let a = c.args.found.now in
    let drives = lent_whole a.drives.len a.drives.items c.gather.new.into a.drives.ok.0 (c.gather.auto.into ∙ ap length c.deref_mut.ensures.value) in
    let closed = lent_whole a.closed.len a.closed.items c.gather-2.new.into a.closed.ok.0 (c.gather-2.auto.into ∙ ap length c.deref_mut-2.ensures.value) in
    record {
      drives = ap length (c.deref.ensures.value ∙ drives) ∙ c.gather.auto.into ∙ ap length c.deref_mut.ensures.value ∙ sym a.drives.ok.0 ∙ c.requires.found.drives_long;
      closed = ap length (c.deref-2.ensures.value ∙ closed) ∙ c.gather-2.auto.into ∙ ap length c.deref_mut-2.ensures.value ∙ sym a.closed.ok.0 ∙ c.requires.found.closed_long;
      levels = ap length c.deref_mut-3.ensures.value ∙ sym a.levels.ok.0 ∙ c.requires.found.levels_long;
    }

pub returns-clause-found : goal.returns-clause-found
returns-clause-found c =
    let a = c.args.found.now in
    record {
      drives_long = c.requires.found.drives_long;
      closed_long = c.requires.found.closed_long;
      levels_long = c.requires.found.levels_long;
      levels_are = lent_whole a.levels.len a.levels.items c.resolve.new.levels a.levels.ok.0 (c.resolve.auto.levels ∙ ap length c.deref_mut-3.ensures.value)
          ∙ c.resolve.ensures.levels ∙ levels_same c.args.whole.now c.deref-2.ensures.value c.deref.ensures.value;
    }

pub returns-clause-by : goal.returns-clause-by
returns-clause-by c =
    let a = c.args.found.now in
    record {
      drives_are = ap (λ (l : List Drive). map Some l) (lent_whole a.drives.len a.drives.items c.gather.new.into a.drives.ok.0 (c.gather.auto.into ∙ ap length c.deref_mut.ensures.value)) ∙ c.gather.ensures;
      closed_are = ap (λ (l : List Bool). map Some l) (lent_whole a.closed.len a.closed.items c.gather-2.new.into a.closed.ok.0 (c.gather-2.auto.into ∙ ap length c.deref_mut-2.ensures.value)) ∙ c.gather-2.ensures;
    }
