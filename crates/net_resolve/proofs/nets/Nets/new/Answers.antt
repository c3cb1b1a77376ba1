use Rattle.net_resolve.proofs.Common.{◌∙◌, ℕ, ap, refl, replicate, false, vec_len, MarksView}
use Rattle.sim_base.specs.declared.signal.Drive.TheVariants as drives
use Rattle.sim_base.specs.declared.signal.Level.TheVariants as levels
use Rattle.net_resolve.proofs.FirstLemmas.{first_nets, first_invariant}
use Rattle.net_resolve.proofs.nets.Nets.new.Goals as goal

pub invariant_of-result : goal.invariant_of-result
invariant_of-result c =
    let ds = c.in_ok-drives.drives in
    let cs = c.in_ok-closed.closed in
    let ls = c.in_ok-levels.levels in
    let m = c.in_ok-marks in
    first_invariant c.args.wiring (vec_len ls) (record { levels = ls; pin_levels = c.in_ok-pin_levels.pin_levels; changed = c.in_ok-changed.changed })
    ls.ok.0 c.in_ok-levels.ensures.items c.in_ok-labels.labels.items c.in_ok-labels.ensures.cut
    c.in_ok-labels.subcircuits.items c.in_ok-labels.ensures.long c.in_ok-labels.ensures.subcircuits
    m.marks.room m.marks.marked m.ensures.room m.ensures.few m.ensures.all
    (ap (λ (x : MarksView). x.room) c.in_ok-changed.ensures) (c.in_ok-pin_levels.ensures.items ∙ ap (λ (k : ℕ). replicate k levels.Z) c.len-3.ensures)
    (vec_len ds) ds.items ds.ok.0 (c.in_ok-drives.ensures.items ∙ ap (λ (k : ℕ). replicate k drives.Z) c.len.ensures)
    (vec_len cs) cs.items cs.ok.0 (c.in_ok-closed.ensures.items ∙ ap (λ (k : ℕ). replicate k false) c.len-2.ensures)
    (record { watched = c.in_ok-watched.watched; kept = c.in_ok-kept.kept; differing = 0 }) (c.in_ok-watched.ensures.items ∙ ap (λ (k : ℕ). replicate k false) c.len-4.ensures)
    (c.in_ok-kept.ensures.items ∙ ap (λ (k : ℕ). replicate k drives.Z) c.len-5.ensures) refl

pub returns : goal.returns
returns c =
    first_nets c.args.wiring c.in_ok-drives.drives.items c.in_ok-closed.closed.items c.in_ok-levels.levels.items c.in_ok-changed.changed.marked
    c.in_ok-watched.watched.items c.in_ok-kept.kept.items
    (c.in_ok-drives.ensures.items ∙ ap (λ (k : ℕ). replicate k drives.Z) c.len.ensures) (c.in_ok-closed.ensures.items ∙ ap (λ (k : ℕ). replicate k false) c.len-2.ensures)
    c.in_ok-levels.ensures.items (ap (λ (x : MarksView). x.marked) c.in_ok-changed.ensures)
    (c.in_ok-watched.ensures.items ∙ ap (λ (k : ℕ). replicate k false) c.len-4.ensures)
