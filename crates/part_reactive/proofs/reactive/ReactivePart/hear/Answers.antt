use Rattle.std.proofs.Common.{◌≡◌, ◌++◌, ℕ, List, length, take, None, ap, ◌∙◌}
use Rattle.std.proofs.Math.Seq.{take-append_seam}
use Rattle.std.proofs.lemmas.List.{length-take-le}
use Rattle.sim_base.specs.declared.signal.Level.{Level}
use Rattle.part_reactive.specs.Reaction.{Reacting}
use Rattle.part_reactive.specs.ReactiveAt.{ReactiveAt}
use Rattle.part_reactive.proofs.StillLemmas.{hears}
use Rattle.part_reactive.proofs.reactive.ReactivePart.hear.Goals as goal

pub returns-clause-hears : goal.returns-clause-hears
returns-clause-hears g c changed answers =
    let b = g.B.Behaviour in
    let state : ReactiveAt g.row.B.Denot → Reacting b.Own = λ x. record { own = b.own x.behaviour; held = x.held } in
    let pins : c.from-pins.result ≡ length (b.reaction.drives (b.own c.args.self.now.behaviour)) =
    c.from-pins.ensures ∙ c.self.invariant.pins ∙ ap (λ (x : ReactiveAt g.row.B.Denot). length (b.reaction.drives (b.own x.behaviour))) c.self.view_is in
    let given = ap (λ (n : ℕ). take n c.args.levels.now) pins in
    let own_is = c.react-changed.ensures.own ∙ ap (λ (n : ℕ). b.reaction.react (b.own c.self.inside.behaviour) (take n c.self.inside.held) (take c.from-pins.result c.args.levels.now) None) c.from-pins.ensures ∙ ap (λ (l : List Level). b.reaction.react (b.own c.self.inside.behaviour) (take c.self.inside.pins c.self.inside.held) l None) given in
    let long : length c.keep.new.held ≡ c.self.inside.pins =
    ap (λ (l : List Level). length l) c.keep.ensures ∙ length-take-le c.from-pins.result c.args.levels.now (rw pins c.requires.pins) ∙ c.from-pins.ensures in
    let kept : (rest : List Level) → take c.self.inside.pins (c.keep.new.held ++ rest) ≡ c.keep.new.held = λ rest. rw (← long) (take-append_seam c.keep.new.held rest) in
    hears b.reaction g.met.B.Behaviour.laws _ _ _ _ c.args.t _ _ _ c.react-changed.result changed (ap state c.self.view_is) (ap (λ (x : ReactiveAt g.row.B.Denot). x.cycle) c.self.view_is) c.self.invariant.agrees c.requires.quiet
    own_is (kept _ ∙ c.keep.ensures ∙ given) c.react-changed.ensures.drives c.react-changed.ensures.contacts answers
