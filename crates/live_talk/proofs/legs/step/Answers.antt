use Rattle.std.proofs.Common.{◌≡◌, ◌∙◌, ℕ, List, map, refl, ap}
use Rattle.sim_base.specs.declared.signal.Drive.{Drive}
use Rattle.sim_base.specs.declared.signal.Level.{Level}
use Rattle.text_model.specs.Wave.{shown_value}
use Rattle.live_probe.specs.Levels.{levels_in, value_in}
use Rattle.live_talk.specs.declared.waiting.Wait.{Wait}
use Rattle.live_talk.specs.Waiting.{wait_of, seen}
use Rattle.live_talk.specs.Legs.{Stepped}
use Rattle.live_talk.proofs.StepLemmas.{step_held}
use Rattle.live_talk.proofs.legs.step.Goals as goal

pub returns-clause-ok : goal.returns-clause-ok
returns-clause-ok g c = λ number e.
    let s = c.args.talk.now.live in
    let new = c.advance.new.talk.live in
    let gone = c.in-Ok.ensures.gone refl in
    let n : number ≡ c.held.result = cc in
    let stepped : Stepped g.P.Part s new.cycle = record {
      levels = λ t from to. (c.advance.ensures.still t from to).0;
      drives = λ t from to. (c.advance.ensures.still t from to).1;
      silent = c.advance.ensures.silent;
    } in
    let saw : c.as_slice.result.now ≡ map (λ (w : Wait). seen (value_in g.P.Part s s.cycle) (wait_of w)) c.args.waits.now =
    c.as_slice.ensures.value ∙ c.values_seen-before.ensures
    ∙ ap (λ (l : List Level). map (λ (w : Wait). seen (shown_value l c.drives.result.now) (wait_of w)) c.args.waits.now) (c.levels.ensures ∙ c.requires.looked.levels)
    ∙ ap (λ (d : List Drive). map (λ (w : Wait). seen (shown_value (levels_in g.P.Part s s.cycle) d) (wait_of w)) c.args.waits.now) (c.drives.ensures ∙ c.requires.looked.drives) in
    n ∙ step_held g.P.Part s new (map wait_of c.args.waits.now) c.levels-2.result.now c.drives-2.result.now c.total.result c.held.result gone.live c.advance.ensures.further stepped
    (c.levels-2.ensures ∙ c.look.ensures.levels) (c.drives-2.ensures ∙ c.look.ensures.drives) (c.total.ensures ∙ gone.talks.total) (c.held.ensures (value_in g.P.Part s s.cycle) saw)
