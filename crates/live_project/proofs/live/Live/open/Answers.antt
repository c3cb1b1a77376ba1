use Rattle.std.proofs.Common.{◌∙◌, List, length, map, ap, sym}
use Rattle.board_build.specs.declared.plan.PlanPart.{PlanPart}
use Rattle.board_live.specs.LiveView.{LiveView}
use Rattle.any_part.specs.AnyPart.{AnyPart, state_of}
use Rattle.live_leg.specs.Talks.{TalkTied}
use Rattle.live_talk.specs.Answers.{standing_of}
use Rattle.live_model.specs.Standing.{opened}
use Rattle.live_project.proofs.GoesLemmas.{same_setup}
use Rattle.live_project.proofs.live.Live.open.Goals as goal

pub returns-clause-at : goal.returns-clause-at
returns-clause-at g c = λ has plan ready.
    let talk = c.begin-talk.result in
    let l = ready.loaded in
    let live = c.begin-talk.ensures.live ∙ c.open.ensures in
    let tied = c.begin-talk.ensures.tied in
    record {
      setup = same_setup (map state_of talk.live.start) _ talk.live.wiring _ c.args.ready.loaded.parts _ talk.head.variables _ c.args.wave
          (ap (λ (x : LiveView AnyPart). map state_of x.start) live ∙ l.states)
          (ap (λ (x : LiveView AnyPart). x.wiring) live ∙ l.wiring)
          l.parts
          (ap (λ (t : TalkTied). t.variables) tied ∙ l.shown);
      standing = ap (λ (x : LiveView AnyPart). standing_of x) live ∙ ap opened l.inputs;
      may = record {
        talks = c.begin-talk.ensures.talks;
        wanted = sym (ap (λ (t : TalkTied). t.wave) tied);
        wiring = ready.looks ∙ sym l.wiring ∙ sym (ap (λ (x : LiveView AnyPart). x.wiring) live);
        many = ap (λ (ps : List PlanPart). length ps) l.parts ∙ sym ready.many ∙ sym (ap (λ (x : LiveView AnyPart). length x.start) live);
      };
      has_said = c.begin-talk.ensures.said;
    }
