use Rattle.std.proofs.Common.{◌∙◌}
use Rattle.project_run.specs.Contents.{contents_of}
use Rattle.live_start.proofs.StartLemmas.{all_loaded}
use Rattle.live_start.proofs.ready.Ready.load.Goals as goal

pub returns : goal.returns
returns c =
    let is = c.in-Ok.ensures in
    record {
      loaded = is;
      looks = c.in-Ok-new.ensures ∙ c.wiring.ensures ∙ is.wiring;
      few = c.requires.plan.few;
      many = all_loaded (contents_of c.args.contents) c.args.plan c.in-Ok.loaded.board.parts c.requires.plan is.states;
      script = c.requires.inputs;
    }
