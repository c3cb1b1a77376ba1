use Rattle.std.proofs.Common.{ℕ, List, refl, arith}
use Rattle.sim_outcome_model.specs.Work.{Reading}
use Rattle.sim_outcome_model.proofs.ReadLemmas.{first_stops, got_both}
use Rattle.board_make.specs.Board.{chip_file, diagram, project}
use Rattle.board_make.specs.Firmware.{image}
use Rattle.board_make.specs.Inverter.{inverter}
use Rattle.chip_module.specs.Binary.{Binary}
use Rattle.project_model.specs.Work.{Work, in_folder}
use Rattle.sim_io.specs.Outcomes.{outcome_of}
use Rattle.cli_project.specs.Works.{work_of}
use Rattle.cli_project.proofs.ProjectLemmas.{same_here}
use Rattle.cli_make.specs.Answer.{BehindModule, JudgedBytes, folder, source}
use Rattle.cli_make.proofs.MakeLemmas.{few_parts, steady_bytes}
use Rattle.cli_make.proofs.project.made_work.Goals as goal

pub judged-requires : goal.judged-requires
judged-requires c = rw c.in-Ok.ensures.inverter (omega arith)

pub behind_module-requires-clause-chips : goal.behind_module-requires-clause-chips
behind_module-requires-clause-chips c = rw c.in-Ok.ensures.project refl

pub behind_module-requires-clause-parts : goal.behind_module-requires-clause-parts
behind_module-requires-clause-parts c = rw c.in-Ok.ensures.diagram (few_parts c.args.seed)

pub behind_module-requires-clause-few : goal.behind_module-requires-clause-few
behind_module-requires-clause-few c = rw c.in-Ok.ensures.pins (omega arith)

pub returns-in-Ok-judged-clause-got : goal.returns-in-Ok-judged-clause-got
returns-in-Ok-judged-clause-got c = λ a.
    let seed : ℕ = c.args.seed in
    let name : List ℕ = in_folder folder chip_file.binary in
    let next : Binary → Reading Work = λ binary. BehindModule project (image seed) (diagram seed) (source binary) in
    let made = c.in-Ok.ensures in
    got_both (JudgedBytes name inverter) next (steady_bytes name inverter) c.in-Ok-judged.binary work_of outcome_of c.behind_module.result a a a (same_here a)
    (rw made.inverter at (c.in-Ok-judged.ensures a)) (rw (made.project, made.flash, made.diagram, made.pins) at (c.behind_module.ensures.got a))

pub returns-in-Err-clause-got : goal.returns-in-Err-clause-got
returns-in-Err-clause-got c = λ a.
    let seed : ℕ = c.args.seed in
    let next : Binary → Reading Work = λ binary. BehindModule project (image seed) (diagram seed) (source binary) in
    first_stops (JudgedBytes (in_folder folder chip_file.binary) inverter) next (outcome_of c.in-Err.end) a a
    (rw c.in-Ok.ensures.inverter at (c.in-Err.ensures a))
