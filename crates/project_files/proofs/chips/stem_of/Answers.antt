use Rattle.project_files.proofs.DocumentLemmas.{stripped}
use Rattle.project_files.proofs.chips.stem_of.Goals as goal

pub returns : goal.returns
returns c = stripped c.args.path.now c.strip_suffix.result c.strip_suffix.ensures.cases
