use Rattle.cli_project.proofs.InputLemmas.{rising_read}
use Rattle.cli_project.proofs.project.read_script_of.Goals as goal

pub returns-in-Some-clause-rising : goal.returns-in-Some-clause-rising
returns-in-Some-clause-rising g c = rising_read c.read_document.result c.read_document.ensures.read
