-- What parts are loaded with, without where the chips lie in memory.
use Rattle.any_part.specs.Start as starts
use Rattle.project_run.specs.declared.running.Contents.{Contents}

abbrev pub contents_of : Contents → starts.Contents
contents_of has = record { flash = has.flash; chips = has.chips.now; budget = has.budget }
