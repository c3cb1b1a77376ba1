-- Outputs without where their names lie in memory.
use Rattle.std.specs.Option.{option_map}
use Rattle.board_outputs.specs.declared.playing.Outputs.{Outputs}
use Rattle.board_outputs.specs.Run as runs

abbrev pub outputs_of : Outputs → runs.Outputs
outputs_of out = record { serial = out.serial; wave = option_map (λ f. f.now) out.wave; report = option_map (λ f. f.now) out.report }
