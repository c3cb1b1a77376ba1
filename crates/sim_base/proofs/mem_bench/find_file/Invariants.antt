use Rattle.std.proofs.Common.{◌≡◌, drop}
use Rattle.sim_base.specs.Mem.{file_in}
use Rattle.sim_base.proofs.mem_bench.find_file.Given as goal

abbrev pub invariant-loop-file : goal.invariant-loop-file
invariant-loop-file l = file_in l.name (drop l.file-index l.files) ≡ file_in l.name l.files
