use Rattle.std.proofs.Common.{rules}
use Rattle.bench_real.proofs.copying.read_up_to.Goals as goal
use Rattle.bench_real.proofs.CopyLemmas.{whole}

pub returns-in-Ok-clause-whole : goal.returns-in-Ok-clause-whole
returns-in-Ok-clause-whole g c = λ _. whole (g.F.Read.remaining c.args.file) c.read_to_end.new.buf.items c.args.limit (search rules) (search rules)
