use Rattle.std.proofs.Common.{refl}
use Rattle.live_project.proofs.GoesLemmas.{closes}
use Rattle.live_project.proofs.live.Live.end.Goals as goal

pub returns-clause-wrote : goal.returns-clause-wrote
returns-clause-wrote g c = λ b s said here.
    let outside = g.B.Bench.outside in
    closes c.args.self.now (outside c.args.start.now.value) (outside c.args.bench.now) c.requires.may (λ l n. refl) c.close.result (outside c.close.new.bench) c.close.ensures.wrote b s said here
